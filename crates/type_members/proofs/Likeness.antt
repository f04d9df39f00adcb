-- Methods that have one name and one signature.
use Rattle.std.proofs.Common.{◌≡◌, ℕ, inl, inr, true, ◌⊎◌, List, Option, Some, None, refl, sym, ap, ◌∙◌, subst}
use Rattle.std.proofs.lemmas.Bool.{eqb-true, or_cases, or_left, or_right, and_parts, and_from}
use Rattle.std.proofs.lemmas.Slice.Eq.{bytes_eq-Decides}
use Rattle.std.specs.Prelude.{bytes_eq}
use Rattle.type_model.specs.Module.{Module}
use Rattle.type_members.specs.declared.member.Member.{Member}
use Rattle.type_members.specs.declared.member.Member.TheVariants.{Method, Field, Core, Named}
use Rattle.type_members.specs.Found.{is_spelled}
use Rattle.type_members.specs.Chosen.{same_member, name_of, words_of, is_like}
use Rattle.type_members.specs.Akin.{like, akin}

pub same_is : (x y : Member) → same_member x y ≡ true → x ≡ y
same_is (Method a) (Method b) e = ap Method (eqb-true a b e)
same_is (Core a) (Core b) e = ap Core (eqb-true a b e)
same_is (Method a) (Field b) e = cc
same_is (Method a) (Core b) e = cc
same_is (Method a) (Named b) e = cc
same_is (Core a) (Method b) e = cc
same_is (Core a) (Field b) e = cc
same_is (Core a) (Named b) e = cc
same_is (Field a) y e = cc
same_is (Named a) y e = cc

spelled_is : (words : List ℕ) (own : Option (List ℕ)) → is_spelled words own ≡ true → own ≡ Some words
spelled_is words None e = cc
spelled_is words (Some own) e = ap Some ((bytes_eq-Decides own words).0 e)

spelled_so : (words : List ℕ) (own : Option (List ℕ)) → own ≡ Some words → is_spelled words own ≡ true
spelled_so words own e = ap (is_spelled words) e ∙ (bytes_eq-Decides words words).1 refl

pub record Alike (m : Module) (name : List ℕ) (spelled : Option (List ℕ)) (y : Member) : Type 0 where
  pub words : List ℕ
  pub one : spelled ≡ Some words
  pub other : words_of m y ≡ Some words
  pub named : name_of m y ≡ name

module _ (m : Module) where
  pub alike : (name : List ℕ) (spelled : Option (List ℕ)) (y : Member) → is_like name spelled m y ≡ true → Alike m name spelled y
  alike name None y e = cc
  alike name (Some words) y e =
      let parts = and_parts (bytes_eq (name_of m y) name) (is_spelled words (words_of m y)) e in
      record { words = words; one = refl; other = spelled_is words (words_of m y) parts.1; named = (bytes_eq-Decides (name_of m y) name).0 parts.0 }

  so_like : (name words : List ℕ) (y : Member) → words_of m y ≡ Some words → name_of m y ≡ name → is_like name (Some words) m y ≡ true
  so_like name words y other named =
      and_from (bytes_eq (name_of m y) name) (is_spelled words (words_of m y))
      ((bytes_eq-Decides (name_of m y) name).1 named) (spelled_so words (words_of m y) other)

  pub from_alike : (name : List ℕ) (spelled : Option (List ℕ)) (y : Member) → Alike m name spelled y → is_like name spelled m y ≡ true
  from_alike name spelled y a =
      subst (λ (w : Option (List ℕ)). is_like name w m y ≡ true) (sym a.one) (so_like name a.words y a.other a.named)

  pub like_back : (x y : Member) → like m x y ≡ true → like m y x ≡ true
  like_back x y e =
      let a = alike (name_of m x) (words_of m x) y e in
      from_alike (name_of m y) (words_of m y) x (record { words = a.words; one = a.other; other = a.one; named = sym a.named })

  pub like_on : (x y z : Member) → like m x y ≡ true → like m y z ≡ true → like m x z ≡ true
  like_on x y z e f =
      let a = alike (name_of m x) (words_of m x) y e in
      let b = alike (name_of m y) (words_of m y) z f in
      from_alike (name_of m x) (words_of m x) z
      (record { words = a.words; one = a.one; other = b.other ∙ sym b.one ∙ a.other; named = b.named ∙ a.named })

  akin_cases : (x y : Member) → akin m x y ≡ true → (x ≡ y) ⊎ (like m x y ≡ true)
  akin_cases x y e = elim (or_cases (same_member x y) (like m x y) e) [ inl is ↦ inl (same_is x y is) | inr is ↦ inr is ]

  pub akin_like : (x y : Member) → like m x y ≡ true → akin m x y ≡ true
  akin_like x y e = or_right (same_member x y) (like m x y) e

  pub akin_same : (x y : Member) → same_member x y ≡ true → akin m x y ≡ true
  akin_same x y e = or_left (same_member x y) (like m x y) e

  -- what is like a method's kin is its kin, and what its kin is like is so, too
  pub akin_on : (x y z : Member) → akin m x y ≡ true → like m y z ≡ true → akin m x z ≡ true
  akin_on x y z e f = elim (akin_cases x y e) [
    | inl is ↦ akin_like x z (subst (λ (w : Member). like m w z ≡ true) (sym is) f)
    | inr is ↦ akin_like x z (like_on x y z is f)
  ]

  pub akin_back : (x y z : Member) → akin m x z ≡ true → like m y z ≡ true → akin m x y ≡ true
  akin_back x y z e f = akin_on x z y e (like_back y z f)
