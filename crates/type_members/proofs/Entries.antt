-- What is found first along a list.
use Rattle.std.proofs.Common.{◌≡◌, ℕ, ◌+◌, ◌<◌, Bool, true, false, cond, List, [], ◌∷◌, ◌++◌, length, drop, get_or, Option, Some, None, refl, sym, ap, ◌∙◌}
use Rattle.std.specs.Prelude.{filter, find, is_some}
use Rattle.std.specs.List.{flat_map}
use Rattle.managed_value.specs.declared.names.TypeId.{TypeId}
use Rattle.type_model.specs.Module.{Module}
use Rattle.type_members.specs.declared.member.Member.{Member}
use Rattle.type_members.specs.Found.{first_of}
use Rattle.type_members.specs.Chosen.{entry, entry_at}
use Rattle.type_members.proofs.SlotPlaces.{opened}

pub first_some : {A : Type 0} (a b : Option A) → is_some a ≡ true → first_of a b ≡ a
first_some None b is = cc
first_some (Some x) b is = refl

pub first_none : {A : Type 0} (a b : Option A) → is_some a ≡ false → first_of a b ≡ b
first_none None b is = refl
first_none (Some x) b is = cc

module _ (m : Module) (x : Member) (ids : List TypeId) (k : ℕ) (id : TypeId) (found : Option Member) where
  entry_opens : k < length ids → found ≡ entry_at m x (get_or ids k id) → entry m x (drop k ids) ≡ first_of found (entry m x (drop (k + 1) ids))
  entry_opens within is =
      ap (entry m x) (opened ids k (k + 1) id refl within) ∙ sym (ap (λ (o : Option Member). first_of o (entry m x (drop (k + 1) ids))) is)

  pub entry_here : k < length ids → found ≡ entry_at m x (get_or ids k id) → is_some found ≡ true → entry m x (drop k ids) ≡ found
  entry_here within is some = entry_opens within is ∙ first_some found (entry m x (drop (k + 1) ids)) some

  pub entry_on : k < length ids → found ≡ entry_at m x (get_or ids k id) → is_some found ≡ false → entry m x (drop k ids) ≡ entry m x (drop (k + 1) ids)
  entry_on within is none = entry_opens within is ∙ first_none found (entry m x (drop (k + 1) ids)) none

module _ {A B : Type 0} (p : B → Bool) (f : A → List B) where
  append_if : (y : B) (ys zs : List B) (b : Bool) → find p (ys ++ zs) ≡ first_of (find p ys) (find p zs)
      → cond b (Some y) (find p (ys ++ zs)) ≡ first_of (cond b (Some y) (find p ys)) (find p zs)
  append_if y ys zs true rest = refl
  append_if y ys zs false rest = rest

  find_either : (ys zs : List B) → find p (ys ++ zs) ≡ first_of (find p ys) (find p zs)
  find_either [] zs = refl
  find_either (y ∷ ys) zs = append_if y ys zs (p y) (find_either ys zs)

  module _ (ids : List A) (k : ℕ) (id : A) (found : Option B) where
    find_opens : k < length ids → found ≡ find p (f (get_or ids k id)) → find p (flat_map f (drop k ids)) ≡ first_of found (find p (flat_map f (drop (k + 1) ids)))
    find_opens within is =
        ap (λ (l : List A). find p (flat_map f l)) (opened ids k (k + 1) id refl within)
        ∙ find_either (f (get_or ids k id)) (flat_map f (drop (k + 1) ids))
        ∙ sym (ap (λ (o : Option B). first_of o (find p (flat_map f (drop (k + 1) ids)))) is)

    pub find_here : k < length ids → found ≡ find p (f (get_or ids k id)) → is_some found ≡ true → find p (flat_map f (drop k ids)) ≡ found
    find_here within is some = find_opens within is ∙ first_some found (find p (flat_map f (drop (k + 1) ids))) some

    pub find_on : k < length ids → found ≡ find p (f (get_or ids k id)) → is_some found ≡ false
        → find p (flat_map f (drop k ids)) ≡ find p (flat_map f (drop (k + 1) ids))
    find_on within is none = find_opens within is ∙ first_none found (find p (flat_map f (drop (k + 1) ids))) none

module _ {A : Type 0} (p q : A → Bool) (rows : List A) (k : ℕ) (row : A) where
  pub row_here : k < length rows → p (get_or rows k row) ≡ true → q (get_or rows k row) ≡ true
      → find q (filter p (drop k rows)) ≡ Some (get_or rows k row)
  row_here within passes is =
      ap (λ (l : List A). find q (filter p l)) (opened rows k (k + 1) row refl within)
      ∙ ap (λ (b : Bool). find q (cond b (get_or rows k row ∷ filter p (drop (k + 1) rows)) (filter p (drop (k + 1) rows)))) passes
      ∙ ap (λ (b : Bool). cond b (Some (get_or rows k row)) (find q (filter p (drop (k + 1) rows)))) is
