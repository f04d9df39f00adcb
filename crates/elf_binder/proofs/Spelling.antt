-- A text in three pieces.
use Rattle.std.proofs.Common.{◌≡◌, ◌≢◌, ℕ, false, List, ◌++◌, sym, ap, ◌∙◌, append_assoc}
use Rattle.std.specs.Prelude.{bytes_eq}
use Rattle.std.specs.Bool.{Decides, one_answer}
use Rattle.std.proofs.lemmas.List.{append_cancel_left, append_cancel_right}
use Rattle.std.proofs.lemmas.Slice.Eq.{bytes_eq-Decides}

never : {P : Type 0} → (P → ⊥) → Decides false P
never not_so = ((λ t. cc), λ p. absurd (not_so p))

module _ (text front name back : List ℕ) where
  -- a text that doesn't begin with the first piece
  pub no_front : ((rest : List ℕ) → text ≢ front ++ rest) → false ≡ bytes_eq text (front ++ name ++ back)
  no_front not_so = one_answer _ _ (never (λ is. not_so (name ++ back) (is ∙ append_assoc front name back))) (bytes_eq-Decides text (front ++ name ++ back))

  module _ (rest : List ℕ) (begins : text ≡ front ++ rest) where
    behind_front : text ≡ front ++ name ++ back → rest ≡ name ++ back
    behind_front is = append_cancel_left front rest (name ++ back) (sym begins ∙ is ∙ append_assoc front name back)

    -- one that doesn't end with the last
    pub no_back : ((before : List ℕ) → rest ≢ before ++ back) → false ≡ bytes_eq text (front ++ name ++ back)
    no_back not_so = one_answer _ _ (never (λ is. not_so name (behind_front is))) (bytes_eq-Decides text (front ++ name ++ back))

    -- else what stands between them decides
    pub between : (middle : List ℕ) → rest ≡ middle ++ back → bytes_eq middle name ≡ bytes_eq text (front ++ name ++ back)
    between middle ends =
        one_answer _ _
        (bytes_eq-Decides middle name) (
          (λ t. append_cancel_right middle name back (sym ends ∙ behind_front ((bytes_eq-Decides text (front ++ name ++ back)).0 t))),
          λ is. (bytes_eq-Decides text (front ++ name ++ back)).1 (begins ∙ ap (λ (l : List ℕ). front ++ l) (ends ∙ ap (λ (l : List ℕ). l ++ back) is) ∙ sym (append_assoc front name back)),
        )
