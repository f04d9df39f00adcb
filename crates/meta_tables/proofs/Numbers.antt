-- Numbers in bytes.
use Rattle.std.proofs.Common.{◌≡◌, ℕ, ◌+◌, ◌*◌, List, [], ◌∷◌, ◌++◌, map, refl, sym, ap, ◌∙◌, arith}
use Rattle.std.specs.List.{range_with_len}
use Rattle.std.proofs.lemmas.List.FromFn.{map-range_with_len_more}
use Rattle.byte_view.specs.Numbers.{le}

pub le_none : (bytes : List ℕ) (at : ℕ) → le bytes at 0 ≡ 0
unfolding le
le_none bytes at = refl

-- one more unit
pub units_more : (bytes : List ℕ) (at : ℕ) (units more : List ℕ) (x : ℕ) → units ≡ map (λ k. le bytes (2 * k) 2) (range_with_len 0 at) → more ≡ units ++ x ∷ [] → x ≡ le bytes (2 * at) 2
    → more ≡ map (λ k. le bytes (2 * k) 2) (range_with_len 0 (at + 1))
units_more bytes at units more x before pushed e =
    pushed ∙ ap (λ us. us ++ x ∷ []) before ∙ ap (λ u. map (λ k. le bytes (2 * k) 2) (range_with_len 0 at) ++ u ∷ []) e ∙ sym (map-range_with_len_more (λ k. le bytes (2 * k) 2) 0 at at (omega arith))
