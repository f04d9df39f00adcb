-- The checked tables.
use Rattle.std.proofs.Common.{◌≡◌, ℕ, zero, suc, ◌<◌, true, List, [], ◌∷◌, get_or, refl, arith, nat_lt}
use Rattle.std.specs.List.{list_all}
use Rattle.std.proofs.lemmas.Bool.Decides.{nat_tests}
use Rattle.byte_view.specs.Cells.{checked_tables}

below : (xs : List ℕ) (k : ℕ) → list_all (λ table. nat_lt table 45) xs ≡ true → get_or xs k 0 < 45
below [] k e = omega arith
below (x ∷ xs) zero e = grind (arith, nat_tests)
below (x ∷ xs) (suc k) e = let rest : list_all (λ table. nat_lt table 45) xs ≡ true = grind (arith, nat_tests) in below xs k rest

pub is_checked : (k : ℕ) → get_or checked_tables k 0 < 45
is_checked k = below checked_tables k refl
