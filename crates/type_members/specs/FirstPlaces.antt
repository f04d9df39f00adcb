-- Where marks of methods stand first in a list, by a map of marks to places.
use Rattle.std.specs.Prelude.{◌≡◌, ℕ, suc, bytes_eq, List, [], ◌∷◌, Option, Some, if◌then◌else◌}
use Rattle.std.specs.Ordering.{nat_cmp}
use Rattle.std.specs.Cmp.Lexicographic.{slice_cmp}
use Rattle.std.specs.BTreeMap.{BTreeMap, get_by}
use Rattle.std.specs.Borrow.{Bor}

abbrev pub known_place : List ℕ → BTreeMap (Bor (List ℕ)) ℕ → Option ℕ
known_place mark firsts = get_by (λ k. slice_cmp nat_cmp mark k.now) firsts

-- a map knows the place of one more mark
abbrev pub KnowsPlace : List ℕ → ℕ → BTreeMap (Bor (List ℕ)) ℕ → BTreeMap (Bor (List ℕ)) ℕ → Type 0
KnowsPlace mark place old new =
    (other : List ℕ) → known_place other new ≡ (if bytes_eq mark other then Some place else known_place other old)

-- the number of a mark whose first place is known
abbrev pub numbered : List ℕ → ℕ → ℕ
numbered [] place = 0
numbered (word ∷ words) place = suc place
