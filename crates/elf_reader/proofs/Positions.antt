-- The first place at which a test passes.
use Rattle.std.proofs.Common.{◌≡◌, ℕ, ◌<◌, Bool, true, false, List, length, get_or, Some, None, refl, arith}
use Rattle.std.specs.Prelude.{position, nat_lt}
use Rattle.std.specs.List.{position_or_len}
use Rattle.std.proofs.lemmas.Bool.{lt-ltb, le-ltb}
use Rattle.std.proofs.lemmas.List.Sums.{position_or_len_is}

pub first_at : {X : Type 0} (p : X → Bool) (xs : List X) (i : ℕ) (d : X) → i < length xs → p (get_or xs i d) ≡ true → ((k : ℕ) → k < i → p (get_or xs k d) ≡ false) → position p xs ≡ Some i
first_at p xs i d h passes before =
    let here : position_or_len p xs ≡ i = position_or_len_is p xs i d (omega arith) before (λ _. passes) in
    let within : nat_lt i (length xs) ≡ true = lt-ltb i (length xs) h in
    rw (here, within) refl

pub at_none : {X : Type 0} (p : X → Bool) (xs : List X) (d : X) → ((k : ℕ) → k < length xs → p (get_or xs k d) ≡ false) → position p xs ≡ None
at_none p xs d before =
    let here : position_or_len p xs ≡ length xs = position_or_len_is p xs (length xs) d (omega arith) before (λ h. absurd (omega arith)) in
    let past : nat_lt (length xs) (length xs) ≡ false = le-ltb (length xs) (length xs) (omega arith) in
    rw (here, past) refl
