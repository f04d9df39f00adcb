-- Numbers that 64 bits hold only up to a bound are enough to tell whether there is room.
use Rattle.std.proofs.Common.{◌≡◌, ℕ, ◌+◌, ◌-◌, ◌^◌, ◌<◌, ◌≤◌, Bool, true, false, refl, sym, arith}
use Rattle.std.specs.Prelude.{nat_le}
use Rattle.std.proofs.lemmas.Bool.{leb-true, le-leb}
use Rattle.object_store.specs.Weights.{capped}

agree : (a b : Bool) → ((a ≡ true) → b ≡ true) → ((b ≡ true) → a ≡ true) → a ≡ b
agree true b there back = sym (there refl)
agree false true there back = back refl
agree false false there back = refl

-- what is left of a limit takes the capped number just where it takes the whole one
pub capped_room : (used limit weight bytes : ℕ) → used ≤ limit → limit < 2 ^ 64 - 1 → weight ≡ capped bytes → nat_le weight (limit - used) ≡ nat_le (used + bytes) limit
capped_room used limit weight bytes within small is =
    agree (nat_le weight (limit - used)) (nat_le (used + bytes) limit)
    (λ (h : nat_le weight (limit - used) ≡ true). le-leb _ _ (let fits : weight ≤ limit - used = leb-true _ _ h in omega (arith, is)))
    (λ (h : nat_le (used + bytes) limit ≡ true). le-leb _ _ (let fits : used + bytes ≤ limit = leb-true _ _ h in omega (arith, is)))
