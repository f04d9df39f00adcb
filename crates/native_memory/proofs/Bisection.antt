-- Bisection: what it has found so far, and how the number of steps is bounded.
use Rattle.std.proofs.Common.{◌≡◌, ℕ, suc, ◌+◌, ◌-◌, ◌*◌, ◌^◌, ◌<◌, ◌≤◌, List, length, get_or, Option, Some, None, arith, refl}
use Rattle.std.proofs.Math.Nat.{mul-le-mul_left, le-mul_of_pos_right, mul_assoc}
use native.Mathlib.Numerals.{unary_clauses}
use Rattle.native_memory.specs.declared.search.Candidate.{Candidate}
use Rattle.native_memory.specs.AddressSpace.{Block}
use Rattle.native_memory.specs.Search.{Ascends, IsEntry, FindsLast}

-- of the blocks before a place the last one, whose base is at most the address; none where there is no such block
abbrev pub FindsBelow : List Block → ℕ → ℕ → Option Candidate → Type 0
FindsBelow blocks addr low None = low ≡ 0
FindsBelow blocks addr low (Some it) = IsEntry blocks it × (it.base ≤ addr) × (it.at + 1 ≡ low)

pub found_last : (blocks : List Block) (addr low high : ℕ) (found : Option Candidate) → FindsBelow blocks addr low found → high ≤ low
    → ((k : ℕ) (d : Block) → high ≤ k → k < length blocks → addr < (get_or blocks k d).base) → FindsLast blocks addr found
found_last blocks addr low high None low_is meet above = λ k d within. above k d (omega arith) within
found_last blocks addr low high (Some it) found meet above =
    record { entry = found.0; base = found.1; after = λ k d later within. above k d (omega (arith, found.2)) within }

-- an entry whose base is above the address: so are all that stand behind it
pub above_all : (blocks : List Block) (addr place : ℕ) (it : Candidate) → Ascends blocks → IsEntry blocks it → it.at ≡ place → addr < it.base
    → (k : ℕ) (d : Block) → place ≤ k → k < length blocks → addr < (get_or blocks k d).base
above_all blocks addr place it ascends entry here above k d later within =
    omega (arith, ascends it.at k d (omega arith) within, entry.base d)

-- one step more doubles the power
power_more : (a b : ℕ) → b ≤ a → 2 ^ (a + 1 - b) ≡ 2 ^ (a - b) * 2
power_more a b order = let e : a + 1 - b ≡ suc (a - b) = omega arith in rw e (simp unary_clauses refl)

double : (p k : ℕ) → p * 2 * k ≡ p * (2 * k)
double p k = mul_assoc p 2 k

-- while what is left is halved, the power of the steps times what is left stays within the length
pub halved : (before steps after left less n : ℕ) → before ≤ steps → after ≡ steps + 1 → 2 ^ (steps - before) * left ≤ n → 2 * less ≤ left
    → 2 ^ (after - before) * less ≤ n
halved before steps after left less n order one bound half =
    let more : 2 ^ (steps - before) * (2 * less) ≤ 2 ^ (steps - before) * left = mul-le-mul_left (2 ^ (steps - before)) half in
    rw (one, power_more steps before order, double) (omega arith)

-- a step is taken only where something is left
pub within_twice : (before steps after left n : ℕ) → before ≤ steps → after ≡ steps + 1 → 2 ^ (steps - before) * left ≤ n → 0 < left
    → 2 ^ (after - before) ≤ 2 * n + 1
within_twice before steps after left n order one bound some =
    let least : 2 ^ (steps - before) ≤ 2 ^ (steps - before) * left = le-mul_of_pos_right (2 ^ (steps - before)) some in
    rw (one, power_more steps before order) (omega arith)
