-- What bisection finds in the list of blocks.
use Rattle.std.specs.Prelude.{◌≡◌, ℕ, ◌<◌, ◌≤◌, Bool, true, false, List, [], ◌∷◌, zero, suc, length}
use Rattle.std.specs.Prelude.{get_or, Option, Some, None}
use Rattle.native_memory.specs.declared.search.Candidate.{Candidate}
use Rattle.std.specs.Prelude.{is_some}
use Rattle.native_memory.specs.AddressSpace.{Block, AddressSpace}
use Rattle.native_memory.specs.Ranges.{covers, may_write, bytes_at}

-- bases never fall along the list
abbrev pub Ascends : List Block → Type 0
Ascends blocks = (i j : ℕ) (d : Block) → i ≤ j → j < length blocks
    → (get_or blocks i d).base ≤ (get_or blocks j d).base

-- the candidate tells what stands at its place
pub record IsEntry (blocks : List Block) (it : Candidate) : Type 0 where
  pub within : it.at < length blocks
  pub base : (d : Block) → (get_or blocks it.at d).base ≡ it.base
  pub size : (d : Block) → (get_or blocks it.at d).size ≡ it.size

-- the candidate is the last block whose base is at most the address
pub record IsLast (blocks : List Block) (addr : ℕ) (it : Candidate) : Type 0 where
  pub entry : IsEntry blocks it
  pub base : it.base ≤ addr
  pub after : (k : ℕ) (d : Block) → it.at < k → k < length blocks → addr < (get_or blocks k d).base

-- the last block whose base is at most the address, or none where each base is above it
abbrev pub FindsLast : List Block → ℕ → Option Candidate → Type 0
FindsLast blocks addr None = (k : ℕ) (d : Block) → k < length blocks
    → addr < (get_or blocks k d).base
FindsLast blocks addr (Some it) = IsLast blocks addr it

-- the test is true of no block
abbrev pub FailsAll : (Block → Bool) → List Block → Type 0
FailsAll test [] = Unit {0}
FailsAll test (block ∷ rest) = (test block ≡ false) × FailsAll test rest

-- the test is true of just the block at this place
abbrev pub PicksAt : (Block → Bool) → List Block → ℕ → Type 0
PicksAt test [] at = ⊥
PicksAt test (block ∷ rest) zero = (test block ≡ true) × FailsAll test rest
PicksAt test (block ∷ rest) (suc at) = (test block ≡ false) × PicksAt test rest at

abbrev pub Picks : (Block → Bool) → List Block → Option ℕ → Type 0
Picks test blocks None = FailsAll test blocks
Picks test blocks (Some at) = PicksAt test blocks at

-- the place of the block that covers a range, where it may be written
abbrev pub IsWritable : AddressSpace → ℕ → ℕ → Option ℕ → Type 0
IsWritable space addr len None = bytes_at may_write space addr len ≡ None
IsWritable space addr len (Some at) =
    PicksAt (covers addr len) space.blocks at × (is_some (bytes_at may_write space addr len) ≡ true)
