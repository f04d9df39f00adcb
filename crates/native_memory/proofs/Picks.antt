-- What follows where a test is true of just the block at a place of the list.
use Rattle.std.proofs.Common.{◌≡◌, ℕ, zero, suc, ◌-◌, ◌<◌, ◌≤◌, ◌≢◌, Bool, true, false, not, ◌&&◌, List, [], ◌∷◌, length, get_or, map, Some, None, arith, ap, refl}
use Rattle.std.specs.Prelude.{slice_set}
use Rattle.std.specs.List.{find, filter, remove}
use Rattle.native_memory.specs.AddressSpace.{Block, changed}
use Rattle.std.proofs.lemmas.Bool.Decides.{nat_tests}
use Rattle.native_memory.specs.Ranges.{covers}
use Rattle.native_memory.specs.Placement.{edge_of, stands_at, holds_address}
use Rattle.native_memory.specs.Sound.{LieBetween}
use Rattle.native_memory.specs.Search.{Ascends, IsLast, FailsAll, PicksAt}
use Rattle.native_memory.specs.declared.search.Candidate.{Candidate}

pub find_fails : (test : Block → Bool) (blocks : List Block) → FailsAll test blocks → find test blocks ≡ None
find_fails test [] fails = refl
find_fails test (block ∷ rest) fails = rw fails.0 (find_fails test rest fails.1)

pub find_picked : (test : Block → Bool) (blocks : List Block) (at : ℕ) (d : Block) → PicksAt test blocks at → find test blocks ≡ Some (get_or blocks at d)
find_picked test [] at d picks = absurd picks
find_picked test (block ∷ rest) zero d picks = rw picks.0 refl
find_picked test (block ∷ rest) (suc at) d picks = rw picks.0 (find_picked test rest at d picks.1)

pub changed_fails : (test : Block → Bool) (change : Block → Block) (blocks : List Block) → FailsAll test blocks → map (changed test change) blocks ≡ blocks
changed_fails test change [] fails = refl
changed_fails test change (block ∷ rest) fails = rw fails.0 (ap (λ more. block ∷ more) (changed_fails test change rest fails.1))

pub changed_picked : (test : Block → Bool) (change : Block → Block) (blocks : List Block) (at : ℕ) (d : Block) → PicksAt test blocks at
    → map (changed test change) blocks ≡ slice_set blocks at (change (get_or blocks at d))
changed_picked test change [] at d picks = absurd picks
changed_picked test change (block ∷ rest) zero d picks = rw picks.0 (ap (λ more. change block ∷ more) (changed_fails test change rest picks.1))
changed_picked test change (block ∷ rest) (suc at) d picks = rw picks.0 (ap (λ more. block ∷ more) (changed_picked test change rest at d picks.1))

pub kept_fails : (test : Block → Bool) (blocks : List Block) → FailsAll test blocks → filter (λ block. not (test block)) blocks ≡ blocks
kept_fails test [] fails = refl
kept_fails test (block ∷ rest) fails = rw fails.0 (ap (λ more. block ∷ more) (kept_fails test rest fails.1))

pub kept_picked : (test : Block → Bool) (blocks : List Block) (at : ℕ) → PicksAt test blocks at → filter (λ block. not (test block)) blocks ≡ remove blocks at
kept_picked test [] at picks = absurd picks
kept_picked test (block ∷ rest) zero picks = rw picks.0 (kept_fails test rest picks.1)
kept_picked test (block ∷ rest) (suc at) picks = rw picks.0 (ap (λ more. block ∷ more) (kept_picked test rest at picks.1))

pub picked_within : (test : Block → Bool) (blocks : List Block) (at : ℕ) → PicksAt test blocks at → at < length blocks
picked_within test [] at picks = absurd picks
picked_within test (block ∷ rest) zero picks = omega arith
picked_within test (block ∷ rest) (suc at) picks = let more : at < length rest = picked_within test rest at picks.1 in omega arith

-- A test that asks for an address, and is true of no block whose base is above it and of none that ends at or below it.
pub record AsksFor (test : Block → Bool) (addr : ℕ) : Type 0 where
  pub above : (block : Block) → addr < block.base → test block ≡ false
  pub below : (block : Block) → edge_of block ≤ addr → test block ≡ false

pub first_base : (from end : ℕ) (blocks : List Block) (at : ℕ) (d : Block) → LieBetween from blocks end → at < length blocks → from ≤ (get_or blocks at d).base
first_base from end [] at d lie within = absurd (omega arith)
first_base from end (block ∷ rest) zero d lie within = lie.0
first_base from end (block ∷ rest) (suc at) d lie within =
    let more : edge_of block ≤ (get_or rest at d).base = first_base (edge_of block) end rest at d lie.1 (omega arith) in
    let low : from ≤ block.base = lie.0 in
    omega arith

pub ascends : (from end : ℕ) (blocks : List Block) → LieBetween from blocks end → Ascends blocks
ascends from end [] lie i j d order within = absurd (omega arith)
ascends from end (block ∷ rest) lie zero zero d order within = omega arith
ascends from end (block ∷ rest) lie zero (suc j) d order within =
    let more : edge_of block ≤ (get_or rest j d).base = first_base (edge_of block) end rest j d lie.1 (omega arith) in omega arith
ascends from end (block ∷ rest) lie (suc i) zero d order within = absurd (omega arith)
ascends from end (block ∷ rest) lie (suc i) (suc j) d order within = ascends (edge_of block) end rest lie.1 i j d (omega arith) (omega arith)

pub fails_above : (test : Block → Bool) (addr : ℕ) (blocks : List Block) → AsksFor test addr
    → ((k : ℕ) (d : Block) → k < length blocks → addr < (get_or blocks k d).base) → FailsAll test blocks
fails_above test addr [] asks above = tt
fails_above test addr (block ∷ rest) asks above =
    (asks.above block (above zero block (omega arith)), fails_above test addr rest asks (λ k d within. above (suc k) d (omega arith)))

-- the test is true of the last block whose base is at most the address, and so of no other
pub picked_last : (test : Block → Bool) (addr from end : ℕ) (blocks : List Block) (at : ℕ) → AsksFor test addr → LieBetween from blocks end
    → at < length blocks → ((d : Block) → (get_or blocks at d).base ≤ addr)
    → ((k : ℕ) (d : Block) → at < k → k < length blocks → addr < (get_or blocks k d).base)
    → ((d : Block) → test (get_or blocks at d) ≡ true) → PicksAt test blocks at
picked_last test addr from end [] at asks lie within base after passes = absurd (omega arith)
picked_last test addr from end (block ∷ rest) zero asks lie within base after passes =
    (passes block, fails_above test addr rest asks (λ k d more. after (suc k) d (omega arith) (omega arith)))
picked_last test addr from end (block ∷ rest) (suc at) asks lie within base after passes =
    let more : edge_of block ≤ (get_or rest at block).base = first_base (edge_of block) end rest at block lie.1 (omega arith) in
    let low : (get_or rest at block).base ≤ addr = base block in (
      asks.below block (omega arith),
      picked_last test addr (edge_of block) end rest at asks lie.1 (omega arith) base (λ k d later more. after (suc k) d (omega arith) (omega arith)) passes,
    )

-- the test is false of the last block whose base is at most the address, and so of every block
pub fails_last : (test : Block → Bool) (addr from end : ℕ) (blocks : List Block) (at : ℕ) → AsksFor test addr → LieBetween from blocks end
    → at < length blocks → ((d : Block) → (get_or blocks at d).base ≤ addr)
    → ((k : ℕ) (d : Block) → at < k → k < length blocks → addr < (get_or blocks k d).base)
    → ((d : Block) → test (get_or blocks at d) ≡ false) → FailsAll test blocks
fails_last test addr from end [] at asks lie within base after passes = absurd (omega arith)
fails_last test addr from end (block ∷ rest) zero asks lie within base after passes =
    (passes block, fails_above test addr rest asks (λ k d more. after (suc k) d (omega arith) (omega arith)))
fails_last test addr from end (block ∷ rest) (suc at) asks lie within base after passes =
    let more : edge_of block ≤ (get_or rest at block).base = first_base (edge_of block) end rest at block lie.1 (omega arith) in
    let low : (get_or rest at block).base ≤ addr = base block in (
      asks.below block (omega arith),
      fails_last test addr (edge_of block) end rest at asks lie.1 (omega arith) base (λ k d later more. after (suc k) d (omega arith) (omega arith)) passes,
    )

pub asks_covers : (addr len : ℕ) → 0 < len → AsksFor (covers addr len) addr
asks_covers addr len some = record {
  above = λ block above. grind (arith, nat_tests);
  below = λ block below. grind (arith, nat_tests);
}

pub asks_base : (base : ℕ) → AsksFor (stands_at base) base
asks_base base = record {
  above = λ block above. grind (arith, nat_tests);
  below = λ block below. grind (arith, nat_tests);
}

pub asks_address : (addr : ℕ) → AsksFor (holds_address addr) addr
asks_address addr = record {
  above = λ block above. grind (arith, nat_tests);
  below = λ block below. grind (arith, nat_tests);
}

-- what the last block whose base is at most the address tells of the test
pub picked : (test : Block → Bool) (addr from end : ℕ) (blocks : List Block) (it : Candidate) → AsksFor test addr → LieBetween from blocks end
    → IsLast blocks addr it → ((block : Block) → block.base ≡ it.base → block.size ≡ it.size → test block ≡ true) → PicksAt test blocks it.at
picked test addr from end blocks it asks lie last passes =
    picked_last test addr from end blocks it.at asks lie last.entry.within (λ d. omega (arith, last.entry.base d, last.base)) last.after
    (λ d. passes (get_or blocks it.at d) (last.entry.base d) (last.entry.size d))

pub unpicked : (test : Block → Bool) (addr from end : ℕ) (blocks : List Block) (it : Candidate) → AsksFor test addr → LieBetween from blocks end
    → IsLast blocks addr it → ((block : Block) → block.base ≡ it.base → block.size ≡ it.size → test block ≡ false) → FailsAll test blocks
unpicked test addr from end blocks it asks lie last fails =
    fails_last test addr from end blocks it.at asks lie last.entry.within (λ d. omega (arith, last.entry.base d, last.base)) last.after
    (λ d. fails (get_or blocks it.at d) (last.entry.base d) (last.entry.size d))

-- the range begins and ends in a block of this base and size
pub is_covered : (addr len base size : ℕ) → base ≤ addr → addr - base ≤ size → len ≤ size - (addr - base) → (block : Block) → block.base ≡ base → block.size ≡ size
    → covers addr len block ≡ true
is_covered addr len base size low start end block base_is size_is = grind (arith, nat_tests)

pub is_past : (addr len base size : ℕ) → base ≤ addr → size - (addr - base) < len → 0 < len → (block : Block) → block.base ≡ base → block.size ≡ size
    → covers addr len block ≡ false
is_past addr len base size low past some block base_is size_is = grind (arith, nat_tests)

pub is_beyond : (addr len base size : ℕ) → base ≤ addr → size < addr - base → (block : Block) → block.base ≡ base → block.size ≡ size
    → covers addr len block ≡ false
is_beyond addr len base size low past block base_is size_is = grind (arith, nat_tests)

pub is_base : (base at size : ℕ) → at ≡ base → (block : Block) → block.base ≡ at → block.size ≡ size → stands_at base block ≡ true
is_base base at size same block base_is size_is = grind (arith, nat_tests)

pub is_no_base : (base at size : ℕ) → at ≢ base → (block : Block) → block.base ≡ at → block.size ≡ size → stands_at base block ≡ false
is_no_base base at size other block base_is size_is = grind (arith, nat_tests)

pub picked_true : (test : Block → Bool) (blocks : List Block) (at : ℕ) (d : Block) → PicksAt test blocks at → test (get_or blocks at d) ≡ true
picked_true test [] at d picks = absurd picks
picked_true test (block ∷ rest) zero d picks = picks.0
picked_true test (block ∷ rest) (suc at) d picks = picked_true test rest at d picks.1

pub fails_both : (test also : Block → Bool) (blocks : List Block) → FailsAll test blocks → FailsAll (λ block. test block && also block) blocks
fails_both test also [] fails = tt
fails_both test also (block ∷ rest) fails = (rw fails.0 refl, fails_both test also rest fails.1)

-- both tests are true of just that block, or of none
pub picked_both : (test also : Block → Bool) (blocks : List Block) (at : ℕ) (d : Block) → PicksAt test blocks at → also (get_or blocks at d) ≡ true
    → PicksAt (λ block. test block && also block) blocks at
picked_both test also [] at d picks holds = absurd picks
picked_both test also (block ∷ rest) zero d picks holds = (rw (picks.0, holds) refl, fails_both test also rest picks.1)
picked_both test also (block ∷ rest) (suc at) d picks holds = (rw picks.0 refl, picked_both test also rest at d picks.1 holds)

pub unpicked_both : (test also : Block → Bool) (blocks : List Block) (at : ℕ) (d : Block) → PicksAt test blocks at → also (get_or blocks at d) ≡ false
    → FailsAll (λ block. test block && also block) blocks
unpicked_both test also [] at d picks fails = absurd picks
unpicked_both test also (block ∷ rest) zero d picks fails = (rw (picks.0, fails) refl, fails_both test also rest picks.1)
unpicked_both test also (block ∷ rest) (suc at) d picks fails = (rw picks.0 refl, unpicked_both test also rest at d picks.1 fails)
