-- What a search finds in a list of blocks that grows or changes.
use Rattle.std.proofs.Common.{◌≡◌, ℕ, suc, ◌≤◌, Bool, true, false, cond, List, [], ◌∷◌, ◌++◌, map, Some, arith, refl}
use Rattle.std.specs.Prelude.{All, is_some, option_map}
use Rattle.std.specs.List.{find}
use Rattle.native_memory.specs.AddressSpace.{Block}
use Rattle.native_memory.specs.Placement.{edge_of}
use Rattle.native_memory.specs.Sound.{LieBetween}
use Rattle.native_memory.specs.Search.{FailsAll}
use Rattle.native_memory.proofs.Picks.{AsksFor}

-- the start of a list of blocks lies below what is behind its end
below_all : (from end addr : ℕ) (blocks : List Block) → LieBetween from blocks end → end ≤ addr → from ≤ addr
below_all from end addr [] lie below = let last : from ≤ end = lie in omega arith
below_all from end addr (block ∷ rest) lie below =
    let low : from ≤ block.base = lie.0 in
    let more : edge_of block ≤ addr = below_all (edge_of block) end addr rest lie.1 below in
    omega arith

-- a test that asks for an address fails at all blocks below it
pub fails_before : (test : Block → Bool) (addr from end : ℕ) (blocks : List Block) → AsksFor test addr → LieBetween from blocks end → end ≤ addr → FailsAll test blocks
fails_before test addr from end [] asks lie below = tt
fails_before test addr from end (block ∷ rest) asks lie below =
    (asks.below block (below_all (edge_of block) end addr rest lie.1 below), fails_before test addr (edge_of block) end rest asks lie.1 below)

-- then what stands behind them is looked at
pub find_behind : (test : Block → Bool) (blocks more : List Block) → FailsAll test blocks → find test (blocks ++ more) ≡ find test more
find_behind test [] more fails = refl
find_behind test (block ∷ rest) more fails = rw fails.0 (find_behind test rest more fails.1)

appended_if : (here : Bool) (test : Block → Bool) (block found : Block) (rest more : List Block) → cond here (Some block) (find test rest) ≡ Some found
    → (find test rest ≡ Some found → find test (rest ++ more) ≡ Some found) → cond here (Some block) (find test (rest ++ more)) ≡ Some found
appended_if true test block found rest more is others = is
appended_if false test block found rest more is others = others is

-- what is found is found also where more blocks stand behind
pub find_appended : (test : Block → Bool) (blocks more : List Block) (found : Block) → find test blocks ≡ Some found → find test (blocks ++ more) ≡ Some found
find_appended test [] more found is = cc
find_appended test (block ∷ rest) more found is = appended_if (test block) test block found rest more is (find_appended test rest more found)

mapped_if : (here : Bool) (test : Block → Bool) (change : Block → Block) (block : Block) (rest : List Block)
    → is_some (find test (map change rest)) ≡ is_some (find test rest)
    → is_some (cond here (Some (change block)) (find test (map change rest))) ≡ is_some (cond here (Some block) (find test rest))
mapped_if true test change block rest others = refl
mapped_if false test change block rest others = others

-- a change that the test doesn't see leaves whether something is found
pub find_mapped : (test : Block → Bool) (change : Block → Block) (blocks : List Block) → ((block : Block) → test (change block) ≡ test block)
    → is_some (find test (map change blocks)) ≡ is_some (find test blocks)
find_mapped test change [] same = refl
find_mapped test change (block ∷ rest) same = rw (same block) (mapped_if (test block) test change block rest (find_mapped test change rest same))

changed_if : (here : Bool) (test : Block → Bool) (change : Block → Block) (block : Block) (rest : List Block)
    → find test (map change rest) ≡ option_map change (find test rest)
    → cond here (Some (change block)) (find test (map change rest)) ≡ option_map change (cond here (Some block) (find test rest))
changed_if true test change block rest others = refl
changed_if false test change block rest others = others

-- such a change is made of what is found
pub find_changed : (test : Block → Bool) (change : Block → Block) (blocks : List Block) → ((block : Block) → test (change block) ≡ test block)
    → find test (map change blocks) ≡ option_map change (find test blocks)
find_changed test change [] same = refl
find_changed test change (block ∷ rest) same = rw (same block) (changed_if (test block) test change block rest (find_changed test change rest same))

passes_if : (here : Bool) (test : Block → Bool) (block found : Block) (rest : List Block) → test block ≡ here → cond here (Some block) (find test rest) ≡ Some found
    → (find test rest ≡ Some found → test found ≡ true) → test found ≡ true
passes_if true test block found rest is here others = let same : block ≡ found = cc in rw (← same) is
passes_if false test block found rest is here others = others here

-- what is found passes the test
pub found_passes : (test : Block → Bool) (blocks : List Block) (found : Block) → find test blocks ≡ Some found → test found ≡ true
found_passes test [] found is = cc
found_passes test (block ∷ rest) found is = passes_if (test block) test block found rest refl is (found_passes test rest found)

of_all_if : (here : Bool) (P : Block → Type 0) (test : Block → Bool) (block found : Block) (rest : List Block) → P block → cond here (Some block) (find test rest) ≡ Some found
    → (find test rest ≡ Some found → P found) → P found
of_all_if true P test block found rest first is others = let same : block ≡ found = cc in rw (← same) first
of_all_if false P test block found rest first is others = others is

-- what holds of all blocks holds of the one that is found
pub found_of_all : (P : Block → Type 0) (test : Block → Bool) (blocks : List Block) (found : Block) → All P blocks → find test blocks ≡ Some found → P found
found_of_all P test [] found all is = cc
found_of_all P test (block ∷ rest) found all is =
    of_all_if (test block) P test block found rest (all 0 block (omega arith)) is (found_of_all P test rest found (λ k d within. all (suc k) d (omega arith)))
