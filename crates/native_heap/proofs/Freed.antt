-- New blocks, and what can be freed.
use Rattle.std.proofs.Common.{◌≡◌, ◌∙◌, ℕ, suc, ◌+◌, ◌-◌, ◌≤◌, ◌<◌, ◌≢◌, nat_eq, Bool, true, false, not, cond, if◌then◌else◌, List, [], ◌∷◌, ◌++◌, length, take, replicate, Option, Some, None, arith, refl, sym, ap}
use Rattle.std.specs.Prelude.{All, option_map, option_and_then}
use Rattle.std.specs.List.{find, filter}
use Rattle.std.proofs.lemmas.List.{take_all, length-replicate}
use Rattle.std.proofs.lemmas.Bool.Decides.{nat_tests}
use Rattle.native_memory.specs.AddressSpace.{Block, AddressSpace, lowest, is_heap}
use Rattle.native_memory.specs.Ranges.{covers, may_read, open_bytes, part, bytes_at}
use Rattle.native_memory.specs.Placement.{with_behind, stands_at, block_with, heap_block, ended, up_to_16}
use Rattle.native_memory.specs.Sound.{IsSound}
use Rattle.native_memory.specs.Search.{FailsAll}
use Rattle.native_memory.proofs.Picks.{find_fails, asks_covers, asks_base}
use Rattle.native_heap.specs.Allocation.{heap_placed, given, malloc, realloc, free}
use Rattle.native_heap.specs.Laws.{blocks_after, IsNewBlock, NewBlocksAreNew, IsNoHeapBase, OnlyHeapBlocksAreFreed}
use Rattle.native_heap.proofs.Refusals.{some_pair}
use Rattle.native_heap.proofs.Found.{fails_before, find_behind}
use Rattle.native_heap.proofs.Moved.{heap_made, heap_placed_is}

-- no live block stands at the next address
none_next : (space : AddressSpace) → IsSound space → FailsAll (stands_at space.next) space.blocks
none_next space sound =
    let below : space.edge ≤ space.next = sound.edge in
    fails_before (stands_at space.next) space.next lowest space.edge space.blocks (asks_base space.next) sound.apart below

zeros_if : (none : Bool) (space : AddressSpace) (size : ℕ) → nat_eq size 0 ≡ none → IsSound space
    → cond none (Some []) (option_and_then (λ block. option_map (part space.next size block) (open_bytes may_read block)) (find (covers space.next size) (space.blocks ++ heap_made space.next size ∷ [])))
    ≡ Some (replicate size 0)
zeros_if true space size is sound = let zero : size ≡ 0 = grind (arith, nat_tests, is) in rw zero refl
zeros_if false space size is sound =
    let some : 0 < size = grind (arith, nat_tests, is) in
    let below : space.edge ≤ space.next = sound.edge in
    let here : covers space.next size (heap_made space.next size) ≡ true = grind (arith, nat_tests) in
    let fails = fails_before (covers space.next size) space.next lowest space.edge space.blocks (asks_covers space.next size some) sound.apart below in
    let start : space.next - space.next ≡ 0 = omega arith in
    let bytes : List ℕ = replicate size 0 in
    let len : length bytes ≡ size = length-replicate size 0 in
    let all : take size bytes ≡ bytes = take_all size bytes (omega arith) in
    rw (find_behind (covers space.next size) space.blocks (heap_made space.next size ∷ []) fails, here, start, all) refl

zeros : (space new : AddressSpace) (size : ℕ) → IsSound space → new ≡ with_behind space (heap_made space.next size) (space.next + up_to_16 size + 16)
    → bytes_at may_read new space.next size ≡ Some (replicate size 0)
unfolding bytes_at
zeros space new size sound is = rw is (zeros_if (nat_eq size 0) space size refl sound)

without_last : (test : Block → Bool) (blocks : List Block) (last : Block) → FailsAll test blocks → test last ≡ true → filter (λ block. not (test block)) (blocks ++ last ∷ []) ≡ blocks
without_last test [] last fails is = rw is refl
without_last test (block ∷ rest) last fails is = rw fails.0 (ap (λ more. block ∷ more) (without_last test rest last fails.1 is))

undone_by : (space : AddressSpace) (size next : ℕ) → space.next ≢ 0 → IsSound space → blocks_after (free (with_behind space (heap_made space.next size) next) space.next) ≡ Some space.blocks
unfolding free block_with ended
undone_by space size next some sound =
    let null : nat_eq space.next 0 ≡ false = grind (arith, nat_tests) in
    let here : stands_at space.next (heap_made space.next size) ≡ true = grind (arith, nat_tests) in
    let found : find (stands_at space.next) (space.blocks ++ heap_made space.next size ∷ []) ≡ Some (heap_made space.next size) =
    find_behind (stands_at space.next) space.blocks (heap_made space.next size ∷ []) (none_next space sound) ∙ rw here refl in
    rw (null, found, without_last (stands_at space.next) space.blocks (heap_made space.next size) (none_next space sound) here) refl

fresh : (space : AddressSpace) → IsSound space → block_with space space.next ≡ None
unfolding block_with
fresh space sound = find_fails (stands_at space.next) space.blocks (none_next space sound)

new_if : (change : Option AddressSpace) (old new : AddressSpace) (p size : ℕ) → heap_placed old size ≡ change → IsSound old → given old change ≡ Some (p, new) → p ≢ 0 → IsNewBlock old new p size
new_if None old new p size is sound done some =
    let same : (0, old) ≡ (p, new) = some_pair (0, old) (p, new) done in
    absurd (some (sym (ap (λ pair. pair.0) same)))
new_if (Some mid) old new p size is sound done some =
    let same : (old.next, mid) ≡ (p, new) = some_pair (old.next, mid) (p, new) done in
    let base : old.next ≡ p = ap (λ pair. pair.0) same in
    let made : mid ≡ new = ap (λ pair. pair.1) same in
    let behind : new ≡ with_behind old (heap_made old.next size) (old.next + up_to_16 size + 16) = sym made ∙ heap_placed_is old mid size is in
    let null : old.next ≢ 0 = rw base some in
    rw (← base) (record {
      fresh = fresh old sound;
      zeros = zeros old new size sound behind;
      undone = rw behind (undone_by old size (old.next + up_to_16 size + 16) null sound);
    })

pub new_blocks : NewBlocksAreNew
unfolding malloc
new_blocks old new p size sound done some = new_if (heap_placed old size) old new p size refl sound done some

no_heap_if : (here : Bool) (p : ℕ) (block : Block) (rest : List Block) → stands_at p block ≡ here → (block.base ≡ p → is_heap block ≡ false)
    → option_and_then (λ block. if is_heap block then Some block else None) (find (stands_at p) rest) ≡ None
    → option_and_then (λ block. if is_heap block then Some block else None) (cond here (Some block) (find (stands_at p) rest)) ≡ None
no_heap_if true p block rest is other others =
    let base : block.base ≡ p = grind (arith, nat_tests, is) in
    rw (other base) refl
no_heap_if false p block rest is other others = others

no_heap : (p : ℕ) (blocks : List Block) → All (λ block. block.base ≡ p → is_heap block ≡ false) blocks
    → option_and_then (λ block. if is_heap block then Some block else None) (find (stands_at p) blocks) ≡ None
no_heap p [] all = refl
no_heap p (block ∷ rest) all =
    no_heap_if (stands_at p block) p block rest refl (all 0 block (omega arith)) (no_heap p rest (λ k d within. all (suc k) d (omega arith)))

heap_missing : (space : AddressSpace) (p : ℕ) → IsNoHeapBase space p → heap_block space p ≡ None
unfolding block_with
heap_missing space p none = no_heap p space.blocks none

pub only_heap : OnlyHeapBlocksAreFreed
unfolding free realloc
only_heap space p size some none =
    let null : nat_eq p 0 ≡ false = grind (arith, nat_tests) in
    (rw (null, heap_missing space p none) refl, rw (null, heap_missing space p none) refl)
