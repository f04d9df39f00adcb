-- A new block can be written as soon as it is placed, and the old one is still there to be ended.
use Rattle.std.proofs.Common.{◌≡◌, ◌∙◌, ℕ, ◌+◌, ◌≤◌, ◌<◌, ◌≢◌, nat_eq, Bool, true, false, cond, if◌then◌else◌, List, [], ◌∷◌, ◌++◌, length, replicate, take, Option, Some, None, arith, refl}
use Rattle.std.specs.Prelude.{is_some, IsSome, option_map, option_and_then}
use Rattle.std.specs.List.{find}
use Rattle.std.proofs.lemmas.Bool.Decides.{nat_tests}
use Rattle.std.proofs.lemmas.List.{length-take}
use Rattle.native_memory.specs.declared.kind.Kind.TheVariants.{Heap}
use Rattle.native_memory.specs.AddressSpace.{Block, AddressSpace, data_rights, lowest, changed, is_heap}
use Rattle.native_memory.specs.Ranges.{covers, may_write, open_bytes, part, bytes_at, write_in, with_written, written_at}
use Rattle.native_memory.specs.Placement.{Does, has_room, with_behind, placed, ended, stands_at, block_with, heap_contents, up_to_16}
use Rattle.native_memory.specs.Sound.{IsSound}
use Rattle.native_memory.proofs.Picks.{asks_covers}
use Rattle.native_memory.proofs.Kept.{changed_keeps, writes_keep}
use Rattle.native_heap.specs.Outcome.{◌>>=◌}
use Rattle.native_heap.specs.Allocation.{heap_placed, moved, malloc, realloc, realloc_takes}
use Rattle.native_heap.proofs.Refusals.{answering_done}
use Rattle.native_heap.proofs.Found.{fails_before, find_behind, find_appended, find_mapped}
use Rattle.native_heap.proofs.Writing.{written_where_held}

-- the block that `malloc` places
abbrev pub heap_made : ℕ → ℕ → Block
heap_made base size = record { base = base; size = size; rights = data_rights; kind = Heap; contents = Some (replicate size 0) }

with_block_if : (room : Bool) (old new : AddressSpace) (block : Block) (next : ℕ) → (if room then Some (with_behind old block next) else None) ≡ Some new → new ≡ with_behind old block next
with_block_if true old new block next is = cc
with_block_if false old new block next is = cc

pub heap_placed_is : (old new : AddressSpace) (size : ℕ) → heap_placed old size ≡ Some new → new ≡ with_behind old (heap_made old.next size) (old.next + up_to_16 size + 16)
unfolding placed
heap_placed_is old new size is = with_block_if (has_room old size (old.next + up_to_16 size + 16)) old new (heap_made old.next size) (old.next + up_to_16 size + 16) is

held_if : (none : Bool) (old : AddressSpace) (size len next : ℕ) → nat_eq len 0 ≡ none → IsSound old → len ≤ size
    → is_some (cond none (Some []) (option_and_then (λ block. option_map (part old.next len block) (open_bytes may_write block)) (find (covers old.next len) (old.blocks ++ heap_made old.next size ∷ [])))) ≡ true
held_if true old size len next is sound fits = refl
held_if false old size len next is sound fits =
    let some : 0 < len = grind (arith, nat_tests, is) in
    let below : old.edge ≤ old.next = sound.edge in
    let here : covers old.next len (heap_made old.next size) ≡ true = grind (arith, nat_tests) in
    let fails = fails_before (covers old.next len) old.next lowest old.edge old.blocks (asks_covers old.next len some) sound.apart below in
    rw (find_behind (covers old.next len) old.blocks (heap_made old.next size ∷ []) fails, here) refl

pub new_is_held : (old new : AddressSpace) (size len : ℕ) → IsSound old → heap_placed old size ≡ Some new → len ≤ size → is_some (bytes_at may_write new old.next len) ≡ true
unfolding bytes_at
new_is_held old new size len sound is fits = rw (heap_placed_is old new size is) (held_if (nat_eq len 0) old size len 0 refl sound fits)

pub new_is_written : (old new : AddressSpace) (size : ℕ) (front : List ℕ) → IsSound old → heap_placed old size ≡ Some new → length front ≤ size → IsSome (written_at new old.next front)
new_is_written old new size front sound is fits = written_where_held new old.next (length front) front refl (new_is_held old new size (length front) sound is fits)

still_if : (found : Option Block) (old : AddressSpace) (p : ℕ) (more : List Block) → find (stands_at p) old.blocks ≡ found → IsSome found → is_some (find (stands_at p) (old.blocks ++ more)) ≡ true
still_if None old p more is some = cc
still_if (Some block) old p more is some = rw (find_appended (stands_at p) old.blocks more block is) refl

-- the old block is there also beside the new one
pub still_placed : (old new : AddressSpace) (size p : ℕ) → heap_placed old size ≡ Some new → IsSome (block_with old p) → IsSome (block_with new p)
unfolding block_with
still_placed old new size p is some = rw (heap_placed_is old new size is) (still_if (find (stands_at p) old.blocks) old p (heap_made old.next size ∷ []) refl some)

still_written_if : (none may : Bool) (old new : AddressSpace) (addr : ℕ) (from : List ℕ) (p : ℕ) → cond none (Some old) (cond may (Some (with_written old addr from)) None) ≡ Some new
    → is_some (find (stands_at p) old.blocks) ≡ true → is_some (find (stands_at p) new.blocks) ≡ true
still_written_if true may old new addr from p is some = let same : old ≡ new = cc in rw (← same) some
still_written_if false true old new addr from p is some =
    let same : with_written old addr from ≡ new = cc in
    let keeps = changed_keeps (covers addr (length from)) (write_in addr from) (writes_keep addr from) in
    let stays = find_mapped (stands_at p) (changed (covers addr (length from)) (write_in addr from)) old.blocks (λ block. rw (keeps.base block) refl) in
    rw (← same) (stays ∙ some)
still_written_if false false old new addr from p is some = cc

-- and after a write
pub still_written : (old new : AddressSpace) (addr : ℕ) (from : List ℕ) (p : ℕ) → written_at old addr from ≡ Some new → IsSome (block_with old p) → IsSome (block_with new p)
unfolding written_at block_with
still_written old new addr from p is some =
    still_written_if (nat_eq (length from) 0) (is_some (bytes_at may_write old addr (length from))) old new addr from p is some

ends_if : (found : Option Block) (new : AddressSpace) → is_some found ≡ true → is_some (option_map (λ _. new) found) ≡ true
ends_if None new some = some
ends_if (Some block) new some = refl

-- so it can be ended
pub ends : (space : AddressSpace) (p : ℕ) → IsSome (block_with space p) → IsSome (ended space p)
unfolding ended
ends space p some = ends_if (block_with space p) _ some

-- the whole move succeeds where the new block was placed
pub moved_is : (old mid filled new : AddressSpace) (p size : ℕ) (front : List ℕ) → heap_placed old size ≡ Some mid → written_at mid old.next front ≡ Some filled → ended filled p ≡ Some new
    → moved old p front (heap_placed old size) ≡ Some (old.next, new)
moved_is old mid filled new p size front placed_is written_is ended_is = rw (placed_is, written_is, ended_is) refl

pub does_end : (answer : Bool) (change : Option AddressSpace) (old new : AddressSpace) → Does answer change old new → IsSome change → change ≡ Some new
does_end true change old new does some = does
does_end false change old new does some = let none : change ≡ None = does.0 in let never = rw none at some in cc

then_done : {T U : Type 0} (first : Option T) (next : T → Option U) → IsSome first → ((x : T) → first ≡ Some x → IsSome (next x)) → IsSome (first >>= next)
then_done None next some others = cc
then_done (Some x) next some others = others x refl

moved_done_if : (change : Option AddressSpace) (old : AddressSpace) (p size : ℕ) (front : List ℕ) → heap_placed old size ≡ change → IsSound old → IsSome (block_with old p) → length front ≤ size
    → IsSome (moved old p front change)
moved_done_if None old p size front is sound live fits = refl
moved_done_if (Some mid) old p size front is sound live fits =
    answering_done old.next (written_at mid old.next front >>= λ filled. ended filled p)
    (then_done (written_at mid old.next front) (λ filled. ended filled p) (new_is_written old mid size front sound is fits)
    (λ filled written. ends filled p (still_written mid filled old.next front p written (still_placed old mid size p is live))))

-- a move faults nowhere
pub moved_done : (old : AddressSpace) (p size : ℕ) (front : List ℕ) → IsSound old → IsSome (block_with old p) → length front ≤ size → IsSome (moved old p front (heap_placed old size))
moved_done old p size front sound live fits = moved_done_if (heap_placed old size) old p size front refl sound live fits

found_heap : (found : Option Block) (bytes : List ℕ)
    → option_and_then (λ block. block.contents) (option_and_then (λ block. if is_heap block then Some block else None) found) ≡ Some bytes → IsSome found
found_heap None bytes is = cc
found_heap (Some block) bytes is = refl

-- where a live heap block's contents are found a live block is
pub contents_are_live : (space : AddressSpace) (p : ℕ) (bytes : List ℕ) → heap_contents space p ≡ Some bytes → IsSome (block_with space p)
contents_are_live space p bytes is = found_heap (block_with space p) bytes is

pub within : (size : ℕ) (bytes : List ℕ) → length (take size bytes) ≤ size
within size bytes = simp length-take (omega arith)

realloc_if : (null : Bool) (space : AddressSpace) (p size : ℕ) (bytes : List ℕ) → null ≡ false → heap_contents space p ≡ Some bytes → IsSound space
    → IsSome (cond null (malloc space size) (heap_contents space p >>= λ bytes. moved space p (take size bytes) (heap_placed space size)))
realloc_if true space p size bytes here is sound = cc
realloc_if false space p size bytes here is sound =
    rw is (moved_done space p size (take size bytes) sound (contents_are_live space p bytes is) (within size bytes))

-- `realloc` of a live heap block faults nowhere
pub realloc_done : (space : AddressSpace) (p size : ℕ) (bytes : List ℕ) → p ≢ 0 → heap_contents space p ≡ Some bytes → IsSound space → IsSome (realloc space p size)
unfolding realloc
realloc_done space p size bytes here is sound = realloc_if (nat_eq p 0) space p size bytes (grind (arith, nat_tests)) is sound

-- so memory may be wanting for it
pub realloc_wants : (space : AddressSpace) (p size : ℕ) (bytes : List ℕ) → p ≢ 0 → heap_contents space p ≡ Some bytes → IsSound space → realloc_takes space p size ≡ true
realloc_wants space p size bytes here is sound =
    let null : nat_eq p 0 ≡ false = grind (arith, nat_tests) in
    rw null (realloc_done space p size bytes here is sound)
