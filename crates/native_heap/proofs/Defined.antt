-- Calls that are defined: those for which memory may be wanting, and those of `free` and `realloc` at heap blocks.
use Rattle.std.proofs.Common.{◌≡◌, ℕ, ◌*◌, ◌^◌, nat_eq, nat_lt, Bool, true, false, cond, List, take, Option, Some, None, refl}
use Rattle.std.specs.Prelude.{is_some, IsSome, option_map, option_and_then, unwrap_or, slice_get, slice_index, if◌then◌else◌}
use Rattle.std.specs.List.{find}
use Rattle.host_functions.specs.declared.functions.HostFunction.{HostFunction}
use Rattle.host_functions.specs.declared.functions.HostFunction.TheVariants.{Malloc, Calloc, Realloc, Free, Memcpy, Memmove, Memset, Memcmp, Strlen, Strcmp, Strcpy, ErrnoLocation, Abort}
use Rattle.host_functions.specs.HostFunctions.{host_functions}
use Rattle.native_memory.specs.declared.kind.Kind.{Kind}
use Rattle.native_memory.specs.declared.kind.Kind.TheVariants.{InPlace}
use Rattle.native_memory.specs.AddressSpace.{Block, AddressSpace, is_heap_kind, is_heap}
use Rattle.native_memory.specs.Placement.{ended, stands_at, block_with, heap_block, heap_contents}
use Rattle.native_memory.specs.Sound.{HasItsBytes, IsWhole, IsSound}
use Rattle.native_heap.specs.Outcome.{Outcome, ◌>>=◌, answering}
use Rattle.native_heap.specs.Allocation.{heap_placed, given, moved, malloc, calloc, realloc, free, malloc_takes}
use Rattle.native_heap.specs.Calls.{outcome, returned, done_for, called, takes_memory, takes_for}
use Rattle.native_heap.specs.Laws.{WantingCallsAreDefined, HeapBlocksAreFreed}
use Rattle.native_heap.proofs.Refusals.{answering_done}
use Rattle.native_heap.proofs.Found.{found_of_all}
use Rattle.native_heap.proofs.Moved.{ends, moved_done, contents_are_live, within}

given_done : (space : AddressSpace) (change : Option AddressSpace) → IsSome (given space change)
given_done space None = refl
given_done space (Some new) = refl

-- `malloc` never faults
malloc_done : (space : AddressSpace) (size : ℕ) → IsSome (malloc space size)
unfolding malloc
malloc_done space size = given_done space (heap_placed space size)

calloc_if : (fits : Bool) (space : AddressSpace) (size : ℕ) → IsSome (cond fits (malloc space size) (Some (0, space)))
calloc_if true space size = malloc_done space size
calloc_if false space size = refl

calloc_done : (space : AddressSpace) (count size : ℕ) → IsSome (calloc space count size)
unfolding calloc
calloc_done space count size = calloc_if (nat_lt (count * size) (2 ^ 64)) space (count * size)

takes_if : (null : Bool) (space : AddressSpace) (p size : ℕ) → nat_eq p 0 ≡ null → cond null (malloc_takes space size) (is_some (realloc space p size)) ≡ true → IsSome (realloc space p size)
unfolding realloc
takes_if true space p size here takes = rw here (malloc_done space size)
takes_if false space p size here takes = takes

takes_done : (function : HostFunction) (a b c errno : ℕ) (space : AddressSpace) → takes_memory function a b c space ≡ true → IsSome (outcome function a b c space errno)
takes_done Malloc a b c errno space takes = malloc_done space a
takes_done Calloc a b c errno space takes = calloc_done space a b
takes_done Realloc a b c errno space takes = takes_if (nat_eq a 0) space a b refl takes
takes_done Free a b c errno space takes = cc
takes_done Memcpy a b c errno space takes = takes
takes_done Memmove a b c errno space takes = takes
takes_done Memset a b c errno space takes = takes
takes_done Memcmp a b c errno space takes = cc
takes_done Strlen a b c errno space takes = cc
takes_done Strcmp a b c errno space takes = cc
takes_done Strcpy a b c errno space takes = takes
takes_done ErrnoLocation a b c errno space takes = cc
takes_done Abort a b c errno space takes = cc

returned_done : (x : List ℕ) (done : Outcome) → IsSome done → IsSome (option_map (returned x) done)
returned_done x None some = some
returned_done x (Some done) some = refl

wants_if : (function : Option HostFunction) (x : List ℕ) (space : AddressSpace) (errno : ℕ) → unwrap_or (option_map (λ function. takes_for function x space) function) false ≡ true
    → IsSome (function >>= λ function. option_map (returned x) (done_for function x space errno))
wants_if None x space errno takes = cc
wants_if (Some function) x space errno takes =
    returned_done x (done_for function x space errno) (takes_done function (slice_index x 10) (slice_index x 11) (slice_index x 12) errno space takes)

pub wants_done : WantingCallsAreDefined
unfolding called
wants_done k errno x space takes = wants_if (slice_get host_functions k) x space errno takes

has_bytes : (kind : Kind) (size : ℕ) (contents : Option (List ℕ)) → is_heap_kind kind ≡ true → HasItsBytes size kind contents → IsSome contents
has_bytes kind size None heap whole =
    let in_place : kind ≡ InPlace = whole in
    let never : is_heap_kind InPlace ≡ true = rw in_place at heap in
    cc
has_bytes kind size (Some bytes) heap whole = refl

own_if : (heap : Bool) (block : Block) → is_heap block ≡ heap → IsWhole block → IsSome (if heap then Some block else None)
    → IsSome (option_and_then (λ block. block.contents) (if heap then Some block else None))
own_if true block is whole some = has_bytes block.kind block.size block.contents is whole
own_if false block is whole some = cc

-- a live heap block has contents
contents_if : (found : Option Block) (space : AddressSpace) (p : ℕ) → find (stands_at p) space.blocks ≡ found → IsSound space
    → IsSome (option_and_then (λ block. if is_heap block then Some block else None) found)
    → IsSome (option_and_then (λ block. block.contents) (option_and_then (λ block. if is_heap block then Some block else None) found))
contents_if None space p is sound some = some
contents_if (Some block) space p is sound some =
    own_if (is_heap block) block refl (found_of_all IsWhole (stands_at p) space.blocks block sound.whole is) some

has_contents : (space : AddressSpace) (p : ℕ) → IsSound space → IsSome (heap_block space p) → IsSome (heap_contents space p)
unfolding block_with
has_contents space p sound some = contents_if (find (stands_at p) space.blocks) space p refl sound some

live_if : (found : Option Block) → IsSome (option_and_then (λ block. if is_heap block then Some block else None) found) → IsSome found
live_if None some = some
live_if (Some block) some = refl

then_some : {T U : Type 0} (first : Option T) (next : T → Option U) → IsSome first → ((x : T) → first ≡ Some x → IsSome (next x)) → IsSome (first >>= next)
then_some None next some others = cc
then_some (Some x) next some others = others x refl

free_if : (null : Bool) (space : AddressSpace) (p : ℕ) → IsSome (heap_block space p) → IsSome (cond null (Some (p, space)) (heap_block space p >>= λ _. answering p (ended space p)))
free_if true space p some = refl
free_if false space p some =
    then_some (heap_block space p) (λ _. answering p (ended space p)) some
    (λ block is. answering_done p (ended space p) (ends space p (live_if (block_with space p) some)))

realloc_if : (null : Bool) (space : AddressSpace) (p size : ℕ) → IsSound space → IsSome (heap_block space p)
    → IsSome (cond null (malloc space size) (heap_contents space p >>= λ bytes. moved space p (take size bytes) (heap_placed space size)))
realloc_if true space p size sound some = malloc_done space size
realloc_if false space p size sound some =
    then_some (heap_contents space p) (λ bytes. moved space p (take size bytes) (heap_placed space size)) (has_contents space p sound some)
    (λ bytes is. moved_done space p size (take size bytes) sound (contents_are_live space p bytes is) (within size bytes))

pub heap_freed : HeapBlocksAreFreed
unfolding free realloc
heap_freed space p size sound some = (free_if (nat_eq p 0) space p some, realloc_if (nat_eq p 0) space p size sound some)
