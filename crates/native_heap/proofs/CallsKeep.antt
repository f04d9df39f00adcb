-- What a call keeps, function by function.
use Rattle.std.proofs.Common.{◌≡◌, ℕ, ◌*◌, ◌%◌, ◌^◌, nat_eq, nat_lt, Bool, true, false, cond, List, [], ◌∷◌, ◌++◌, length, replicate, take, Option, Some, None, refl, ap}
use Rattle.std.specs.Prelude.{option_map, slice_get, slice_index, slice_set}
use Rattle.std.specs.Cmp.Lexicographic.{slice_cmp}
use Rattle.std.specs.Ordering.{nat_cmp}
use Rattle.std.proofs.lemmas.List.{get_or-set_other, length-set}
use Rattle.host_functions.specs.declared.functions.HostFunction.{HostFunction}
use Rattle.host_functions.specs.declared.functions.HostFunction.TheVariants.{Malloc, Calloc, Realloc, Free, Memcpy, Memmove, Memset, Memcmp, Strlen, Strcmp, Strcpy, ErrnoLocation, Abort}
use Rattle.host_functions.specs.HostFunctions.{host_functions}
use Rattle.native_memory.specs.AddressSpace.{AddressSpace, data_rights}
use Rattle.native_memory.specs.Ranges.{may_read, bytes_at, written_at}
use Rattle.native_memory.specs.Placement.{ended, heap_block, heap_contents}
use Rattle.native_memory.specs.Sound.{IsSound}
use Rattle.native_memory.specs.Changes.{OnlyHeapChanges}
use Rattle.native_memory.proofs.HeapChanges.{heap_unchanged, heap_changes_then, heap_written, heap_block_placed}
use Rattle.native_heap.specs.Outcome.{Outcome, ◌>>=◌, answering, reading}
use Rattle.native_heap.specs.Allocation.{heap_placed, given, moved, malloc, calloc, realloc, free}
use Rattle.native_heap.specs.Bytes.{sign, memmove, memset, memcmp}
use Rattle.native_heap.specs.Texts.{text_at, text_order, readable_from, strlen, strcpy, strcmp}
use Rattle.native_heap.specs.Calls.{outcome, returned, done_for, called}
use Rattle.native_heap.specs.Laws.{KeepsOthers, CallsKeepOthers}
use Rattle.native_heap.proofs.Refusals.{some_pair, answered_new}
use Rattle.native_heap.proofs.HeapAt.{HasHeapAt, has_heap, heap_placed_on, heap_written_on, heap_at_ended}

-- a step that comes to something, and what it came to
pub then_is : {T U : Type 0} (first : Option T) (next : T → Option U) (x : U) → (first >>= next) ≡ Some x → (value : T) × (first ≡ Some value) × (next value ≡ Some x)
then_is None next x is = cc
then_is (Some value) next x is = (value, refl, is)

-- memory is as it was
same_memory : (value answer : ℕ) (old new : AddressSpace) → IsSound old → ◌≡◌ {A = Outcome} (Some (value, old)) (Some (answer, new)) → OnlyHeapChanges old new
same_memory value answer old new sound is =
    let same = some_pair (value, old) (answer, new) is in
    let kept : old ≡ new = ap (λ pair. pair.1) same in
    rw (← kept) (heap_unchanged old sound)

read_keeps : (value : Option ℕ) (answer : ℕ) (old new : AddressSpace) → IsSound old → reading old value ≡ Some (answer, new) → OnlyHeapChanges old new
read_keeps None answer old new sound is = cc
read_keeps (Some value) answer old new sound is = same_memory value answer old new sound is

write_keeps : (to answer addr : ℕ) (from : List ℕ) (old new : AddressSpace) → IsSound old → answering to (written_at old addr from) ≡ Some (answer, new) → OnlyHeapChanges old new
write_keeps to answer addr from old new sound is = heap_written old new addr from sound (answered_new to answer (written_at old addr from) new is)

given_if : (change : Option AddressSpace) (size answer : ℕ) (old new : AddressSpace) → IsSound old → heap_placed old size ≡ change → given old change ≡ Some (answer, new) → OnlyHeapChanges old new
given_if None size answer old new sound is done = same_memory 0 answer old new sound done
given_if (Some mid) size answer old new sound is done =
    let same = some_pair (old.next, mid) (answer, new) done in
    let made : mid ≡ new = ap (λ pair. pair.1) same in
    rw (← made) (heap_block_placed old mid size data_rights sound is)

malloc_keeps : (size answer : ℕ) (old new : AddressSpace) → IsSound old → malloc old size ≡ Some (answer, new) → OnlyHeapChanges old new
unfolding malloc
malloc_keeps size answer old new sound done = given_if (heap_placed old size) size answer old new sound refl done

calloc_if : (fits : Bool) (size answer : ℕ) (old new : AddressSpace) → IsSound old → cond fits (malloc old size) (Some (0, old)) ≡ Some (answer, new) → OnlyHeapChanges old new
calloc_if true size answer old new sound done = malloc_keeps size answer old new sound done
calloc_if false size answer old new sound done = same_memory 0 answer old new sound done

free_if : (null : Bool) (p answer : ℕ) (old new : AddressSpace) → IsSound old
    → cond null (Some (p, old)) (heap_block old p >>= λ _. answering p (ended old p)) ≡ Some (answer, new) → OnlyHeapChanges old new
free_if true p answer old new sound done = same_memory p answer old new sound done
free_if false p answer old new sound done =
    let found = then_is (heap_block old p) (λ _. answering p (ended old p)) (answer, new) done in
    heap_at_ended old new p sound (has_heap old p found.0 found.1) (answered_new p answer (ended old p) new found.2)

moved_if : (change : Option AddressSpace) (p size answer : ℕ) (front : List ℕ) (old new : AddressSpace) → heap_placed old size ≡ change → IsSound old → HasHeapAt old.blocks p
    → moved old p front change ≡ Some (answer, new) → OnlyHeapChanges old new
moved_if None p size answer front old new is sound has done = same_memory 0 answer old new sound done
moved_if (Some mid) p size answer front old new is sound has done =
    let change = answered_new old.next answer (written_at mid old.next front >>= λ filled. ended filled p) new done in
    let step = then_is (written_at mid old.next front) (λ filled. ended filled p) new change in
    let placed : OnlyHeapChanges old mid = heap_block_placed old mid size data_rights sound is in
    let filled : OnlyHeapChanges mid step.0 = heap_written mid step.0 old.next front placed.sound step.1 in
    let has' = heap_written_on mid step.0 old.next front p step.1 (heap_placed_on old mid size p is has) in
    let gone : OnlyHeapChanges step.0 new = heap_at_ended step.0 new p filled.sound has' step.2 in
    heap_changes_then old step.0 new (heap_changes_then old mid step.0 placed filled) gone

realloc_if : (null : Bool) (p size answer : ℕ) (old new : AddressSpace) → IsSound old
    → cond null (malloc old size) (heap_contents old p >>= λ bytes. moved old p (take size bytes) (heap_placed old size)) ≡ Some (answer, new)
    → OnlyHeapChanges old new
realloc_if true p size answer old new sound done = malloc_keeps size answer old new sound done
realloc_if false p size answer old new sound done =
    let found = then_is (heap_contents old p) (λ bytes. moved old p (take size bytes) (heap_placed old size)) (answer, new) done in
    let block = then_is (heap_block old p) (λ block. block.contents) found.0 found.1 in
    moved_if (heap_placed old size) p size answer (take size found.0) old new refl sound (has_heap old p block.0 block.1) found.2

outcome_keeps : (function : HostFunction) (a b c errno answer : ℕ) (old new : AddressSpace) → IsSound old → outcome function a b c old errno ≡ Some (answer, new) → OnlyHeapChanges old new
unfolding calloc realloc free memmove memset memcmp strlen strcmp strcpy
outcome_keeps Malloc a b c errno answer old new sound done = malloc_keeps a answer old new sound done
outcome_keeps Calloc a b c errno answer old new sound done = calloc_if (nat_lt (a * b) (2 ^ 64)) (a * b) answer old new sound done
outcome_keeps Realloc a b c errno answer old new sound done = realloc_if (nat_eq a 0) a b answer old new sound done
outcome_keeps Free a b c errno answer old new sound done = free_if (nat_eq a 0) a answer old new sound done
outcome_keeps Memcpy a b c errno answer old new sound done =
    let read = then_is (bytes_at may_read old b c) (λ bytes. answering a (written_at old a bytes)) (answer, new) done in write_keeps a answer a read.0 old new sound read.2
outcome_keeps Memmove a b c errno answer old new sound done =
    let read = then_is (bytes_at may_read old b c) (λ bytes. answering a (written_at old a bytes)) (answer, new) done in write_keeps a answer a read.0 old new sound read.2
outcome_keeps Memset a b c errno answer old new sound done = write_keeps a answer a (replicate c (b % 256)) old new sound done
outcome_keeps Memcmp a b c errno answer old new sound done =
    let left = then_is (bytes_at may_read old a c) (λ left. bytes_at may_read old b c >>= λ right. Some (sign (slice_cmp nat_cmp left right), old)) (answer, new) done in
    let right = then_is (bytes_at may_read old b c) (λ right. Some (sign (slice_cmp nat_cmp left.0 right), old)) (answer, new) left.2 in
    same_memory (sign (slice_cmp nat_cmp left.0 right.0)) answer old new sound right.2
outcome_keeps Strlen a b c errno answer old new sound done = read_keeps (option_map (λ text. length text) (text_at old a)) answer old new sound done
outcome_keeps Strcmp a b c errno answer old new sound done = read_keeps (text_order (readable_from old a) (readable_from old b)) answer old new sound done
outcome_keeps Strcpy a b c errno answer old new sound done =
    let read = then_is (text_at old b) (λ text. answering a (written_at old a (text ++ 0 ∷ []))) (answer, new) done in write_keeps a answer a (read.0 ++ 0 ∷ []) old new sound read.2
outcome_keeps ErrnoLocation a b c errno answer old new sound done = same_memory errno answer old new sound done
outcome_keeps Abort a b c errno answer old new sound done = cc

kept_if : (done : Option (ℕ × AddressSpace)) (function : HostFunction) (errno : ℕ) (x x' : List ℕ) (old new : AddressSpace) → IsSound old
    → done_for function x old errno ≡ done → option_map (returned x) done ≡ Some (x', new) → KeepsOthers x x' old new
kept_if None function errno x x' old new sound is done = cc
kept_if (Some step) function errno x x' old new sound is done =
    let same : returned x step ≡ (x', new) = some_pair (returned x step) (x', new) done in
    let registers : slice_set x 10 step.0 ≡ x' = ap (λ pair. pair.0) same in
    let memory : step.1 ≡ new = ap (λ pair. pair.1) same in
    record {
      count = rw (← registers) (length-set x 10 step.0);
      registers = λ number other. rw (← registers) (get_or-set_other x 10 number step.0 0 other);
      memory = rw (← memory) (outcome_keeps function (slice_index x 10) (slice_index x 11) (slice_index x 12) errno step.0 old step.1 sound is);
    }

pub calls_keep : CallsKeepOthers
unfolding called
calls_keep k errno x x' old new sound done =
    let found = then_is (slice_get host_functions k) (λ function. option_map (returned x) (done_for function x old errno)) (x', new) done in
    kept_if (done_for found.0 x old errno) found.0 errno x x' old new sound refl found.2

-- of memory a call changes heap blocks alone, apart from bytes
pub call_changes : (k errno : ℕ) (x x' : List ℕ) (old new : AddressSpace) → IsSound old → called k x old errno ≡ Some (x', new) → OnlyHeapChanges old new
call_changes k errno x x' old new sound done = (calls_keep k errno x x' old new sound done).memory
