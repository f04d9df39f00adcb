-- Calls that change heap blocks alone, and writes, which change bytes alone.
use Rattle.std.proofs.Common.{◌≡◌, ◌∙◌, ℕ, ◌+◌, ◌-◌, ◌≤◌, nat_eq, Bool, true, false, not, cond, if◌then◌else◌, List, [], ◌∷◌, ◌++◌, length, get_or, map, Option, Some, None, arith, refl}
use Rattle.std.specs.Prelude.{is_some, IsSome, option_map, option_and_then}
use Rattle.std.specs.List.{find, filter}
use Rattle.std.proofs.lemmas.Bool.Decides.{nat_tests}
use Rattle.bound_base.specs.declared.limits.Rights.{Rights}
use Rattle.native_memory.specs.declared.kind.Kind.TheVariants.{Heap}
use Rattle.native_memory.specs.AddressSpace.{Block, AddressSpace, lowest, changed, is_heap, block_of}
use Rattle.native_memory.specs.Ranges.{covers, may_write, bytes_at, overwritten, write_in, with_written, written_at}
use Rattle.native_memory.specs.Placement.{edge_of, has_room, with_behind, new_contents, placed, stands_at, block_with, heap_block, ended, up_to_16}
use Rattle.native_memory.specs.Sound.{LieBetween, IsSound}
use Rattle.native_memory.specs.Search.{FailsAll}
use Rattle.native_memory.specs.Laws.{Places, Writes, Ends}
use Rattle.native_memory.specs.Changes.{Outline, outline_of, OnlyHeapChanges, OnlyBytesChange}
use Rattle.native_memory.proofs.Picks.{asks_base, fails_above, first_base, kept_fails}
use Rattle.native_memory.proofs.Reached.{GoesOn, follows_on, free_of}

-- the outlines of a list's blocks that aren't heap blocks
others : List Block → List Outline
others blocks = map outline_of (filter (λ block. not (is_heap block)) blocks)

cons_if : (heap : Bool) (a b : Block) (more rest : List Block) → outline_of a ≡ outline_of b → map outline_of more ≡ map outline_of rest
    → map outline_of (cond (not heap) (a ∷ more) more) ≡ map outline_of (cond (not heap) (b ∷ rest) rest)
cons_if true a b more rest same others = others
cons_if false a b more rest same others = rw (same, others) refl

appended : (blocks : List Block) (last : Block) → is_heap last ≡ true → others (blocks ++ last ∷ []) ≡ others blocks
unfolding others
appended [] last heap = rw heap refl
appended (block ∷ rest) last heap =
    cons_if (is_heap block) block block (filter (λ block. not (is_heap block)) (rest ++ last ∷ [])) (filter (λ block. not (is_heap block)) rest) refl (appended rest last heap)

-- a change that leaves what a block is
record KeepsOutline (change : Block → Block) : Type 0 where
  outline : (block : Block) → outline_of (change block) ≡ outline_of block
  heap : (block : Block) → is_heap (change block) ≡ is_heap block

all_mapped : (change : Block → Block) (blocks : List Block) → KeepsOutline change → map outline_of (map change blocks) ≡ map outline_of blocks
all_mapped change [] keeps = refl
all_mapped change (block ∷ rest) keeps = rw (keeps.outline block, all_mapped change rest keeps) refl

mapped : (change : Block → Block) (blocks : List Block) → KeepsOutline change → others (map change blocks) ≡ others blocks
unfolding others
mapped change [] keeps = refl
mapped change (block ∷ rest) keeps =
    rw (keeps.heap block) (cons_if (is_heap block) (change block) block (filter (λ block. not (is_heap block)) (map change rest)) (filter (λ block. not (is_heap block)) rest)
    (keeps.outline block) (mapped change rest keeps))

still_there : (contents : Option (List ℕ)) (f : List ℕ → List ℕ) → is_some (option_map f contents) ≡ is_some contents
still_there None f = refl
still_there (Some bytes) f = refl

writes_if : (here : Bool) (addr : ℕ) (from : List ℕ) (block : Block) → outline_of (if here then write_in addr from block else block) ≡ outline_of block
writes_if true addr from block = rw (still_there block.contents (λ bytes. overwritten bytes (addr - block.base) from)) refl
writes_if false addr from block = refl

heap_kept : (here : Bool) (addr : ℕ) (from : List ℕ) (block : Block) → is_heap (if here then write_in addr from block else block) ≡ is_heap block
heap_kept true addr from block = refl
heap_kept false addr from block = refl

writing_keeps : (addr : ℕ) (from : List ℕ) → KeepsOutline (changed (covers addr (length from)) (write_in addr from))
writing_keeps addr from = record {
  outline = λ block. writes_if (covers addr (length from) block) addr from block;
  heap = λ block. heap_kept (covers addr (length from) block) addr from block;
}

-- what a write that is done keeps
record WritesKeep (old new : AddressSpace) : Type 0 where
  bytes : OnlyBytesChange old new
  others : others new.blocks ≡ others old.blocks

written_if : (none may : Bool) (old new : AddressSpace) (addr : ℕ) (from : List ℕ) → cond none (Some old) (cond may (Some (with_written old addr from)) None) ≡ Some new
    → WritesKeep old new
unfolding others
written_if true may old new addr from is =
    let same : old ≡ new = cc in
    rw (← same) (record { bytes = record { blocks = refl; limit = refl; next = refl; edge = refl }; others = refl })
written_if false true old new addr from is =
    let same : with_written old addr from ≡ new = cc in
    let change : Block → Block = changed (covers addr (length from)) (write_in addr from) in
    rw (← same) (record {
      bytes = record { blocks = all_mapped change old.blocks (writing_keeps addr from); limit = refl; next = refl; edge = refl };
      others = mapped change old.blocks (writing_keeps addr from);
    })
written_if false false old new addr from is = cc

write_keeps : (old new : AddressSpace) (addr : ℕ) (from : List ℕ) → written_at old addr from ≡ Some new → WritesKeep old new
unfolding written_at
write_keeps old new addr from is = written_if (nat_eq (length from) 0) (is_some (bytes_at may_write old addr (length from))) old new addr from is

-- a write changes bytes alone
pub bytes_written : (old new : AddressSpace) (addr : ℕ) (from : List ℕ) → written_at old addr from ≡ Some new → OnlyBytesChange old new
bytes_written old new addr from is = (write_keeps old new addr from is).bytes

-- nothing changes
pub heap_unchanged : (space : AddressSpace) → IsSound space → OnlyHeapChanges space space
heap_unchanged space sound = record {
  others = refl;
  limit = refl;
  free = record { edge = omega arith; addresses = λ addr low free. free; bases = λ base low free. free };
  sound = sound;
}

-- one change after another
pub heap_changes_then : (old mid new : AddressSpace) → OnlyHeapChanges old mid → OnlyHeapChanges mid new → OnlyHeapChanges old new
heap_changes_then old mid new before after = record {
  others = after.others ∙ before.others;
  limit = after.limit ∙ before.limit;
  free = record {
    edge = omega (arith, before.free.edge, after.free.edge);
    addresses = λ addr low free. after.free.addresses addr (omega (arith, before.free.edge)) (before.free.addresses addr low free);
    bases = λ base low free. after.free.bases base (omega (arith, before.free.edge)) (before.free.bases base low free);
  };
  sound = after.sound;
}

-- a write
pub heap_written : (old new : AddressSpace) (addr : ℕ) (from : List ℕ) → IsSound old → written_at old addr from ≡ Some new → OnlyHeapChanges old new
unfolding others
heap_written old new addr from sound is =
    let keeps : WritesKeep old new = write_keeps old new addr from is in
    let on : GoesOn old new = follows_on old new sound (Writes old new addr from is) in
    record { others = keeps.others; limit = keeps.bytes.limit; free = free_of old new on; sound = on.sound }

-- what placing a heap block keeps
record PlaceKeeps (old new : AddressSpace) : Type 0 where
  others : others new.blocks ≡ others old.blocks
  limit : new.limit ≡ old.limit

place_if : (room : Bool) (old new : AddressSpace) (size : ℕ) (rights : Rights) (next : ℕ)
    → (if room then Some (with_behind old (block_of old.next size rights Heap (new_contents size Heap)) next) else None) ≡ Some new → PlaceKeeps old new
place_if true old new size rights next is =
    let block : Block = block_of old.next size rights Heap (new_contents size Heap) in
    let same : with_behind old block next ≡ new = cc in
    rw (← same) (record { others = appended old.blocks block refl; limit = refl })
place_if false old new size rights next is = cc

place_keeps : (old new : AddressSpace) (size : ℕ) (rights : Rights) → placed old size rights Heap ≡ Some new → PlaceKeeps old new
unfolding placed
place_keeps old new size rights is = place_if (has_room old size (old.next + up_to_16 size + 16)) old new size rights (old.next + up_to_16 size + 16) is

-- a heap block that is placed
pub heap_block_placed : (old new : AddressSpace) (size : ℕ) (rights : Rights) → IsSound old → placed old size rights Heap ≡ Some new → OnlyHeapChanges old new
unfolding others
heap_block_placed old new size rights sound is =
    let keeps : PlaceKeeps old new = place_keeps old new size rights is in
    let on : GoesOn old new = follows_on old new sound (Places old new size rights Heap is) in
    record { others = keeps.others; limit = keeps.limit; free = free_of old new on; sound = on.sound }

none_behind : (p from end : ℕ) (block : Block) (rest : List Block) → stands_at p block ≡ true → LieBetween from (block ∷ rest) end → FailsAll (stands_at p) rest
none_behind p from end block rest here lie =
    let base : block.base ≡ p = grind (arith, nat_tests, here) in
    fails_above (stands_at p) p rest (asks_base p)
    (λ k d within. let low : edge_of block ≤ (get_or rest k d).base = first_base (edge_of block) end rest k d lie.1 within in omega arith)

ended_if : (here : Bool) (p from end : ℕ) (block found : Block) (rest : List Block) → stands_at p block ≡ here → LieBetween from (block ∷ rest) end
    → cond here (Some block) (find (stands_at p) rest) ≡ Some found → is_heap found ≡ true
    → (find (stands_at p) rest ≡ Some found → others (filter (λ block. not (stands_at p block)) rest) ≡ others rest)
    → others (cond (not here) (block ∷ filter (λ block. not (stands_at p block)) rest) (filter (λ block. not (stands_at p block)) rest)) ≡ others (block ∷ rest)
unfolding others
ended_if true p from end block found rest is lie read heap more =
    let same : block ≡ found = cc in
    let own : is_heap block ≡ true = rw same heap in
    rw (kept_fails (stands_at p) rest (none_behind p from end block rest is lie), own) refl
ended_if false p from end block found rest is lie read heap more =
    cons_if (is_heap block) block block (filter (λ block. not (is_heap block)) (filter (λ block. not (stands_at p block)) rest)) (filter (λ block. not (is_heap block)) rest) refl (more read)

ended_in : (p from end : ℕ) (blocks : List Block) (found : Block) → LieBetween from blocks end → find (stands_at p) blocks ≡ Some found → is_heap found ≡ true
    → others (filter (λ block. not (stands_at p block)) blocks) ≡ others blocks
ended_in p from end [] found lie read heap = cc
ended_in p from end (block ∷ rest) found lie read heap =
    ended_if (stands_at p block) p from end block found rest refl lie read heap (λ more. ended_in p (edge_of block) end rest found lie.1 more heap)

end_keeps : (old new : AddressSpace) (p : ℕ) (block : Block) → IsSound old → block_with old p ≡ Some block → is_heap block ≡ true → ended old p ≡ Some new → PlaceKeeps old new
unfolding ended block_with
end_keeps old new p block sound found heap is =
    let after : Some (record old { blocks = filter (λ block. not (stands_at p block)) old.blocks }) ≡ Some new = rw found at is in
    let same : record old { blocks = filter (λ block. not (stands_at p block)) old.blocks } ≡ new = cc in
    rw (← same) (record { others = ended_in p lowest old.edge old.blocks block sound.apart found heap; limit = refl })

-- a heap block that ends
pub heap_block_ended : (old new : AddressSpace) (p : ℕ) (block : Block) → IsSound old → block_with old p ≡ Some block → is_heap block ≡ true → ended old p ≡ Some new
    → OnlyHeapChanges old new
unfolding others
heap_block_ended old new p block sound found heap is =
    let keeps : PlaceKeeps old new = end_keeps old new p block sound found heap is in
    let on : GoesOn old new = follows_on old new sound (Ends old new p is) in
    record { others = keeps.others; limit = keeps.limit; free = free_of old new on; sound = on.sound }

-- what is found where a heap block is
pub record IsHeapBlock (found : Option Block) : Type 0 where
  pub block : Block
  pub is : found ≡ Some block
  pub heap : is_heap block ≡ true

heap_if : (heap : Bool) (block : Block) → is_heap block ≡ heap → IsSome (if heap then Some block else None) → is_heap block ≡ true
heap_if true block is some = is
heap_if false block is some = absurd (cc)

pub heap_found : (found : Option Block) → IsSome (option_and_then (λ block. if is_heap block then Some block else None) found) → IsHeapBlock found
heap_found None some = absurd (cc)
heap_found (Some block) some = record { block = block; is = refl; heap = heap_if (is_heap block) block refl some }

pub heap_ended : (old new : AddressSpace) (base : ℕ) → IsSound old → IsSome (heap_block old base) → ended old base ≡ Some new → OnlyHeapChanges old new
heap_ended old new base sound some is =
    let here : IsHeapBlock (block_with old base) = heap_found (block_with old base) some in
    heap_block_ended old new base here.block sound here.is here.heap is
