-- Every change keeps memory sound.
use Rattle.std.proofs.Common.{◌≡◌, ℕ, zero, suc, ◌+◌, ◌-◌, ◌^◌, ◌≤◌, Bool, true, false, nat_le, ◌==◌, not, cond, ◌&&◌, if◌then◌else◌, List, [], ◌∷◌, ◌++◌, length, get_or, map, Option, Some, None, arith, sym, ◌∙◌, refl}
use Rattle.std.specs.Prelude.{All, is_some, option_map, slice_set}
use Rattle.std.specs.List.{filter, remove, sum_by}
use Rattle.std.proofs.lemmas.Bool.Decides.{nat_tests}
use Rattle.std.proofs.lemmas.List.Elements.{All-map, All-filter, All-append}
use Rattle.std.proofs.lemmas.List.{length-append, length-take, length-drop}
use Rattle.std.proofs.lemmas.List.Sums.{sum_by-append, sum_by-cons, sum_by-remove}
use Rattle.std.proofs.lemmas.List.Filters.{sum_by-filter_both}
use Rattle.native_memory.specs.declared.kind.Kind.{Kind}
use Rattle.native_memory.specs.declared.kind.Kind.TheVariants.{Segment, Stack, Errno, Heap, Temp, InPlace}
use Rattle.native_memory.specs.AddressSpace.{Block, AddressSpace, lowest, size_of, live_bytes, changed}
use Rattle.native_memory.specs.Ranges.{covers, overwritten, write_in}
use Rattle.native_memory.specs.Placement.{edge_of, has_room, with_behind, stands_at}
use Rattle.native_memory.specs.InPlace.{is_in_place, is_in_place_at, waits_at, with_contents}
use Rattle.native_memory.specs.Sound.{HasItsBytes, IsWhole, LieBetween, IsSound, IsKept}
use Rattle.native_memory.proofs.Picks.{picked_within, kept_picked, changed_picked}
use Rattle.native_memory.specs.Search.{PicksAt}

-- a change of blocks that leaves where they lie
pub record KeepsPlace (change : Block → Block) : Type 0 where
  pub base : (block : Block) → (change block).base ≡ block.base
  pub size : (block : Block) → (change block).size ≡ block.size

pub lie_lower : (low from end : ℕ) (blocks : List Block) → low ≤ from → LieBetween from blocks end → LieBetween low blocks end
lie_lower low from end [] order lie = let end_is : from ≤ end = lie in omega arith
lie_lower low from end (block ∷ rest) order lie = let first : from ≤ block.base = lie.0 in (omega arith, lie.1)

pub lie_mapped : (change : Block → Block) (from end : ℕ) (blocks : List Block) → KeepsPlace change → LieBetween from blocks end → LieBetween from (map change blocks) end
lie_mapped change from end [] keeps lie = lie
lie_mapped change from end (block ∷ rest) keeps lie =
    (rw (keeps.base block) lie.0, rw (keeps.base block, keeps.size block) (lie_mapped change (edge_of block) end rest keeps lie.1))

pub live_mapped : (change : Block → Block) (blocks : List Block) → KeepsPlace change → sum_by size_of (map change blocks) ≡ sum_by size_of blocks
live_mapped change [] keeps = refl
live_mapped change (block ∷ rest) keeps =
    rw (sum_by-cons size_of (change block) (map change rest), sum_by-cons size_of block rest, keeps.size block, live_mapped change rest keeps) refl

lie_if : (keep : Bool) (test : Block → Bool) (from end : ℕ) (block : Block) (rest : List Block) → LieBetween from (block ∷ rest) end → LieBetween (edge_of block) (filter test rest) end
    → LieBetween from (cond keep (block ∷ filter test rest) (filter test rest)) end
lie_if true test from end block rest lie more = (lie.0, more)
lie_if false test from end block rest lie more =
    let first : from ≤ block.base = lie.0 in lie_lower from (edge_of block) end (filter test rest) (omega arith) more

pub lie_filtered : (test : Block → Bool) (from end : ℕ) (blocks : List Block) → LieBetween from blocks end → LieBetween from (filter test blocks) end
lie_filtered test from end [] lie = lie
lie_filtered test from end (block ∷ rest) lie = lie_if (test block) test from end block rest lie (lie_filtered test (edge_of block) end rest lie.1)

pub lie_appended : (from end : ℕ) (blocks : List Block) (block : Block) → LieBetween from blocks end → end ≤ block.base → LieBetween from (blocks ++ block ∷ []) (edge_of block)
lie_appended from end [] block lie behind = let first : from ≤ end = lie in (omega arith, omega arith)
lie_appended from end (first ∷ rest) block lie behind = (lie.0, lie_appended (edge_of first) end rest block lie.1 behind)

live_filtered : (test : Block → Bool) (blocks : List Block) → sum_by size_of (filter test blocks) ≤ sum_by size_of blocks
live_filtered test blocks =
    let both : sum_by size_of (filter test blocks) + sum_by size_of (filter (λ block. not (test block)) blocks) ≡ sum_by size_of blocks =
    sum_by-filter_both test (λ block. not (test block)) (λ block. refl) size_of blocks in
    omega arith

-- a change of the blocks' contents that leaves where they lie
pub changed_sound : (old : AddressSpace) (change : Block → Block) → KeepsPlace change → ((block : Block) → IsWhole block → IsWhole (change block))
    → IsSound old → IsSound (record old { blocks = map change old.blocks })
unfolding live_bytes
changed_sound old change keeps whole sound = record {
  apart = lie_mapped change lowest old.edge old.blocks keeps sound.apart;
  whole = All-map IsWhole change old.blocks (λ k d within. whole _ (sound.whole k d within));
  edge = sound.edge;
  next = sound.next;
  room = rw (live_mapped change old.blocks keeps) sound.room;
}

pub filtered_sound : (old : AddressSpace) (test : Block → Bool) → IsSound old → IsSound (record old { blocks = filter test old.blocks })
unfolding live_bytes
filtered_sound old test sound = record {
  apart = lie_filtered test lowest old.edge old.blocks sound.apart;
  whole = All-filter test IsWhole old.blocks sound.whole;
  edge = sound.edge;
  next = sound.next;
  room = let less : sum_by size_of (filter test old.blocks) ≤ sum_by size_of old.blocks = live_filtered test old.blocks in
      let room : sum_by size_of old.blocks ≤ old.limit = sound.room in omega arith;
}

one_whole : (block : Block) → IsWhole block → All IsWhole (block ∷ [])
one_whole block whole zero d within = whole
one_whole block whole (suc k) d within = absurd (omega arith)

pub with_block_sound : (old : AddressSpace) (block : Block) (next : ℕ) → IsSound old → old.edge ≤ block.base → edge_of block ≤ next → IsWhole block
    → sum_by size_of old.blocks + block.size ≤ old.limit → next ≤ 2 ^ 46
    → IsSound (record old { next = next; edge = edge_of block; blocks = old.blocks ++ block ∷ [] })
unfolding live_bytes
with_block_sound old block next sound behind end whole room top = record {
  apart = lie_appended lowest old.edge old.blocks block sound.apart behind;
  whole = All-append IsWhole old.blocks (block ∷ []) sound.whole (one_whole block whole);
  edge = end;
  next = top;
  room = rw (sum_by-append size_of old.blocks (block ∷ [])) (omega arith);
}

changed_if : (test : Bool) (block other : Block) → other.base ≡ block.base → other.size ≡ block.size
    → ((if test then other else block).base ≡ block.base) × ((if test then other else block).size ≡ block.size)
changed_if true block other base_is size_is = (base_is, size_is)
changed_if false block other base_is size_is = (refl, refl)

pub changed_keeps : (test : Block → Bool) (change : Block → Block) → KeepsPlace change → KeepsPlace (changed test change)
changed_keeps test change keeps = record {
  base = λ block. (changed_if (test block) block (change block) (keeps.base block) (keeps.size block)).0;
  size = λ block. (changed_if (test block) block (change block) (keeps.base block) (keeps.size block)).1;
}

pub length-overwritten : (bytes : List ℕ) (at : ℕ) (from : List ℕ) → at + length from ≤ length bytes → length (overwritten bytes at from) ≡ length bytes
length-overwritten bytes at from fits = simp (length-append, length-take, length-drop) (omega arith)

written_contents : (addr : ℕ) (from : List ℕ) (base size : ℕ) (kind : Kind) (contents : Option (List ℕ)) → addr - base + length from ≤ size
    → HasItsBytes size kind contents → HasItsBytes size kind (option_map (λ bytes. overwritten bytes (addr - base) from) contents)
written_contents addr from base size kind None fits whole = whole
written_contents addr from base size kind (Some bytes) fits whole =
    let len : length bytes ≡ size = whole in length-overwritten bytes (addr - base) from (omega arith) ∙ len

pub room_is : (live limit next top : ℕ) → (nat_le live limit && nat_le next top) ≡ true → (live ≤ limit) × (next ≤ top)
room_is live limit next top room = (grind (arith, nat_tests, room), grind (arith, nat_tests, room))

-- the same with the count of live bytes
pub with_block_kept : (old : AddressSpace) (block : Block) (next count : ℕ) → IsKept old count → old.edge ≤ block.base → edge_of block ≤ next → IsWhole block
    → has_room old block.size next ≡ true → IsKept (with_behind old block next) (count + block.size)
unfolding live_bytes
with_block_kept old block next count kept behind end whole room = record {
  sound = with_block_sound old block next kept.sound behind end whole (room_is _ _ _ _ room).0 (room_is _ _ _ _ room).1;
  live = rw (kept.live, sum_by-append size_of old.blocks (block ∷ [])) (omega arith);
}

pub size_within : (old : AddressSpace) (test : Block → Bool) (at : ℕ) (d : Block) → PicksAt test old.blocks at → (get_or old.blocks at d).size ≤ live_bytes old
unfolding live_bytes
size_within old test at d picks = omega (arith, sum_by-remove size_of old.blocks at d (picked_within test old.blocks at picks))

pub removed_kept : (old : AddressSpace) (test : Block → Bool) (at : ℕ) (d : Block) (count : ℕ) → IsKept old count → PicksAt test old.blocks at
    → IsKept (record old { blocks = remove old.blocks at }) (count - (get_or old.blocks at d).size)
unfolding live_bytes
removed_kept old test at d count kept picks = record {
  sound = rw (← kept_picked test old.blocks at picks) (filtered_sound old (λ block. not (test block)) kept.sound);
  live = let whole : count ≡ live_bytes old = kept.live in
      omega (arith, sum_by-remove size_of old.blocks at d (picked_within test old.blocks at picks));
}

pub changed_whole : (test : Bool) (block other : Block) → (test ≡ true → IsWhole other) → IsWhole block → IsWhole (if test then other else block)
changed_whole true block other when whole = when refl
changed_whole false block other when whole = whole

-- a change of the contents of the one block of which a test is true
pub set_kept : (old : AddressSpace) (test : Block → Bool) (change : Block → Block) (at : ℕ) (d : Block) (count : ℕ) → IsKept old count → PicksAt test old.blocks at
    → KeepsPlace change → ((block : Block) → test block ≡ true → IsWhole block → IsWhole (change block))
    → IsKept (record old { blocks = slice_set old.blocks at (change (get_or old.blocks at d)) }) count
unfolding live_bytes
set_kept old test change at d count kept picks keeps whole =
    rw (← changed_picked test change old.blocks at d picks) (record {
      sound = changed_sound old (changed test change) (changed_keeps test change keeps)
          (λ block is_whole. changed_whole (test block) block (change block) (λ holds. whole block holds is_whole) is_whole) kept.sound;
      live = kept.live ∙ sym (live_mapped (changed test change) old.blocks (changed_keeps test change keeps));
    })

both_right : (a b : Bool) → (a && b) ≡ true → b ≡ true
both_right true b both = both
both_right false b both = cc

equal_of : (a b : ℕ) → (a == b) ≡ true → a ≡ b
equal_of a b same = grind (arith, nat_tests, same)

in_place_is : (kind : Kind) → is_in_place kind ≡ true → kind ≡ InPlace
in_place_is InPlace is = refl
in_place_is Segment is = cc
in_place_is Stack is = cc
in_place_is Errno is = cc
in_place_is Heap is = cc
in_place_is Temp is = cc

pub adopts_whole : (base : ℕ) (body : List ℕ) (block : Block) → waits_at base (length body) block ≡ true → IsWhole block → IsWhole (with_contents (Some body) block)
adopts_whole base body block waits whole =
    sym (equal_of block.size (length body) (both_right (not (is_some block.contents)) _ (both_right (is_in_place_at base block) _ waits)))

pub takes_whole : (base : ℕ) (block : Block) → is_in_place_at base block ≡ true → IsWhole block → IsWhole (with_contents None block)
takes_whole base block here whole = in_place_is block.kind (both_right (stands_at base block) _ here)

pub writes_whole : (addr : ℕ) (from : List ℕ) (block : Block) → covers addr (length from) block ≡ true → IsWhole block → IsWhole (write_in addr from block)
writes_whole addr from block covered whole =
    written_contents addr from block.base block.size block.kind block.contents (grind (arith, nat_tests, covered)) whole

pub contents_keep : (contents : Option (List ℕ)) → KeepsPlace (with_contents contents)
contents_keep contents = record { base = λ block. refl; size = λ block. refl }

pub writes_keep : (addr : ℕ) (from : List ℕ) → KeepsPlace (write_in addr from)
writes_keep addr from = record { base = λ block. refl; size = λ block. refl }
