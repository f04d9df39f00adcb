-- Memory after any number of changes: it stays sound, its edge never falls, and an address that has become free stays so.
use Rattle.std.proofs.Common.{◌≡◌, ◌∙◌, ℕ, ◌-◌, ◌<◌, ◌≤◌, Bool, true, false, not, cond, if◌then◌else◌, List, [], ◌∷◌, ◌++◌, length, map, replicate, Option, Some, None, arith, refl, subst}
use Rattle.std.specs.Prelude.{option_map}
use Rattle.std.specs.List.{filter, find}
use Rattle.std.proofs.lemmas.List.{length-append, length-replicate}
use Rattle.native_memory.specs.declared.kind.Kind.{Kind}
use Rattle.native_memory.specs.declared.kind.Kind.TheVariants.{Segment, Stack, Errno, Heap, Temp, InPlace}
use Rattle.native_memory.specs.AddressSpace.{Block, AddressSpace, live_bytes, changed}
use Rattle.native_memory.specs.Ranges.{covers, write_in, with_written, written_at}
use Rattle.native_memory.specs.Placement.{edge_of, has_room, with_behind, new_contents, placed, placed_at, stands_at, block_with, ended, holds_address, base_of}
use Rattle.native_memory.specs.InPlace.{is_in_place_at, waits_at, with_contents, adopted}
use Rattle.native_memory.specs.Sound.{HasItsBytes, IsWhole, IsSound}
use Rattle.native_memory.specs.Search.{FailsAll}
use Rattle.native_memory.specs.Changes.{StaysFree}
use Rattle.native_memory.specs.Laws.{Follows, Places, PlacesAt, Writes, Ends, Adopts, TakesBack, Reaches, Stays, Goes}
use Rattle.native_memory.proofs.Picks.{find_fails, AsksFor, asks_address, asks_base}
use Rattle.native_memory.proofs.Kept.{KeepsPlace, changed_sound, changed_keeps, changed_whole, filtered_sound, with_block_sound, room_is, contents_keep, writes_keep, adopts_whole, takes_whole, writes_whole}

-- a test that asks where a block lies, for an address
pub record AsksOfPlace (test : Block → Bool) (addr : ℕ) : Type 0 where
  pub asks : AsksFor test addr
  pub place : (a b : Block) → a.base ≡ b.base → a.size ≡ b.size → test a ≡ test b

-- a state that goes on from another: the edge hasn't fallen, and no address below it has been given out again
pub record GoesOn (old new : AddressSpace) : Type 0 where
  pub sound : IsSound new
  pub edge : old.edge ≤ new.edge
  pub free : (test : Block → Bool) (addr : ℕ) → AsksOfPlace test addr → addr < old.edge → FailsAll test old.blocks → FailsAll test new.blocks

fails_if : (found : Bool) (test : Block → Bool) (block : Block) (rest : List Block) → test block ≡ found → cond found (Some block) (find test rest) ≡ None
    → (find test rest ≡ None → FailsAll test rest) → (test block ≡ false) × FailsAll test rest
fails_if true test block rest is none others = cc
fails_if false test block rest is none others = (is, others none)

pub fails_of_find : (test : Block → Bool) (blocks : List Block) → find test blocks ≡ None → FailsAll test blocks
fails_of_find test [] none = tt
fails_of_find test (block ∷ rest) none = fails_if (test block) test block rest refl none (fails_of_find test rest)

same : (old : AddressSpace) → IsSound old → GoesOn old old
same old sound = record { sound = sound; edge = omega arith; free = λ test addr asks low free. free }

fails_mapped : (test : Block → Bool) (change : Block → Block) (addr : ℕ) (blocks : List Block) → AsksOfPlace test addr → KeepsPlace change → FailsAll test blocks
    → FailsAll test (map change blocks)
fails_mapped test change addr [] asks keeps fails = tt
fails_mapped test change addr (block ∷ rest) asks keeps fails =
    (asks.place (change block) block (keeps.base block) (keeps.size block) ∙ fails.0, fails_mapped test change addr rest asks keeps fails.1)

fails_kept : (keep : Bool) (test : Block → Bool) (block : Block) (more : List Block) → test block ≡ false → FailsAll test more → FailsAll test (cond keep (block ∷ more) more)
fails_kept true test block more fails others = (fails, others)
fails_kept false test block more fails others = others

fails_filtered : (keep test : Block → Bool) (blocks : List Block) → FailsAll test blocks → FailsAll test (filter keep blocks)
fails_filtered keep test [] fails = tt
fails_filtered keep test (block ∷ rest) fails = fails_kept (keep block) test block (filter keep rest) fails.0 (fails_filtered keep test rest fails.1)

fails_appended : (test : Block → Bool) (blocks : List Block) (block : Block) → FailsAll test blocks → test block ≡ false → FailsAll test (blocks ++ block ∷ [])
fails_appended test [] block fails last = (last, tt)
fails_appended test (first ∷ rest) block fails last = (fails.0, fails_appended test rest block fails.1 last)

changed_on : (old : AddressSpace) (test : Block → Bool) (change : Block → Block) → KeepsPlace change → ((block : Block) → test block ≡ true → IsWhole block → IsWhole (change block))
    → IsSound old → GoesOn old (record old { blocks = map (changed test change) old.blocks })
changed_on old test change keeps whole sound = record {
  sound = changed_sound old (changed test change) (changed_keeps test change keeps)
      (λ block is_whole. changed_whole (test block) block (change block) (λ holds. whole block holds is_whole) is_whole) sound;
  edge = omega arith;
  free = λ other addr asks low free. fails_mapped other (changed test change) addr old.blocks asks (changed_keeps test change keeps) free;
}

behind_on : (old : AddressSpace) (block : Block) (next : ℕ) → IsSound old → old.edge ≤ block.base → edge_of block ≤ next → IsWhole block → has_room old block.size next ≡ true
    → GoesOn old (with_behind old block next)
unfolding live_bytes
behind_on old block next sound behind end whole room = record {
  sound = with_block_sound old block next sound behind end whole (room_is _ _ _ _ room).0 (room_is _ _ _ _ room).1;
  edge = omega arith;
  free = λ test addr asks low free. fails_appended test old.blocks block free (asks.asks.above block (omega arith));
}

is_on : (old now new : AddressSpace) → GoesOn old now → Some now ≡ Some new → GoesOn old new
is_on old now new on is = let P : AddressSpace → Type 0 = λ space. GoesOn old space in let e : now ≡ new = cc in subst P e on

with_block_on : (old new : AddressSpace) (block : Block) (next : ℕ) (room : Bool) → has_room old block.size next ≡ room → (if room then Some (with_behind old block next) else None) ≡ Some new
    → IsSound old → old.edge ≤ block.base → edge_of block ≤ next → IsWhole block → GoesOn old new
with_block_on old new block next true room is sound behind end whole = is_on old (with_behind old block next) new (behind_on old block next sound behind end whole room) is
with_block_on old new block next false room is sound behind end whole = cc

written_on : (old now new : AddressSpace) (none some : Bool) → (if none then Some old else if some then Some now else None) ≡ Some new → GoesOn old old → GoesOn old now → GoesOn old new
written_on old now new true some is before after = is_on old old new before is
written_on old now new false true is before after = is_on old now new after is
written_on old now new false false is before after = cc

ended_on : (old now new : AddressSpace) (found : Option Block) → option_map (λ _. now) found ≡ Some new → GoesOn old now → GoesOn old new
ended_on old now new (Some block) is after = is_on old now new after is
ended_on old now new None is after = cc

adopted_on : (old now new : AddressSpace) (waits : Bool) → (if waits then Some now else None) ≡ Some new → GoesOn old now → GoesOn old new
adopted_on old now new true is after = is_on old now new after is
adopted_on old now new false is after = cc

filtered_on : (old : AddressSpace) (keep : Block → Bool) → IsSound old → GoesOn old (record old { blocks = filter keep old.blocks })
filtered_on old keep sound = record {
  sound = filtered_sound old keep sound;
  edge = omega arith;
  free = λ test addr asks low free. fails_filtered keep test old.blocks free;
}

new_whole : (size : ℕ) (kind : Kind) → HasItsBytes size kind (new_contents size kind)
new_whole size InPlace = refl
new_whole size Segment = length-replicate size 0
new_whole size Stack = length-replicate size 0
new_whole size Errno = length-replicate size 0
new_whole size Heap = length-replicate size 0
new_whole size Temp = length-replicate size 0

filled_whole : (bytes : List ℕ) (size : ℕ) → length bytes ≤ size → length (bytes ++ replicate (size - length bytes) 0) ≡ size
filled_whole bytes size fits = simp (length-append, length-replicate) (omega arith)

pub follows_on : (old new : AddressSpace) → IsSound old → Follows old new → GoesOn old new
unfolding placed placed_at written_at ended adopted
follows_on old new sound (Places _ _ size rights kind is) =
    with_block_on old new _ _ _ refl is sound sound.edge (omega arith) (new_whole size kind)
follows_on old new sound (PlacesAt _ _ base bytes size rights behind fits is) =
    with_block_on old new _ _ _ refl is sound behind (omega arith) (filled_whole bytes size fits)
follows_on old new sound (Writes _ _ addr from is) =
    written_on old (with_written old addr from) new _ _ is (same old sound)
    (changed_on old (covers addr (length from)) (write_in addr from) (writes_keep addr from) (writes_whole addr from) sound)
follows_on old new sound (Ends _ _ base is) = ended_on old _ new _ is (filtered_on old (λ block. not (stands_at base block)) sound)
follows_on old new sound (Adopts _ _ base body is) =
    adopted_on old _ new _ is
    (changed_on old (waits_at base (length body)) (with_contents (Some body)) (contents_keep (Some body)) (adopts_whole base body) sound)
follows_on old new sound (TakesBack _ base) =
    changed_on old (is_in_place_at base) (with_contents None) (contents_keep None) (takes_whole base) sound

-- of a sound state in which an address below the edge is free
pub reaches_on : (old new : AddressSpace) → IsSound old → Reaches old new → GoesOn old new
reaches_on old new sound (Stays _) = same old sound
reaches_on old new sound (Goes _ between _ reaches follows) =
    let before : GoesOn old between = reaches_on old between sound reaches in
    let after : GoesOn between new = follows_on between new before.sound follows in
    record {
      sound = after.sound;
      edge = omega (arith, before.edge, after.edge);
      free = λ test addr asks low free. after.free test addr asks (omega (arith, before.edge)) (before.free test addr asks low free);
    }

none_of : (found : Option Block) → option_map (λ block. block.base) found ≡ None → found ≡ None
none_of (Some block) none = cc
none_of None none = refl

address_asks : (addr : ℕ) → AsksOfPlace (holds_address addr) addr
address_asks addr = record { asks = asks_address addr; place = λ a b base size. rw (base, size) refl }

base_asks : (base : ℕ) → AsksOfPlace (stands_at base) base
base_asks base = record { asks = asks_base base; place = λ a b same_base size. rw same_base refl }

-- what such a state leaves free
pub free_of : (old new : AddressSpace) → GoesOn old new → StaysFree old new
unfolding base_of block_with
free_of old new on = record {
  edge = on.edge;
  addresses = λ addr low none.
      let free : FailsAll (holds_address addr) old.blocks = fails_of_find (holds_address addr) old.blocks (none_of _ none) in
      rw (find_fails (holds_address addr) new.blocks (on.free (holds_address addr) addr (address_asks addr) low free)) refl;
  bases = λ base low none.
      let free : FailsAll (stands_at base) old.blocks = fails_of_find (stands_at base) old.blocks none in
      find_fails (stands_at base) new.blocks (on.free (stands_at base) base (base_asks base) low free);
}

pub stays_free : (old new : AddressSpace) (addr : ℕ) → IsSound old → addr < old.edge → base_of old addr ≡ None → Reaches old new → base_of new addr ≡ None
stays_free old new addr sound low none reaches = (free_of old new (reaches_on old new sound reaches)).addresses addr low none

pub base_stays_free : (old new : AddressSpace) (base : ℕ) → IsSound old → base < old.edge → block_with old base ≡ None → Reaches old new → block_with new base ≡ None
base_stays_free old new base sound low none reaches = (free_of old new (reaches_on old new sound reaches)).bases base low none
