-- Whether there is room for a block.
use Rattle.std.proofs.Common.{◌≡◌, ℕ, ◌+◌, ◌-◌, ◌^◌, ◌<◌, ◌≤◌, nat_le, Bool, true, false, ◌&&◌, if◌then◌else◌, List, ◌++◌, length, replicate, Option, Some, None, arith, refl}
use Rattle.std.proofs.lemmas.Bool.Decides.{nat_tests}
use Rattle.bound_base.specs.declared.limits.Rights.{Rights}
use Rattle.native_memory.specs.declared.kind.Kind.{Kind}
use Rattle.native_memory.specs.declared.kind.Kind.TheVariants.{Segment}
use Rattle.native_memory.specs.declared.faults.PlaceBad.{PlaceBad}
use Rattle.native_memory.specs.declared.faults.PlaceBad.TheVariants.{Memory}
use Rattle.native_memory.specs.AddressSpace.{AddressSpace, live_bytes}
use Rattle.native_memory.specs.Placement.{FailsToPlace, up_to_16, within_top, with_behind, new_contents, placed, placed_at}

top_if : (test : Bool) (next : ℕ) → (if test then Some next else None) ≡ None → test ≡ false
top_if true next none = cc
top_if false next none = refl

top_then : (test : Bool) (next n : ℕ) → (if test then Some next else None) ≡ Some n → (test ≡ true) × (next ≡ n)
top_then true next n some = (refl, cc)
top_then false next n some = cc

both_false : (b : Bool) → (b && false) ≡ false
both_false true = refl
both_false false = refl

above_top : (live limit next : ℕ) → within_top next ≡ None → (nat_le live limit && nat_le next (2 ^ 46)) ≡ false
above_top live limit next none = let above : nat_le next (2 ^ 46) ≡ false = top_if _ next none in rw above (both_false (nat_le live limit))

over : (live size limit next : ℕ) → limit - live < size → live ≤ limit → (nat_le (live + size) limit && nat_le next (2 ^ 46)) ≡ false
over live size limit next more within = let past : nat_le (live + size) limit ≡ false = grind (arith, nat_tests) in rw past refl

room : (live size limit next n : ℕ) → size ≤ limit - live → live ≤ limit → within_top next ≡ Some n → (nat_le (live + size) limit && nat_le next (2 ^ 46)) ≡ true
room live size limit next n fits within top =
    let here : nat_le (live + size) limit ≡ true = grind (arith, nat_tests) in rw (here, (top_then _ next n top).0) refl

pub placed_above : (space : AddressSpace) (size : ℕ) (rights : Rights) (kind : Kind) → within_top (space.next + up_to_16 size + 16) ≡ None → placed space size rights kind ≡ None
unfolding placed
placed_above space size rights kind none = rw (above_top _ _ _ none) refl

pub placed_over : (space : AddressSpace) (size : ℕ) (rights : Rights) (kind : Kind) → space.limit - live_bytes space < size → live_bytes space ≤ space.limit → placed space size rights kind ≡ None
unfolding placed
placed_over space size rights kind more within = rw (over _ _ _ _ more within) refl

pub placed_is : (space : AddressSpace) (size : ℕ) (rights : Rights) (kind : Kind) (next : ℕ) → within_top (space.next + up_to_16 size + 16) ≡ Some next → size ≤ space.limit - live_bytes space
    → live_bytes space ≤ space.limit
    → placed space size rights kind ≡ Some (with_behind space (record { base = space.next; size = size; rights = rights; kind = kind; contents = new_contents size kind }) next)
unfolding placed
placed_is space size rights kind next top fits within = rw (room _ _ _ _ _ fits within top, (top_then _ _ _ top).1) refl

pub placed_at_above : (space : AddressSpace) (base : ℕ) (bytes : List ℕ) (size : ℕ) (rights : Rights) → within_top (up_to_16 (base + size) + 16) ≡ None → placed_at space base bytes size rights ≡ None
unfolding placed_at
placed_at_above space base bytes size rights none = rw (above_top _ _ _ none) refl

pub placed_at_over : (space : AddressSpace) (base : ℕ) (bytes : List ℕ) (size : ℕ) (rights : Rights) → space.limit - live_bytes space < size → live_bytes space ≤ space.limit
    → placed_at space base bytes size rights ≡ None
unfolding placed_at
placed_at_over space base bytes size rights more within = rw (over _ _ _ _ more within) refl

pub placed_at_is : (space : AddressSpace) (base : ℕ) (bytes : List ℕ) (size : ℕ) (rights : Rights) (next : ℕ) → within_top (up_to_16 (base + size) + 16) ≡ Some next
    → size ≤ space.limit - live_bytes space → live_bytes space ≤ space.limit
    → placed_at space base bytes size rights ≡ Some (with_behind space (record { base = base; size = size; rights = rights; kind = Segment; contents = Some (bytes ++ replicate (size - length bytes) 0) }) next)
unfolding placed_at
placed_at_is space base bytes size rights next top fits within = rw (room _ _ _ _ _ fits within top, (top_then _ _ _ top).1) refl

-- an error for want of memory, where there is room
pub refuses_memory : (bad : PlaceBad) (change : Option AddressSpace) (new : AddressSpace) → bad ≡ Memory → change ≡ Some new → FailsToPlace bad change
refuses_memory bad change new memory some = rw (memory, some) refl
