-- The changes that calls make, by the block that they are about.
use Rattle.std.proofs.Common.{◌≡◌, ℕ, ◌≢◌, nat_eq, Bool, true, false, List, length, get_or, map, Some, None, arith, sym, refl}
use Rattle.std.specs.Prelude.{is_some, slice_set, option_and_then, if◌then◌else◌}
use Rattle.std.specs.List.{remove}
use Rattle.std.proofs.lemmas.Bool.Decides.{nat_tests}
use Rattle.native_memory.specs.AddressSpace.{Block, AddressSpace, changed, is_heap}
use Rattle.native_memory.specs.Ranges.{covers, write_in, may_write, bytes_at, written_at}
use Rattle.native_memory.specs.Placement.{stands_at, ended}
use Rattle.native_memory.specs.InPlace.{is_in_place_at, waits_at, with_contents, adopted, lent_at, taken_back}
use Rattle.native_memory.specs.Search.{FailsAll, PicksAt}
use Rattle.native_memory.proofs.Picks.{find_fails, find_picked, changed_picked, kept_picked}
use Rattle.native_memory.proofs.Addresses.{with_missing, with_found, any_block}

pub ended_missing : (space : AddressSpace) (base : ℕ) → FailsAll (stands_at base) space.blocks → ended space base ≡ None
unfolding ended
ended_missing space base fails = rw (with_missing space base fails) refl

pub ended_found : (space : AddressSpace) (base at : ℕ) → PicksAt (stands_at base) space.blocks at
    → ended space base ≡ Some (record space { blocks = remove space.blocks at })
unfolding ended
ended_found space base at picks =
    rw (with_found space base at any_block picks, kept_picked (stands_at base) space.blocks at picks) refl

-- the block at a place has changed
pub set_is : (space : AddressSpace) (test : Block → Bool) (change : Block → Block) (at : ℕ) (d : Block) → PicksAt test space.blocks at
    → slice_set space.blocks at (change (get_or space.blocks at d)) ≡ map (changed test change) space.blocks
set_is space test change at d picks = sym (changed_picked test change space.blocks at d picks)

pub adopted_missing : (space : AddressSpace) (base : ℕ) (body : List ℕ) → FailsAll (waits_at base (length body)) space.blocks → adopted space base body ≡ None
unfolding adopted
adopted_missing space base body fails = rw (find_fails (waits_at base (length body)) space.blocks fails) refl

pub adopted_found : (space : AddressSpace) (base : ℕ) (body : List ℕ) (at : ℕ) (d : Block) → PicksAt (waits_at base (length body)) space.blocks at
    → adopted space base body ≡ Some (record space { blocks = slice_set space.blocks at (with_contents (Some body) (get_or space.blocks at d)) })
unfolding adopted
adopted_found space base body at d picks =
    rw (find_picked (waits_at base (length body)) space.blocks at d picks, set_is space (waits_at base (length body)) (with_contents (Some body)) at d picks) refl

pub lent_missing : (space : AddressSpace) (base : ℕ) → FailsAll (is_in_place_at base) space.blocks → lent_at space base ≡ None
unfolding lent_at
lent_missing space base fails = rw (find_fails (is_in_place_at base) space.blocks fails) refl

pub lent_found : (space : AddressSpace) (base at : ℕ) (d : Block) → PicksAt (is_in_place_at base) space.blocks at → lent_at space base ≡ (get_or space.blocks at d).contents
unfolding lent_at
lent_found space base at d picks = rw (find_picked (is_in_place_at base) space.blocks at d picks) refl

pub taken_found : (space : AddressSpace) (base at : ℕ) (d : Block) → PicksAt (is_in_place_at base) space.blocks at
    → taken_back space base ≡ record space { blocks = slice_set space.blocks at (with_contents None (get_or space.blocks at d)) }
taken_found space base at d picks = rw (set_is space (is_in_place_at base) (with_contents None) at d picks) refl

ne_false : (n : ℕ) → n ≢ 0 → nat_eq n 0 ≡ false
ne_false n some = grind (arith, nat_tests)

pub written_none : (space : AddressSpace) (addr : ℕ) (from : List ℕ) → length from ≡ 0 → written_at space addr from ≡ Some space
unfolding written_at
written_none space addr from none = rw none refl

pub written_missing : (space : AddressSpace) (addr : ℕ) (from : List ℕ) → length from ≢ 0 → bytes_at may_write space addr (length from) ≡ None
    → written_at space addr from ≡ None
unfolding written_at
written_missing space addr from some missing = rw (ne_false (length from) some, missing) refl

pub written_found : (space : AddressSpace) (addr : ℕ) (from : List ℕ) (at : ℕ) (d : Block) → length from ≢ 0
    → PicksAt (covers addr (length from)) space.blocks at × (is_some (bytes_at may_write space addr (length from)) ≡ true)
    → written_at space addr from ≡ Some (record space { blocks = slice_set space.blocks at (write_in addr from (get_or space.blocks at d)) })
unfolding written_at
written_found space addr from at d some here =
    rw (ne_false (length from) some, here.1, set_is space (covers addr (length from)) (write_in addr from) at d here.0) refl

contents_if : (heap : Bool) (block : Block) → (if heap then block.contents else None) ≡ option_and_then (λ found. found.contents) (if heap then Some block else None)
contents_if true block = refl
contents_if false block = refl

-- the contents of a block, where it is a heap block
pub heap_contents_of : (block : Block)
    → (if is_heap block then block.contents else None) ≡ option_and_then (λ found. found.contents) (if is_heap block then Some block else None)
heap_contents_of block = contents_if (is_heap block) block
