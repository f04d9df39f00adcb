-- The live block in which an address lies, and the one with a base.
use Rattle.std.proofs.Common.{◌≡◌, ℕ, ◌+◌, ◌<◌, ◌≤◌, false, length, get_or, Some, None, arith, ap, refl}
use Rattle.std.proofs.lemmas.Bool.Decides.{nat_tests}
use Rattle.native_memory.specs.declared.search.Candidate.{Candidate}
use Rattle.native_memory.specs.declared.kind.Kind.TheVariants.{Heap}
use Rattle.native_memory.specs.AddressSpace.{Block, AddressSpace}
use Rattle.native_memory.specs.Placement.{holds_address, stands_at, base_of, block_with}
use Rattle.native_memory.specs.Sound.{IsSound}
use Rattle.native_memory.specs.Search.{IsLast, FailsAll, PicksAt}
use Rattle.native_memory.proofs.Picks.{find_fails, find_picked, asks_address, fails_above, picked, unpicked}

-- some block
pub any_block : Block
any_block = record { base = 0; size = 0; rights = record { r = false; w = false; x = false }; kind = Heap; contents = None }

pub base_missing : (space : AddressSpace) (addr : ℕ) → ((k : ℕ) (d : Block) → k < length space.blocks → addr < (get_or space.blocks k d).base)
    → base_of space addr ≡ None
unfolding base_of
base_missing space addr above = rw (find_fails (holds_address addr) space.blocks (fails_above _ addr _ (asks_address addr) above)) refl

pub base_found : (space : AddressSpace) (addr : ℕ) (it : Candidate) → IsSound space → IsLast space.blocks addr it → addr < it.base + it.size
    → base_of space addr ≡ Some it.base
unfolding base_of
base_found space addr it sound last within =
    let here : PicksAt (holds_address addr) space.blocks it.at =
    picked _ addr _ _ _ it (asks_address addr) sound.apart last (λ block base_is size_is. grind (arith, nat_tests, last.base)) in
    rw (find_picked (holds_address addr) space.blocks it.at (any_block) here) (ap Some (last.entry.base any_block))

pub base_past : (space : AddressSpace) (addr : ℕ) (it : Candidate) → IsSound space → IsLast space.blocks addr it → it.base + it.size ≤ addr
    → base_of space addr ≡ None
unfolding base_of
base_past space addr it sound last past =
    rw (find_fails (holds_address addr) space.blocks
    (unpicked _ addr _ _ _ it (asks_address addr) sound.apart last (λ block base_is size_is. grind (arith, nat_tests)))) refl

pub with_missing : (space : AddressSpace) (base : ℕ) → FailsAll (stands_at base) space.blocks → block_with space base ≡ None
unfolding block_with
with_missing space base fails = find_fails (stands_at base) space.blocks fails

pub with_found : (space : AddressSpace) (base at : ℕ) (d : Block) → PicksAt (stands_at base) space.blocks at → block_with space base ≡ Some (get_or space.blocks at d)
unfolding block_with
with_found space base at d picks = find_picked (stands_at base) space.blocks at d picks
