-- The bytes of a range, by the block that covers it.
use Rattle.std.proofs.Common.{◌≡◌, ℕ, ◌-◌, ◌≢◌, drop, nat_eq, Bool, false, [], get_or, Some, None, arith, refl}
use Rattle.std.specs.Prelude.{option_map}
use Rattle.std.proofs.lemmas.Bool.Decides.{nat_tests}
use Rattle.bound_base.specs.declared.limits.Rights.{Rights}
use Rattle.native_memory.specs.AddressSpace.{Block, AddressSpace}
use Rattle.native_memory.specs.Ranges.{covers, may_read, open_bytes, part, bytes_at, rest_at}
use Rattle.native_memory.specs.Search.{FailsAll, PicksAt}
use Rattle.native_memory.proofs.Picks.{find_fails, find_picked}

ne_false : (n : ℕ) → n ≢ 0 → nat_eq n 0 ≡ false
ne_false n some = grind (arith, nat_tests)

pub bytes_none : (right : Rights → Bool) (space : AddressSpace) (addr len : ℕ) → len ≡ 0 → bytes_at right space addr len ≡ Some []
unfolding bytes_at
bytes_none right space addr len none = rw none refl

pub bytes_missing : (right : Rights → Bool) (space : AddressSpace) (addr len : ℕ) → len ≢ 0 → FailsAll (covers addr len) space.blocks → bytes_at right space addr len ≡ None
unfolding bytes_at
bytes_missing right space addr len some fails = rw (ne_false len some, find_fails (covers addr len) space.blocks fails) refl

pub bytes_found : (right : Rights → Bool) (space : AddressSpace) (addr len at : ℕ) (d : Block) → len ≢ 0 → PicksAt (covers addr len) space.blocks at
    → bytes_at right space addr len ≡ option_map (part addr len (get_or space.blocks at d)) (open_bytes right (get_or space.blocks at d))
unfolding bytes_at
bytes_found right space addr len at d some picks = rw (ne_false len some, find_picked (covers addr len) space.blocks at d picks) refl

pub rest_missing : (space : AddressSpace) (addr : ℕ) → FailsAll (covers addr 1) space.blocks → rest_at space addr ≡ None
unfolding rest_at
rest_missing space addr fails = rw (find_fails (covers addr 1) space.blocks fails) refl

pub rest_found : (space : AddressSpace) (addr at : ℕ) (d : Block) → PicksAt (covers addr 1) space.blocks at
    → rest_at space addr ≡ option_map (drop (addr - (get_or space.blocks at d).base)) (open_bytes may_read (get_or space.blocks at d))
unfolding rest_at
rest_found space addr at d picks = rw (find_picked (covers addr 1) space.blocks at d picks) refl
