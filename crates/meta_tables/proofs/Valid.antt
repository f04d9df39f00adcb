-- The bits of Valid.
use Rattle.std.proofs.Common.{◌≡◌, ℕ, ◌+◌, refl, add-one, if◌then◌else◌}
use Rattle.byte_view.specs.Layout.{is_present, present_below}

pub present_below_next : (valid table : ℕ) → present_below valid (table + 1) ≡ present_below valid table + (if is_present valid table then 1 else 0)
unfolding present_below
present_below_next valid table = rw add-one refl
