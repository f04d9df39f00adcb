-- The blocks that native code is entered with.
use Rattle.bound_base.specs.declared.limits.Lane.{Lane}

-- the blocks that are placed first: the number of the last error, and the stack
abbrev pub first_lane : Lane
first_lane = record { errno = 0x10000; stack = 0x10020 }
