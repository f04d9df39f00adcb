-- The definitions evaluated on worked numbers.
use Rattle.std.proofs.Common.{refl}
use Rattle.std.specs.Int.{int_wrap}
use Rattle.cil_arith.specs.Examples.{WorkedDivisions, WorkedSums, WorkedShifts, WorkedConversions, WorkedComparisons}

pub divisions : WorkedDivisions
unfolding int_wrap
divisions = (refl, refl, refl, refl, refl, refl)

pub sums : WorkedSums
unfolding int_wrap
sums = (refl, refl, refl, refl, refl, refl, refl)

pub shifts : WorkedShifts
unfolding int_wrap
shifts = (refl, refl, refl, refl, refl, refl)

pub conversions : WorkedConversions
unfolding int_wrap
conversions = (refl, refl, refl, refl, refl, refl)

pub comparisons : WorkedComparisons
comparisons = (refl, refl, refl, refl, refl)
