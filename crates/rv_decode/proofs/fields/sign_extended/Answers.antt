-- both numbers are below 2 ^ 31
use Rattle.std.proofs.Common.{arith}
use Rattle.std.proofs.lemmas.Int.{ints}
use Rattle.rv_decode.proofs.Shifts.{one_shifted}
use Rattle.rv_decode.proofs.fields.sign_extended.Goals as goal

pub overflow_sub-result : goal.overflow_sub-result
overflow_sub-result c = let s = one_shifted c.args.width c.requires.part in omega (arith, ints)
