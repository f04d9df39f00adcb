use Rattle.std.proofs.Common.{rules}
use Rattle.std.proofs.lemmas.Int.{wraps}
use Rattle.cil_arith.proofs.unary_operations.unary_32.Goals as goal

pub returns-in-Neg : goal.returns-in-Neg
returns-in-Neg c = search (rules, wraps)
