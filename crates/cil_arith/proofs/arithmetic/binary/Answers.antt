use Rattle.std.proofs.Common.{FitsSigned, sym, ap, ◌∙◌, arith, rules, to_z-of_z}
use Rattle.std.specs.Int.{w32, w64}
use Rattle.cil_arith.specs.Arithmetic.{rule, amount_of}
use Rattle.cil_arith.proofs.Shifted.{same_amount}
use Rattle.cil_arith.proofs.arithmetic.binary.Goals as goal

pub returns-then-is_shift : goal.returns-then-is_shift
returns-then-is_shift c =
    let shift = sym c.is_shift.ensures ∙ c.if-is_shift.true in
    let in_b : FitsSigned w64 c.in-I32-N.b = search rules in
    let amount = c.low_5_bits.ensures ∙ ap (amount_of w32) (to_z-of_z in_b) in
    let e = same_amount (rule c.args.op) w32 c.in-I32-N.a c.low_5_bits.result c.in-I32-N.b shift amount in
    grind (arith, to_z-of_z)
