use Rattle.std.proofs.Common.{◌≡◌, pos, ap, ◌∙◌, arith}
use Rattle.cil_arith.specs.Conversions.{cut}
use Rattle.cil_arith.specs.Kinds.{whole}
use Rattle.cil_arith.specs.Targets.{type_of}
use Rattle.cil_arith.proofs.Cutting.{cut_of_bits}
use Rattle.cil_arith.proofs.conversions.widened.Goals as goal

pub returns-in-I1 : goal.returns-in-I1
returns-in-I1 c =
    let t = type_of c.args.target in
    let e : cut t (pos c.cast_unsigned.result) ≡ cut t (whole c.args.a) = cut_of_bits c.args.target c.sign_extended.result c.cast_unsigned.result c.sign_extended.type_inv c.cast_unsigned.ensures ∙ ap (cut t) c.sign_extended.ensures in
    grind (arith, e)
