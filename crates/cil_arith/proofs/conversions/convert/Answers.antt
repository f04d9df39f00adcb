use Rattle.std.proofs.Common.{Ok, FitsSigned, sym, ap, ◌∙◌, arith, to_z-of_z}
use Rattle.std.proofs.lemmas.Int.{ints}
use Rattle.std.specs.Int.{w64}
use Rattle.cil_arith.specs.Kinds.{holds}
use Rattle.cil_arith.specs.Conversions.{checked, converted}
use Rattle.cil_arith.specs.Targets.{type_of, conversion_by}
use Rattle.cil_arith.proofs.Cutting.{cut_of_bits, cut_fitting}
use Rattle.cil_arith.proofs.conversions.convert.Goals as goal

pub returns-then-holds : goal.returns-then-holds
returns-then-holds c =
    let target = c.parts-check.result.1 in
    let t = type_of target in
    let number = c.sign_extended-number in
    let in_number : FitsSigned w64 number.result = omega (arith, ints) in
    ap Ok (c.low_bits-then-holds.ensures ∙ cut_of_bits target number.result c.cast_unsigned.result number.type_inv c.cast_unsigned.ensures)
    ∙ cut_fitting t number.result (ap (holds t.reading t.size) (sym (to_z-of_z in_number)) ∙ sym c.holds.ensures ∙ c.if-holds.true)
    ∙ ap (checked t) number.ensures
    ∙ ap (λ check. converted (conversion_by check target) c.args.a) (sym c.in-Signed.is)
    ∙ ap (λ x. converted x c.args.a) c.parts-check.ensures
