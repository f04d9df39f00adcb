use Rattle.std.proofs.Common.{ap, ◌∙◌}
use Rattle.std.specs.Int.{w32, cast_signed}
use Rattle.rv_machine.specs.Words.{word32, signed32, remainder}
use Rattle.rv_machine.proofs.Narrow.{remainder32_is}
use Rattle.rv_machine.proofs.division.remainder_signed32.Goals as goal

pub returns-else-divisor-eq0 : goal.returns-else-divisor-eq0
returns-else-divisor-eq0 c =
    let x = c.cast_signed.ensures ∙ ap (cast_signed w32) c.low32-else-divisor-eq0.ensures in
    let y = c.cast_signed-divisor.ensures ∙ ap (cast_signed w32) c.low32.ensures in
    remainder32_is c.cast_signed.result c.cast_signed-divisor.result c.wrapping_rem.result c.from.result c.extended.result
    c.cast_signed.type_inv c.cast_signed-divisor.type_inv c.if-divisor-eq0.false c.wrapping_rem.ensures c.wrapping_rem.type_inv c.from.ensures c.from.type_inv c.extended.ensures
    ∙ ap (λ z. word32 (remainder z c.cast_signed-divisor.result)) x
    ∙ ap (λ z. word32 (remainder (signed32 c.args.a) z)) y
