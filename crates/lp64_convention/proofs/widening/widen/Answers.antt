use Rattle.std.proofs.Common.{refl, sym, ◌∙◌}
use Rattle.lp64_convention.proofs.Widened.{widened_at, widened_unsigned_1, widened_unsigned_2, widened_signed_1, widened_signed_2, widened_4}
use Rattle.lp64_convention.proofs.widening.widen.Goals as goal

pub returns-in-1-false : goal.returns-in-1-false
returns-in-1-false c = widened_at _ _ _ _ _ _ c.in-1-false.is-0 c.in-1-false.is-1 (widened_unsigned_1 c.args.bits)

pub returns-in-1-true : goal.returns-in-1-true
returns-in-1-true c = widened_at _ _ _ _ _ _ c.in-1-true.is-0 c.in-1-true.is-1 (widened_signed_1 c.args.bits ∙ sym c.sign_extended.ensures)

pub returns-in-2-false : goal.returns-in-2-false
returns-in-2-false c = widened_at _ _ _ _ _ _ c.in-2-false.is-0 c.in-2-false.is-1 (widened_unsigned_2 c.args.bits)

pub returns-in-2-true : goal.returns-in-2-true
returns-in-2-true c = widened_at _ _ _ _ _ _ c.in-2-true.is-0 c.in-2-true.is-1 (widened_signed_2 c.args.bits ∙ sym c.sign_extended-in-2-true.ensures)

pub returns-in-4-default : goal.returns-in-4-default
returns-in-4-default c =
    widened_at _ _ _ _ _ _ c.in-4-default.is-0 refl (widened_4 c.args.bits c.args.signed ∙ sym c.sign_extended-in-4-default.ensures)
