use Rattle.std.proofs.Common.{true, false, ◌∙◌, ap, sym}
use Rattle.native_layout.proofs.Summaries.{int_outline, one_part}
use Rattle.native_layout.proofs.outlines.Outline.integer.Goals as goal

pub returns-clause-value : goal.returns-clause-value
returns-clause-value c = λ signed.
    c.outline_of_scalar.ensures ∙ (ap (λ e. one_part e true true false) c.scalar.ensures ∙ sym (int_outline c.args.width signed c.requires))
