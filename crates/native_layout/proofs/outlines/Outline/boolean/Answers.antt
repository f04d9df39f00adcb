use Rattle.std.proofs.Common.{false, ◌∙◌, ap, sym}
use Rattle.native_layout.proofs.Summaries.{bool_outline, one_part}
use Rattle.native_layout.proofs.outlines.Outline.boolean.Goals as goal

pub returns-clause-value : goal.returns-clause-value
returns-clause-value c =
    c.outline_of_scalar.ensures ∙ (ap (λ e. one_part e false false false) c.scalar.ensures ∙ sym (bool_outline c.args.width c.requires))
