use Rattle.std.proofs.Common.{false, ◌∙◌, ap, sym}
use Rattle.native_layout.specs.Placed.{cap}
use Rattle.native_layout.proofs.Summaries.{inline_text_outline, one_part}
use Rattle.native_layout.proofs.outlines.Outline.inline_text.Goals as goal

pub returns-clause-value : goal.returns-clause-value
returns-clause-value c =
    c.outline_of_scalar.ensures
    ∙ (ap (λ e. one_part e false false false) (c.counted.ensures ∙ ap cap c.inline_text.ensures) ∙ sym (inline_text_outline c.args.enc c.args.count))
