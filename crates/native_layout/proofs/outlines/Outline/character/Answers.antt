use Rattle.std.proofs.Common.{false, ◌==◌, ◌∙◌, ap, sym}
use Rattle.native_layout.specs.declared.outlines.Outline.{Outline}
use Rattle.native_layout.proofs.Summaries.{char_outline, one_part}
use Rattle.native_layout.proofs.outlines.Outline.character.Goals as goal

pub returns-clause-value : goal.returns-clause-value
returns-clause-value c =
    ap (λ (o : Outline). record o { flat = c.args.width == 2 }) c.outline_of_scalar.ensures
    ∙ (ap (λ e. one_part e false (c.args.width == 2) false) c.scalar.ensures ∙ sym (char_outline c.args.width c.requires))
