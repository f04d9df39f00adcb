use Rattle.std.proofs.Common.{true, false, ◌∙◌, ap, sym}
use Rattle.native_layout.specs.declared.outlines.Outline.{Outline}
use Rattle.native_layout.proofs.Summaries.{one_part, text_outline, thunk_outline}
use Rattle.native_layout.proofs.outlines.Outline.pointer.Goals as goal

pub returns-clause-text : goal.returns-clause-text
returns-clause-text c = λ encoding.
    ap (λ (o : Outline). record o { pointers = true }) c.outline_of_scalar.ensures
    ∙ (ap (λ e. one_part e false false true) c.scalar.ensures ∙ sym (text_outline encoding))

pub returns-clause-thunk : goal.returns-clause-thunk
returns-clause-thunk c = λ ty.
    ap (λ (o : Outline). record o { pointers = true }) c.outline_of_scalar.ensures
    ∙ (ap (λ e. one_part e false false true) c.scalar.ensures ∙ sym (thunk_outline ty))
