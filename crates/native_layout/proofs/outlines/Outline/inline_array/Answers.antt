use Rattle.std.proofs.Common.{ℕ, ◌*◌, ◌+◌, ◌^◌, min, ◌∙◌, ap}
use Rattle.native_layout.specs.Placed.{cap}
use Rattle.native_layout.proofs.Summaries.{array_told}
use Rattle.native_layout.proofs.outlines.Outline.inline_array.Goals as goal

pub returns-clause-value : goal.returns-clause-value
returns-clause-value c = λ ty s is.
    array_told ty c.args.count s c.args.element c.counted.result c.min.result c.min-2.result is
    (c.counted.ensures ∙ ap (λ (n : ℕ). cap (record { size = n * c.args.element.extent.size; align = c.args.element.extent.align })) c.from.ensures)
    c.min.ensures
    (c.min-2.ensures ∙ ap (λ (n : ℕ). min (n * c.args.element.parts) (2 ^ 20 + 1)) c.from-2.ensures)
