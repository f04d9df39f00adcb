use Rattle.std.proofs.Common.{◌≡◌, ℕ, min, ◌∙◌, ap}
use Rattle.native_layout.specs.declared.shapes.StructShape.{StructShape}
use Rattle.native_layout.specs.Struct.{struct_measure}
use Rattle.native_layout.specs.Shapes.{measured}
use Rattle.native_layout.specs.Outlines.{extent_if}
use Rattle.native_layout.proofs.Summaries.{IsTold, struct_told}
use Rattle.native_layout.proofs.outlines.Outline.structure.Goals as goal

pub returns-clause-value : goal.returns-clause-value
returns-clause-value c = λ ty shapes is.
    let s : StructShape = record { ty = ty; pack = c.args.pack; least = c.args.least; explicit = c.args.explicit; fields = shapes; offsets = c.args.offsets.now } in
    let told : IsTold c.args.fields.now c.are_integral-integral.result c.any_has_pointers.result c.min.result c.sum_of_parts.result = record {
      integral_is = c.are_integral-integral.ensures;
      pointers_is = c.any_has_pointers.ensures;
      depth_is = c.min.ensures ∙ ap (λ (n : ℕ). min n 64) c.deepest.ensures;
      parts_is = c.sum_of_parts.ensures;
    } in
    let found : c.in_ok-extent.extent ≡ extent_if (struct_measure (measured s)) = c.in_ok-extent.ensures.value shapes is in
    struct_told s c.args.fields.now c.in_ok-extent.extent _ _ _ _ _ _ is told found c.unwrap_or.ensures c.is_some.ensures
