use Rattle.std.proofs.Common.{◌≡◌, map, drop}
use Rattle.std.specs.List.{list_all, list_any}
use Rattle.native_layout.specs.Shapes.{measure, pointers_in}
use Rattle.native_layout.proofs.contents.+integral.Given as goal

abbrev pub invariant-are_integral-loop-shape : goal.invariant-are_integral-loop-shape
invariant-are_integral-loop-shape l = record {
  value : list_all (λ m. m.integral) (map measure l.shapes)
      ≡ list_all (λ m. m.integral) (map measure (drop l.shape-index l.shapes));
  pointers : list_any (λ f. f) (map pointers_in l.shapes)
      ≡ list_any (λ f. f) (map pointers_in (drop l.shape-index l.shapes));
}
