use Rattle.std.proofs.Common.{◌≡◌, map, drop}
use Rattle.std.specs.List.{list_any}
use Rattle.native_layout.specs.Shapes.{pointers_in}
use Rattle.native_layout.proofs.contents.+pointers.Given as goal

abbrev pub invariant-any_has_pointer_cells-loop-shape : goal.invariant-any_has_pointer_cells-loop-shape
invariant-any_has_pointer_cells-loop-shape l =
    list_any (λ f. f) (map pointers_in l.shapes)
    ≡ list_any (λ f. f) (map pointers_in (drop l.shape-index l.shapes))
