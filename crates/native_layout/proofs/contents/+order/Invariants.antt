use Rattle.std.proofs.Common.{◌≡◌, map, drop}
use Rattle.std.specs.List.{list_all}
use Rattle.native_layout.specs.Shapes.{in_order}
use Rattle.native_layout.proofs.contents.+order.Given as goal

abbrev pub invariant-are_in_order-loop-shape : goal.invariant-are_in_order-loop-shape
invariant-are_in_order-loop-shape l =
    list_all (λ f. f) (map in_order l.shapes) ≡ list_all (λ f. f) (map in_order (drop l.shape-index l.shapes))
