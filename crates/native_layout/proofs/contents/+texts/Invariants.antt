use Rattle.std.proofs.Common.{◌≡◌, map, drop}
use Rattle.std.specs.List.{list_any}
use Rattle.native_layout.specs.Shapes.{texts_in}
use Rattle.native_layout.proofs.contents.+texts.Given as goal

abbrev pub invariant-any_has_texts-loop-shape : goal.invariant-any_has_texts-loop-shape
invariant-any_has_texts-loop-shape l =
    list_any (λ f. f) (map texts_in l.shapes)
    ≡ list_any (λ f. f) (map texts_in (drop l.shape-index l.shapes))
