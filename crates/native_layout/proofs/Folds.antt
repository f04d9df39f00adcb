-- One level of what a shape is.
use Rattle.std.proofs.Common.{◌≡◌, ◌∙◌, map, rules}
use Rattle.std.specs.List.{list_all}
use Rattle.std.proofs.lemmas.List.Folds.{list_all-map}
use Rattle.native_layout.specs.declared.shapes.Shape.{Struct, the_lemmas}
use Rattle.native_layout.specs.declared.shapes.StructShape.{StructShape}
use Rattle.native_layout.specs.Struct.{struct_measure}
use Rattle.native_layout.specs.Shapes.{in_order, measure, measured}

pub measure_struct : (s : StructShape) → measure (Struct s) ≡ struct_measure (measured s)
measure_struct s = search (rules, the_lemmas)

pub in_order_struct : (s : StructShape) → in_order (Struct s) ≡ list_all in_order s.fields
in_order_struct s =
    let one : in_order (Struct s) ≡ list_all (λ f. f) (map in_order s.fields) = search (rules, the_lemmas) in
    one ∙ list_all-map (λ f. f) in_order s.fields
