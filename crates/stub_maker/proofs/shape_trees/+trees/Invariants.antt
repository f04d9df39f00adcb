use Rattle.std.proofs.Common.{◌≡◌, ◌+◌, ◌*◌, ◌++◌, map, drop}
use Rattle.std.specs.Option.{option_map}
use Rattle.stub_maker.specs.Described.{known_of}
use Rattle.stub_maker.specs.Facts.{all_some, field_shape}
use Rattle.stub_maker.proofs.shape_trees.+trees.Given as goal

abbrev pub decreases-form_tree : goal.decreases-form_tree
decreases-form_tree l = 4 * l.left

abbrev pub decreases-field_tree : goal.decreases-field_tree
decreases-field_tree l = 4 * l.left + 1

abbrev pub decreases-field_trees : goal.decreases-field_trees
decreases-field_trees l = 4 * l.left + 2

abbrev pub decreases-struct_tree : goal.decreases-struct_tree
decreases-struct_tree l = 4 * l.left + 3

abbrev pub invariant-field_trees-loop-field : goal.invariant-field_trees-loop-field
invariant-field_trees-loop-field l =
    all_some (map (field_shape (known_of l.known)) l.fields)
    ≡ option_map (λ shapes. l.shapes ++ shapes) (all_some (map (field_shape (known_of l.known)) (drop l.field-index l.fields)))
