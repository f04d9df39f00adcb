use Rattle.std.proofs.Common.{◌∙◌}
use Rattle.type_model.specs.Module.{row_count}
use Rattle.type_model.specs.Rows.{type_defs}
use Rattle.type_model.specs.Part.{inside_edges}
use Rattle.type_model.proofs.FromOne.{inside_from_one}
use Rattle.type_model.proofs.Unsound.{first_among}
use Rattle.type_model.proofs.part.first_inside_itself.Goals as goal

pub first_on-requires : goal.first_on-requires
first_on-requires c = λ to. rw (c.deref.ensures.value, c.in_ok-edges.ensures) (inside_from_one c.args.types.now to)

pub returns : goal.returns
returns c =
    first_among c.first_on.result c.deref.result.now (inside_edges c.args.types.now) (row_count c.args.types.now type_defs)
    (c.deref.ensures.value ∙ c.in_ok-edges.ensures) c.requires c.first_on.ensures
