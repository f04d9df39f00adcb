use Rattle.std.proofs.Common.{◌∙◌, []}
use Rattle.type_model.specs.Module.{row_count}
use Rattle.type_model.specs.Rows.{type_defs}
use Rattle.type_model.specs.Part.{held_by}
use Rattle.type_model.proofs.Ranges.{each_more}
use Rattle.type_model.proofs.edges.inside_edges.Goals as goal

pub loop-t-preserved : goal.loop-t-preserved
loop-t-preserved c =
    c.in_ok-hold.ensures
    ∙ each_more (held_by c.args.types.now (row_count c.args.types.now type_defs)) [] c.loop-t.edges.items 1 c.loop-t.t c.loop-t.auto.t c.loop-t.invariant
