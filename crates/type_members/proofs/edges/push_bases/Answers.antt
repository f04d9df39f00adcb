use Rattle.std.proofs.Common.{ℕ, List, ◌++◌, ap, ◌∙◌}
use Rattle.managed_value.specs.declared.names.TypeId.{TypeId}
use Rattle.graph_cycles.specs.declared.graph.Edge.{Edge}
use Rattle.type_model.specs.TypeIds.{def_id}
use Rattle.type_model.proofs.Ranges.{each_more}
use Rattle.type_members.specs.Subtypes.{extends_edge}
use Rattle.type_members.proofs.edges.push_bases.Goals as goal

pub loop-t-preserved : goal.loop-t-preserved
loop-t-preserved c =
    let edge : ℕ → List Edge = λ (t : ℕ). extends_edge c.args.types.now c.args.elements (def_id t) in
    c.in_ok-push_base.ensures
    ∙ ap (λ (i : TypeId). c.loop-t.edges.items ++ extends_edge c.args.types.now c.args.elements i) c.def_id.ensures
    ∙ each_more edge c.args.edges.now.items c.loop-t.edges.items 1 c.loop-t.t c.loop-t.auto.t c.loop-t.invariant
