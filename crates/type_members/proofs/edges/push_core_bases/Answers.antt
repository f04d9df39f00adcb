use Rattle.std.proofs.Common.{ℕ, List, ◌++◌, ap, ◌∙◌, arith}
use Rattle.std.specs.List.{flat_map}
use Rattle.managed_value.specs.declared.names.TypeId.{TypeId}
use Rattle.graph_cycles.specs.declared.graph.Edge.{Edge}
use Rattle.type_model.specs.TypeIds.{core_id}
use Rattle.type_model.proofs.Ranges.{each_more}
use Rattle.type_members.specs.Subtypes.{extends_edge}
use Rattle.type_members.proofs.CoreEdges.{all_places}
use Rattle.type_members.proofs.edges.push_core_bases.Goals as goal

pub loop-place-preserved : goal.loop-place-preserved
loop-place-preserved c =
    let edge : ℕ → List Edge = λ (place : ℕ). extends_edge c.args.types.now c.args.elements (core_id place) in
    c.in_ok-push_base.ensures
    ∙ ap (λ (i : TypeId). c.loop-place.edges.items ++ extends_edge c.args.types.now c.args.elements i) c.core_id.ensures
    ∙ each_more edge c.args.edges.now.items c.loop-place.edges.items 0 c.loop-place.place (omega arith) c.loop-place.invariant

pub returns : goal.returns
returns c =
    let edge : ℕ → List Edge = λ (place : ℕ). extends_edge c.args.types.now c.args.elements (core_id place) in
    c.loop-place.invariant
    ∙ ap (λ (places : List ℕ). c.args.edges.now.items ++ flat_map edge places) (all_places c.loop-place.place (omega arith))
