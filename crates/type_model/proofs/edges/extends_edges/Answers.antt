use Rattle.std.proofs.Common.{◌∙◌, ◌++◌, ℕ, [], Option, ap}
use Rattle.type_model.specs.Part.{edge, base_def}
use Rattle.type_model.proofs.Ranges.{each_more}
use Rattle.type_model.proofs.edges.extends_edges.Goals as goal

pub loop-t-preserved : goal.loop-t-preserved
loop-t-preserved c =
    c.in_ok-push_edge.ensures
    ∙ ap (λ (x : Option ℕ). c.loop-t.edges.items ++ edge c.loop-t.t x) c.base_of.ensures.base
    ∙ each_more (λ (t : ℕ). edge t (base_def c.args.types.now t)) [] c.loop-t.edges.items 1 c.loop-t.t c.loop-t.auto.t c.loop-t.invariant
