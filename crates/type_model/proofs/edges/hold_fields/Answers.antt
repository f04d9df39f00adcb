use Rattle.std.proofs.Common.{◌≡◌, ◌∙◌, ◌++◌, ◌-◌, ℕ, List, Option, ap, arith}
use Rattle.graph_cycles.specs.declared.graph.Edge.{Edge}
use Rattle.std.specs.List.{range_with_len, flat_map}
use Rattle.type_model.specs.Module.{Module}
use Rattle.type_model.specs.Rows.{first_field, end_of_fields}
use Rattle.type_model.specs.Types.{declared_fields}
use Rattle.type_model.specs.Part.{edge}
use Rattle.type_model.specs.Sound.{held_if_own}
use Rattle.type_model.proofs.Ranges.{each_more}
use Rattle.type_model.proofs.Held.{own_held}
use Rattle.type_model.proofs.edges.hold_fields.Goals as goal

pub loop-f-preserved : goal.loop-f-preserved
loop-f-preserved c = record {
  items =
      c.in_ok-push_edge.ensures
      ∙ ap (λ (x : Option ℕ). c.loop-f.edges.items ++ edge c.args.from x) c.held_in.ensures
      ∙ each_more (λ (f : ℕ). edge c.args.from (held_if_own c.args.types.now f)) c.args.edges.now.items c.loop-f.edges.items _ c.loop-f.f c.loop-f.auto.f c.loop-f.invariant.items;
  within = omega arith;
}

pub returns : goal.returns
returns c =
    let m : Module = c.args.types.now in
    let first : c.from-first.result ≡ first_field m c.args.t =
    c.from-first.ensures ∙ (rw (c.image.ensures, c.from.ensures) at c.cell.ensures) in
    let end : c.run_end-end.result ≡ end_of_fields m c.args.t = rw c.image-2.ensures at c.run_end-end.ensures.end in
    let steps : c.loop-f.f - c.from-first.result ≡ c.run_end-end.result - c.from-first.result = omega (arith, c.loop-f.invariant.within) in
    c.loop-f.invariant.items
    ∙ ap (λ (l : List Edge). c.args.edges.now.items ++ l)
    (ap (λ (n : ℕ). flat_map (λ (f : ℕ). edge c.args.from (held_if_own m f)) (range_with_len c.from-first.result n)) steps
    ∙ ap (λ (n : ℕ). flat_map (λ (f : ℕ). edge c.args.from (held_if_own m f)) (range_with_len n (c.run_end-end.result - n))) first
    ∙ ap (λ (n : ℕ). flat_map (λ (f : ℕ). edge c.args.from (held_if_own m f)) (range_with_len (first_field m c.args.t) (n - first_field m c.args.t))) end
    ∙ own_held m c.args.from (declared_fields m c.args.t))
