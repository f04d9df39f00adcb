use Rattle.std.proofs.Common.{◌≡◌, ◌∙◌, ℕ, ◌+◌, ◌-◌, ◌<◌, List, ◌∷◌, ◌++◌, [], map, Option, sym, ap, arith}
use Rattle.std.specs.Prelude.{option_and_then}
use Rattle.std.specs.List.{range_with_len}
use Rattle.managed_value.specs.declared.names.TypeId.{TypeId}
use Rattle.type_model.specs.declared.ways.Way.{Way}
use Rattle.type_model.specs.Module.{Module, row_count}
use Rattle.type_model.specs.Rows.{type_specs}
use Rattle.type_model.specs.TypeIds.{in_brackets}
use Rattle.type_model.specs.Names.{spec_type}
use Rattle.type_model.specs.Ways.{way_from}
use Rattle.type_model.proofs.RowNames.{one_more}
use Rattle.type_model.proofs.SpecWays.{one_named, ways_few}
use Rattle.type_model.proofs.spec_names.spec_names.Goals as goal

pub ways_after-requires : goal.ways_after-requires
ways_after-requires c = ways_few c.args.image.now c.deref.result.now (c.deref.ensures.value ∙ c.in_ok-table.ensures) (omega (arith, c.row_count-count.ensures))

pub loop-before-preserved : goal.loop-before-preserved
loop-before-preserved c =
    let m : Module = c.args.image.now in
    let k : ℕ = c.loop-before.before in
    let named : ℕ → Option TypeId = spec_type (row_count m type_specs - 1) m in
    let within : k < row_count m type_specs = omega (arith, c.row_count-count.ensures) in
    let so_many : c.from-steps.result ≡ row_count m type_specs - 1 = omega (arith, c.from-steps.ensures, c.saturating_sub.ensures, c.row_count-count.ensures) in
    let way : c.way_from-way.result ≡ way_from c.in_ok-ways.ways.items (k + 1) =
    c.way_from-way.ensures ∙ ap (λ (l : List Way). way_from l (k + 1)) c.deref-in-loop-before.ensures.value in
    let id : c.type_after.result ≡ named (k + 1) =
    one_named m c.deref.result.now c.in_ok-ways.ways.items c.from-steps.result (c.deref.ensures.value ∙ c.in_ok-table.ensures) c.in_ok-ways.ensures k _
    c.type_after.result so_many within
    (c.type_after.ensures ∙ ap (λ (w : Way). option_and_then (in_brackets w.brackets) (spec_type 0 m w.to)) way) in
    c.in_ok-push.ensures.ok
    ∙ ap (λ (l : List (Option TypeId)). l ++ c.type_after.result ∷ []) c.loop-before.invariant
    ∙ ap (λ (x : Option TypeId). map named (range_with_len 1 k) ++ x ∷ []) id
    ∙ sym (one_more named k)
