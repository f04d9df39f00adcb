use Rattle.std.proofs.Common.{◌≡◌, ◌∙◌, ℕ, map, length, ap}
use Rattle.std.specs.Prelude.{◌==◌}
use Rattle.type_model.specs.Module.{Module, row_count}
use Rattle.type_model.specs.Rows.{type_defs}
use Rattle.type_model.proofs.BaseTables.{all_told, list_length}
use Rattle.type_model.proofs.below.types_below.Goals as goal

pub returns : goal.returns
returns c =
    let m : Module = c.args.names.now in
    let size : length c.args.extends.now ≡ row_count m type_defs = ap length c.requires.extends ∙ list_length m in
    let ends = rw (c.deref.ensures.value, c.in_ok-table.ensures, c.requires.extends, c.deref-2.ensures.value, c.in_ok-numbers.ensures, list_length m, c.from.ensures) at c.in_ok-ends.ensures in
    all_told m c.args.last c.requires.small c.min-count.result (rw size at c.min-count.ensures) c.from_vec.result
    (c.from_vec.ensures ∙ c.in_ok-are.ensures ∙ ap (map (λ (end : ℕ). end == c.args.last)) (c.deref-3.ensures.value ∙ ends))
