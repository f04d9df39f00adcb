use Rattle.std.proofs.Common.{◌≡◌, ◌∙◌, ap}
use Rattle.type_model.specs.Module.{Module, row_count}
use Rattle.type_model.specs.Rows as Rows
use Rattle.stub_maker.proofs.Findings.{right_by}
use Rattle.stub_maker.proofs.learned.Learned.new.Goals as goal

pub invariant_of-result : goal.invariant_of-result
invariant_of-result c =
    let places : c.row_count.result ≡ row_count c.args.types.now Rows.type_defs = c.row_count.ensures ∙ ap (λ (m : Module). row_count m Rows.type_defs) c.image.ensures in
    (c.in_ok-kinds_of.ensures, right_by c.args.types.now c.row_count.result _ _ places c.in_ok-no_outlines.ensures c.in_ok-no_callables.ensures)
