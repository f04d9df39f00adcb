use Rattle.std.proofs.Common.{◌∙◌, ap}
use Rattle.type_model.specs.Module.{row}
use Rattle.type_model.proofs.RowsByNumber.{first_found}
use Rattle.type_model.proofs.module.Module.row_by.Goals as goal

pub returns : goal.returns
returns c =
    λ column tells.
    c.row.ensures
    ∙ ap (row c.args.self.now c.args.table) (c.from.ensures ∙ c.number_at-number.ensures)
    ∙ first_found c.args.self.now c.args.table column c.args.value c.args.firsts.now tells
