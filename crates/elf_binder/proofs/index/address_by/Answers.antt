use Rattle.std.proofs.Common.{◌∙◌, sym, ap}
use Rattle.std.specs.Bool.{then_some}
use Rattle.elf_binder.proofs.Indexing.{found_nowhere, found_nothing, found_export}
use Rattle.elf_binder.proofs.index.address_by.Goals as goal

pub returns-in_err-get : goal.returns-in_err-get
returns-in_err-get c =
    c.from_residual.ensures
    ∙ found_nowhere c.args.exports.now c.args.indexes.now c.args.name.now c.requires _ (rw c.as_slice.ensures at c.first_not_below-first.ensures) (sym c.in_err-get.ensures.value)

pub returns-in_err-export : goal.returns-in_err-export
returns-in_err-export c =
    c.from_residual-in_err-export.ensures
    ∙ found_nothing c.args.exports.now c.args.indexes.now c.args.name.now c.requires _ (rw c.as_slice.ensures at c.first_not_below-first.ensures)
    c.in_ok-get.field-0.now (sym c.in_ok-get.ensures.value) (sym c.in_err-export.ensures.value)

pub returns : goal.returns
returns c =
    c.then_some.ensures
    ∙ ap (λ b. then_some b c.in_ok-export.export.now.address) (rw c.as_slice-2.ensures at c.eq.ensures)
    ∙ found_export c.args.exports.now c.args.indexes.now c.args.name.now c.requires _ (rw c.as_slice.ensures at c.first_not_below-first.ensures)
    c.in_ok-get.field-0.now c.in_ok-export.export.now (sym c.in_ok-get.ensures.value) (sym c.in_ok-export.ensures.value)
