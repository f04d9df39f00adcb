use Rattle.std.proofs.Common.{◌∙◌, ap}
use Rattle.std.specs.Bool.{then_some}
use Rattle.type_model.proofs.TypeOrder.{found_nowhere, found_type}
use Rattle.type_model.proofs.by_name.type_def_named.Goals as goal

pub returns-in_err-t : goal.returns-in_err-t
returns-in_err-t c =
    c.from_residual.ensures
    ∙ found_nowhere c.args.image.now c.args.types.now c.requires c.args.name.now c.args.namespace.now _ (rw c.as_slice.ensures at c.first_not_below-first.ensures) c.in_err-t.ensures.value

pub returns : goal.returns
returns c =
    c.then_some.ensures
    ∙ ap (λ b. then_some b c.in_ok-t.field-0.now) c.is_named.ensures
    ∙ found_type c.args.image.now c.args.types.now c.requires c.args.name.now c.args.namespace.now _ (rw c.as_slice.ensures at c.first_not_below-first.ensures) c.in_ok-t.field-0.now c.in_ok-t.ensures.value
