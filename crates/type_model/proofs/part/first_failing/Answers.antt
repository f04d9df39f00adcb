use Rattle.type_model.proofs.Unsound.{least_of_four}
use Rattle.type_model.proofs.part.first_failing.Goals as goal

pub returns : goal.returns
returns c =
    rw (c.min-3.ensures, c.min-2.ensures, c.min.ensures)
    (least_of_four c.args.types.now c.in_ok-extending.extending c.in_ok-nested.nested c.in_ok-inside.inside c.first_without_sigs-without.result
    c.in_ok-extending.ensures c.in_ok-nested.ensures c.in_ok-inside.ensures c.first_without_sigs-without.ensures)
