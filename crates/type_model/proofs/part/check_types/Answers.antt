use Rattle.type_model.proofs.Refused.{passes, refused}
use Rattle.type_model.proofs.part.check_types.Goals as goal

pub returns-in-None : goal.returns-in-None
returns-in-None c = passes c.args.types.now c.args.meta.now c.requires (rw c.in-None.is at c.in_ok-first_unsound.ensures.none)

pub returns-in-Some : goal.returns-in-Some
returns-in-Some c =
    refused c.unsound.result c.args.types.now c.args.meta.now c.in-Some.t c.requires
    (rw c.in-Some.is at c.in_ok-first_unsound.ensures.found) c.unsound.ensures
