use Rattle.std.proofs.Common.{sym, ap, ◌∙◌}
use Rattle.std.specs.Prelude.{option_and_then}
use Rattle.type_members.specs.Chosen.{bodied, answering, chosen}
use Rattle.type_members.proofs.members.Members.virtual_slot.Goals as goal

pub returns-in-Some : goal.returns-in-Some
unfolding chosen
returns-in-Some c =
    c.bodied.ensures
    ∙ ap (option_and_then (bodied c.args.self.now)) (sym c.in-Some.is ∙ c.in_ok-x.ensures
    ∙ ap (answering c.args.self.now c.args.receiver) c.called.ensures)

pub returns-in-None : goal.returns-in-None
unfolding chosen
returns-in-None c =
    ap (option_and_then (bodied c.args.self.now)) (sym c.in-None.is ∙ c.in_ok-x.ensures
    ∙ ap (answering c.args.self.now c.args.receiver) c.called.ensures)
