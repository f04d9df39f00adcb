use Rattle.std.proofs.Common.{sym, ap, ◌∙◌}
use Rattle.std.specs.Option.{option_copied}
use Rattle.type_members.proofs.FirstPlaces.{new_place}
use Rattle.type_members.proofs.method_keys.first_place.Goals as goal

pub returns-in_ok-insert-in-None-clause-known : goal.returns-in_ok-insert-in-None-clause-known
returns-in_ok-insert-in-None-clause-known c =
    new_place c.args.mark.now c.args.place c.args.firsts.now c.insert.new.self
    (sym c.get.ensures.value ∙ ap option_copied c.in-None.is) c.in_ok-insert-in-None.ensures.updates
