use Rattle.std.proofs.Common.{◌≡◌, None, List, slice_get, sym, ap, ◌∙◌}
use Rattle.std.specs.Option.{option_copied}
use Rattle.flat_types.specs.declared.flat.Found.{Found}
use Rattle.flat_types.proofs.Known.{none_is_unknown}
use Rattle.flat_types.proofs.flat.FlatTypes.known_of.Goals as goal

pub returns-in-None : goal.returns-in-None
returns-in-None c =
    let none : slice_get c.self.inside.known c.args.t ≡ None = sym c.get.ensures.value ∙ ap option_copied c.in-None.is in
    sym (none_is_unknown c.args.self.now c.args.t (ap (λ (known : List Found). slice_get known c.args.t) (sym c.self.view_is) ∙ none))
