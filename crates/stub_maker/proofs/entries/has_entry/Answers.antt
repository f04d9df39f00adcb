use Rattle.std.proofs.Common.{◌∙◌}
use Rattle.stub_maker.specs.Shapes.{entry_by}
use Rattle.stub_maker.proofs.OneRow.{found_is_some}
use Rattle.stub_maker.proofs.entries.has_entry.Goals as goal

pub returns : goal.returns
returns g c =
    c.is_some.ensures ∙ found_is_some (g.K.KnownTypes.known c.args.known.now) c.entry.result
    (entry_by (g.K.KnownTypes.known c.args.known.now) c.args.unicode c.args.column c.args.kind c.args.descriptor) c.entry.ensures
