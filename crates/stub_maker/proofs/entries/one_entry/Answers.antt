use Rattle.std.proofs.Common.{Option, subst, sym, rules}
use Rattle.stub_maker.specs.Shapes.{Entry}
use Rattle.stub_maker.specs.Entries.{IsFound}
use Rattle.stub_maker.proofs.OneRow.{the_entry}
use Rattle.stub_maker.proofs.entries.one_entry.Goals as goal

pub returns : goal.returns
returns g c =
    let P : Option Entry → Type 0 = λ e. IsFound (g.K.KnownTypes.known c.args.known.now) c.entry_if.result e in
    subst P (sym (the_entry (g.K.KnownTypes.known c.args.known.now) c.args.unicode c.args.column c.args.kind c.args.descriptor)) (search rules)
