use Rattle.std.proofs.Common.{Option, subst, sym, rules}
use Rattle.stub_maker.specs.declared.table.Column.TheVariants as col
use Rattle.stub_maker.specs.Table.{rows}
use Rattle.stub_maker.specs.Shapes.{Entry, first_entry, one_by}
use Rattle.stub_maker.specs.Entries.{IsFound}
use Rattle.stub_maker.proofs.OneRow.{pointed_some}
use Rattle.stub_maker.proofs.entries.pointed_entry.Goals as goal

pub returns : goal.returns
returns g c =
    let P : Option Entry → Type 0 = λ e. IsFound (g.K.KnownTypes.known c.args.known.now) c.entry_if.result e in
    subst P (sym (pointed_some (g.K.KnownTypes.known c.args.known.now) c.args.column c.in_ok-found.found
    (first_entry (λ r. one_by (g.K.KnownTypes.known c.args.known.now) c.args.unicode r c.args.element c.args.descriptor) col.Element rows)
    c.in_ok-found.ensures))
    (search rules)
