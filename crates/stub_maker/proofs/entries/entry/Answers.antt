use Rattle.std.proofs.Common.{Option, subst, sym}
use Rattle.stub_maker.specs.declared.kinds.TypeKind.{TypeKind}
use Rattle.stub_maker.specs.Shapes.{Entry, entry_by}
use Rattle.stub_maker.specs.Entries.{IsFound}
use Rattle.stub_maker.proofs.OneRow.{the_array}
use Rattle.stub_maker.proofs.entries.entry.Goals as goal

pub returns-in-Array : goal.returns-in-Array
returns-in-Array g c =
    let P : TypeKind → Type 0 = λ k. IsFound (g.K.KnownTypes.known c.args.known.now) c.array_entry.result (entry_by (g.K.KnownTypes.known c.args.known.now) c.args.unicode c.args.column k c.args.descriptor) in
    let Q : Option Entry → Type 0 = λ e. IsFound (g.K.KnownTypes.known c.args.known.now) c.array_entry.result e in
    subst P (sym c.in-Array.is)
    (subst Q (sym (the_array (g.K.KnownTypes.known c.args.known.now) c.args.unicode c.args.column c.requires _ c.in-Array.element c.args.descriptor)) c.array_entry.ensures)
