use Rattle.stub_maker.specs.declared.table.Column.TheVariants as col
use Rattle.stub_maker.specs.Table.{rows}
use Rattle.stub_maker.specs.Shapes.{first_entry, one_by}
use Rattle.stub_maker.proofs.InField.{found_shape, found_there}
use Rattle.stub_maker.proofs.fields.one_in_field.Goals as goal

pub returns-clause-form : goal.returns-clause-form
returns-clause-form g c =
    found_shape (g.K.KnownTypes.known c.args.known.now) c.in_ok-found.found
    (first_entry (λ r. one_by (g.K.KnownTypes.known c.args.known.now) c.args.unicode r c.args.kind c.args.descriptor) col.Field rows)
    c.in_ok-found.ensures

pub returns-clause-row : goal.returns-clause-row
returns-clause-row g c =
    found_there (g.K.KnownTypes.known c.args.known.now) c.in_ok-found.found
    (first_entry (λ r. one_by (g.K.KnownTypes.known c.args.known.now) c.args.unicode r c.args.kind c.args.descriptor) col.Field rows)
    c.in_ok-found.ensures
