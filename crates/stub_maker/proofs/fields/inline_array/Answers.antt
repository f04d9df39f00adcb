use Rattle.std.proofs.Common.{Some, ap, subst, sym, ◌∙◌}
use Rattle.std.specs.Option.{option_map}
use Rattle.native_layout.specs.declared.shapes.Shape as shape
use Rattle.stub_maker.specs.declared.kinds.Descriptor.{Descriptor}
use Rattle.stub_maker.specs.declared.table.Column.TheVariants as col
use Rattle.stub_maker.specs.Table.{rows}
use Rattle.stub_maker.specs.Entries.{IsFound}
use Rattle.stub_maker.specs.Shapes.{Entry, described, first_entry, one_by}
use Rattle.stub_maker.proofs.InField.{found_shape, found_there, mapped_there}
use Rattle.stub_maker.proofs.fields.inline_array.Goals as goal

pub returns-clause-form : goal.returns-clause-form
returns-clause-form g c =
    let P : Descriptor → Type 0 = λ d. IsFound (g.K.KnownTypes.known c.args.known.now) (Some c.in_ok-found.found)
    (first_entry (λ r. one_by (g.K.KnownTypes.known c.args.known.now) c.args.unicode r c.args.element d) col.InlineElement rows) in
    ap (option_map (λ s. shape.InlineArray c.args.base s c.args.count))
    (found_shape (g.K.KnownTypes.known c.args.known.now) c.in_ok-found.found
    (first_entry (λ r. one_by (g.K.KnownTypes.known c.args.known.now) c.args.unicode r c.args.element (described c.args.code)) col.InlineElement rows)
    (subst P c.described.ensures c.in_ok-found.ensures))

pub returns-clause-row : goal.returns-clause-row
returns-clause-row g c =
    let P : Descriptor → Type 0 = λ d. IsFound (g.K.KnownTypes.known c.args.known.now) (Some c.in_ok-found.found)
    (first_entry (λ r. one_by (g.K.KnownTypes.known c.args.known.now) c.args.unicode r c.args.element d) col.InlineElement rows) in
    found_there (g.K.KnownTypes.known c.args.known.now) c.in_ok-found.found
    (first_entry (λ r. one_by (g.K.KnownTypes.known c.args.known.now) c.args.unicode r c.args.element (described c.args.code)) col.InlineElement rows)
    (subst P c.described.ensures c.in_ok-found.ensures)
    ∙ sym (mapped_there (λ (e : Entry). e.shape) (first_entry (λ r. one_by (g.K.KnownTypes.known c.args.known.now) c.args.unicode r c.args.element (described c.args.code)) col.InlineElement rows))
