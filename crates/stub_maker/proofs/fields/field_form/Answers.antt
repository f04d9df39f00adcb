use Rattle.std.proofs.Common.{is_some, ap, sym, ◌∙◌}
use Rattle.std.specs.Option.{option_map}
use Rattle.stub_maker.specs.declared.table.Column.TheVariants as col
use Rattle.stub_maker.specs.declared.kinds.TypeKind.{TypeKind}
use Rattle.stub_maker.specs.Shapes.{Entry, entry_by}
use Rattle.stub_maker.proofs.InField.{field_array, field_there}
use Rattle.stub_maker.proofs.fields.field_form.Goals as goal

pub returns-in-Array-clause-form : goal.returns-in-Array-clause-form
returns-in-Array-clause-form g c =
    c.array_in_field.ensures.form
    ∙ (sym (field_array (g.K.KnownTypes.known c.args.known.now) c.args.unicode c.in-Array.base c.in-Array.element c.args.descriptor)
    ∙ ap (λ (k : TypeKind). option_map (λ (e : Entry). e.shape) (entry_by (g.K.KnownTypes.known c.args.known.now) c.args.unicode col.Field k c.args.descriptor)) (sym c.in-Array.is))

pub returns-in-Array-clause-row : goal.returns-in-Array-clause-row
returns-in-Array-clause-row g c =
    c.array_in_field.ensures.row
    ∙ (sym (field_there (g.K.KnownTypes.known c.args.known.now) c.args.unicode c.in-Array.base c.in-Array.element c.args.descriptor)
    ∙ ap (λ (k : TypeKind). is_some (entry_by (g.K.KnownTypes.known c.args.known.now) c.args.unicode col.Field k c.args.descriptor)) (sym c.in-Array.is))
