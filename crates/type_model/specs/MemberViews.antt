-- Members as the code gives them, as those of the definitions.
use Rattle.std.specs.Prelude.{Some, None}
use Rattle.std.specs.Option.{option_copied}
use Rattle.type_model.specs.declared.members.Marshalled.{Marshalled as CodeMarshalled}
use Rattle.type_model.specs.declared.members.Marshalled.TheVariants.{Nothing, Unread, Is}
use Rattle.type_model.specs.declared.members.MethodRow.{MethodRow}
use Rattle.type_model.specs.declared.members.Import.{Import as CodeImport}
use Rattle.type_model.specs.declared.members.FieldRow.{FieldRow as CodeField}
use Rattle.type_model.specs.declared.members.TypeRow.{TypeRow as CodeType}
use Rattle.type_model.specs.declared.import_rows.ImportRow.{ImportRow as CodeImportRow}
use Rattle.type_model.specs.ImportRows.{ImportRow}
use Rattle.type_model.specs.Members.{Marshalled, Method, Import, FieldRow, TypeRow}

abbrev pub view_marshalled : CodeMarshalled → Marshalled
view_marshalled Nothing = None
view_marshalled Unread = Some None
view_marshalled (Is spec) = Some (Some spec)

abbrev pub view_method : MethodRow → Method
view_method row = record {
  owner = row.owner;
  flags = row.flags;
  impl_flags = row.impl_flags;
  name = row.name.now;
  sig = option_copied row.sig;
}

abbrev pub view_import : CodeImport → Import
view_import import = record {
  method = import.method;
  library = import.module.now;
  entry = import.entry.now;
  flags = import.flags;
  sig = option_copied import.sig;
}

abbrev pub view_field : CodeField → FieldRow
view_field field = record {
  row = field.row;
  owner = field.owner;
  flags = field.flags;
  sig = option_copied field.sig;
  offset = field.offset;
  spec = view_marshalled field.spec;
}

abbrev pub view_type_row : CodeType → TypeRow
view_type_row row = record {
  flags = row.flags;
  extends = row.extends;
  pack = row.pack;
  least = row.least;
  first = row.first;
  end = row.end;
}

abbrev pub view_import_row : CodeImportRow → ImportRow
view_import_row row = record {
  library = row.module.now;
  entry = row.entry.now;
  method = row.method;
}
