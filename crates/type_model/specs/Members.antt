-- Methods, fields and imports, by their rows: what a call on `Types` gives of each (ECMA-335 II.15,
-- II.16, II.22.22).
use Rattle.std.specs.Prelude.{ℕ, ◌+◌, ◌-◌, ◌*◌, ◌==◌, ◌&&◌, nat_le, List, [], find, slice_index, Option, Some, None, option_map, option_and_then, unwrap_or, if◌then◌else◌}
use Rattle.managed_value.specs.declared.names.TypeId.{TypeId}
use Rattle.sig_reader.specs.declared.signature.TypeSig as TypeSig
use Rattle.sig_reader.specs.declared.signature.Sig.{Sig}
use Rattle.marshal_spec.specs.declared.spec.Spec.{Spec}
use Rattle.byte_view.specs.Headers.{bytes_at, bytes_from}
use Rattle.byte_view.specs.Heaps.{user_string_at}
use Rattle.sig_reader.specs.Reading.{method_sig, locals_sig}
use Rattle.marshal_spec.specs.Reading.{spec_of}
use Rattle.type_model.specs.Module.{Module, row, row_count, cell, text, blob, first_with, in_column}
use Rattle.type_model.specs.Rows
use Rattle.type_model.specs.Core as core
use Rattle.type_model.specs.TypeIds.{row_limit, is_row, is_core, token_table, token_row}
use Rattle.type_model.specs.Types.{run, field_sig_of, extends_of, handle_field}

-- A descriptor, by the row of FieldMarshal of a field or a parameter (II.22.17): None where there is
-- no row, Some None where its blob is no descriptor.
abbrev pub Marshalled : Type 0
Marshalled = Option (Option Spec)

abbrev pub marshalled_by : Module → ℕ → Marshalled
marshalled_by m parent =
    option_map (λ numbers. spec_of (blob m (slice_index numbers 1)))
    (first_with m Rows.field_marshals 0 parent)

-- the coded index HasFieldMarshal of a row of Field or of Param (II.24.2.6)
abbrev pub marshalled_field : Module → ℕ → Marshalled
marshalled_field m f = marshalled_by m (2 * f)

abbrev pub marshalled_param : Module → ℕ → Marshalled
marshalled_param m p = marshalled_by m (2 * p + 1)

-- the first row of Param in a method's run with a sequence
unfoldable pub param_in_run : Module → ℕ → ℕ → Option ℕ
param_in_run m n place =
    find (λ p. cell m Rows.params p 1 == place) (run (Rows.first_param m n) (Rows.end_of_params m n))

-- the row of Param of a place in a method's signature: 0 is the result, the parameters count from 1;
-- the first with that sequence (II.22.33). A method that is no row of MethodDef has none: a run that
-- is read off a row that isn't there would be made of other methods' rows.
unfoldable pub param_of : Module → ℕ → ℕ → Option ℕ
param_of m n place =
    if nat_le 1 n && nat_le n (row_count m Rows.method_defs) then param_in_run m n place else None

-- the marks of a place, its ParamAttributes (II.23.1.13); none without a row
unfoldable pub mark_of : Module → ℕ → ℕ → ℕ
mark_of m n place = unwrap_or (option_map (λ p. cell m Rows.params p 0) (param_of m n place)) 0

-- the descriptor of a place
unfoldable pub marshalled : Module → ℕ → ℕ → Marshalled
marshalled m n place = option_and_then (marshalled_param m) (param_of m n place)

-- a method's signature, None outside the grammar (II.23.2.1)
abbrev pub sig_in : Module → List ℕ → Option Sig
sig_in m numbers = method_sig (blob m (slice_index numbers 4))

unfoldable pub sig_of : Module → ℕ → Option Sig
sig_of m n = option_and_then (sig_in m) (row m Rows.method_defs n)

pub record Method : Type 0 where
  pub owner : ℕ
  pub flags : ℕ
  pub impl_flags : ℕ
  pub name : List ℕ
  pub sig : Option Sig

-- a method, by its row of MethodDef
unfoldable pub method : Module → ℕ → Option Method
method m n =
    if nat_le 1 n && nat_le n (row_count m Rows.method_defs)
    then Some (record {
      owner = Rows.owner_of_method m n;
      flags = Rows.method_flags m n;
      impl_flags = Rows.method_impl_flags m n;
      name = Rows.method_name m n;
      sig = sig_of m n;
    })
    else None

pub record Import : Type 0 where
  pub method : ℕ
  pub library : List ℕ
  pub entry : List ℕ
  pub flags : ℕ
  pub sig : Option Sig

-- the name of a library, by its row of ModuleRef; empty for row 0
abbrev pub library_name : Module → ℕ → List ℕ
library_name m scope =
    unwrap_or (option_map (λ numbers. text m (slice_index numbers 0)) (row m Rows.module_refs scope)) []

-- the import that a row of ImplMap makes of a method
abbrev pub import_by : Module → ℕ → List ℕ → Import
import_by m n numbers = record {
  method = n;
  library = library_name m (slice_index numbers 3);
  entry = text m (slice_index numbers 2);
  flags = slice_index numbers 0;
  sig = sig_of m n;
}

-- a method is an import by the first row of ImplMap that forwards it: the coded index
-- MemberForwarded, whose tag for methods is 1 (II.22.22)
unfoldable pub import_of : Module → ℕ → Option Import
import_of m n = option_map (import_by m n) (first_with m Rows.impl_maps 1 (2 * n + 1))

pub record FieldRow : Type 0 where
  pub row : ℕ
  pub owner : ℕ
  pub flags : ℕ
  pub sig : Option TypeSig.TypeSig
  pub offset : Option ℕ
  pub spec : Marshalled

-- where a field is said to stand, by the first row of FieldLayout that names it (II.22.16)
abbrev pub offset_of : Module → ℕ → Option ℕ
offset_of m f = option_map (λ numbers. slice_index numbers 0) (first_with m Rows.field_layouts 1 f)

-- A field, by its row of Field. The signature of one that a type has is there in an accepted file.
unfoldable pub field : Module → ℕ → Option FieldRow
field m f =
    if nat_le 1 f && nat_le f (row_count m Rows.fields)
    then Some (record {
      row = f;
      owner = Rows.owner_of_field m f;
      flags = Rows.field_flags m f;
      sig = field_sig_of m f;
      offset = offset_of m f;
      spec = marshalled_field m f;
    })
    else None

-- SafeHandle's own field: a protected native int
abbrev pub handle_row : FieldRow
handle_row = record {
  row = handle_field;
  owner = row_limit + core.safe_handle_place;
  flags = 0x4;
  sig = Some (TypeSig.Prim 0x18);
  offset = None;
  spec = None;
}

pub record TypeRow : Type 0 where
  pub flags : ℕ
  pub extends : Option TypeId
  pub pack : ℕ
  pub least : ℕ
  pub first : ℕ
  pub end : ℕ

-- what is said of a type by its row of TypeDef, and by the first row of ClassLayout that names it:
-- its packing and its least size, 0 without one (II.22.8); its methods are the rows from `first` up
-- to `end`
abbrev pub type_row_of : Module → ℕ → TypeRow
type_row_of m t = record {
  flags = Rows.type_flags m t;
  extends = extends_of m (record { base = t; arrays = 0 });
  pack = in_column 0 (first_with m Rows.class_layouts 2 t);
  least = in_column 1 (first_with m Rows.class_layouts 2 t);
  first = Rows.first_method m t;
  end = Rows.end_of_methods m t;
}

-- of a core type: it has no rows
abbrev pub core_row : Module → ℕ → ℕ → TypeRow
core_row m base flags = record {
  flags = flags;
  extends = extends_of m (record { base = base; arrays = 0 });
  pack = 0;
  least = 0;
  first = 0;
  end = 0;
}

unfoldable pub type_row : Module → ℕ → Option TypeRow
type_row m base =
    if is_core base then option_map (λ known. core_row m base known.flags) (core.core_at (base - row_limit))
    else if is_row m Rows.type_defs base then Some (type_row_of m base)
    else None

-- the bytes from a method's address to the end of its section's data; None for address 0
unfoldable pub code_at : Module → ℕ → Option (List ℕ)
code_at m n =
    if Rows.method_rva m n == 0 then None
    else bytes_from m.bytes m.headers.sections (Rows.method_rva m n)

-- so many bytes from a field's address on, by the first row of FieldRVA that names it (II.22.18)
unfoldable pub field_bytes : Module → ℕ → ℕ → Option (List ℕ)
field_bytes m f len =
    option_and_then (λ numbers. bytes_at m.bytes m.headers.sections (slice_index numbers 0) len)
    (first_with m Rows.field_rvas 1 f)

-- the text that a token of `ldstr` names, as UTF-16 units
abbrev pub user_string : Module → ℕ → Option (List ℕ)
user_string m token = user_string_at m.user_strings (token_row token)

-- the locals of a method, by the token in its body's header: none for 0, else those of a row of
-- StandAloneSig (II.25.4.3)
unfoldable pub locals : Module → ℕ → Option (List TypeSig.TypeSig)
locals m token =
    if token == 0 then Some []
    else if token_table token == Rows.stand_alone_sigs && is_row m Rows.stand_alone_sigs (token_row token)
    then locals_sig (blob m (cell m Rows.stand_alone_sigs (token_row token) 0))
    else None
