-- What holds of each file that is read, in the words of the format.
use Rattle.std.specs.Prelude.{◌≡◌, ◌<◌, ◌≤◌, ◌⊎◌, ℕ, ◌+◌, ◌*◌, ◌/◌, ◌%◌, ◌^◌, true, List, length, take, drop, slice_index, slice_get, Contains, Option, Some, None, Ok, max, ◌==◌, if◌then◌else◌}
use Rattle.byte_view.specs.Numbers.{le}
use Rattle.byte_view.specs.Headers.{Headers, headers}
use Rattle.byte_view.specs.Columns.{Column, Number, StringOffset, GuidNumber, BlobOffset, RowOf, RunOf, CodedRow, columns, row_width, table_numbers}
use Rattle.byte_view.specs.TableNames.{type_def, type_def_field_list, type_def_method_list, field, method_def, module_ref, impl_map, impl_map_member_forwarded, impl_map_import_name, impl_map_import_scope}
use Rattle.byte_view.specs.Layout.{Layout, layout}
use Rattle.byte_view.specs.Metadata.{Metadata, tables_in}
use Rattle.byte_view.specs.Cells.{checked_tables, rows_in, value_in, value_before, is_sound_in}
use Rattle.byte_view.specs.Assembly.{assembly}

-- the place after the last row of a table
abbrev pub table_end : Layout → ℕ → ℕ
table_end l table =
    slice_index l.starts table + slice_index l.rows table * row_width l.heap_sizes l.rows table

-- The tables lie after the stream's header and before its end, one after another: each begins
-- where the one before ends, so that no two share a byte.
pub record LieApart (image : List ℕ) (start : ℕ) (l : Layout) : Type 0 where
  pub after_header : start + 24 ≤ slice_index l.starts 0
  pub follow : (table : ℕ) → table + 1 < table_numbers
      → slice_index l.starts (table + 1) ≡ table_end l table
  pub apart : (table later : ℕ) → table < later → later < table_numbers
      → table_end l table ≤ slice_index l.starts later
  pub within : (table : ℕ) → table < table_numbers → table_end l table ≤ length image

-- the tables of a stream that is laid out lie apart
abbrev pub TablesOfStreamLieApart : Type 0
TablesOfStreamLieApart =
    (image : List ℕ) (start : ℕ) (l : Layout)
    → layout image start ≡ Ok l → LieApart image start l

-- The tables of an accepted file: where the stream lies, inside the metadata and inside the file,
-- where the tables lie in the stream, and that the rows are what stands there.
pub record TablesOf (bytes : List ℕ) (m : Metadata) : Type 0 where
  pub headers_of : Headers
  pub read : headers bytes ≡ Ok headers_of
  pub in_file : headers_of.meta_at + headers_of.meta_size ≤ length bytes
  pub start : ℕ
  pub end : ℕ
  pub begins : headers_of.meta_at ≤ start
  pub ends : end ≤ headers_of.meta_at + headers_of.meta_size
  pub laid : layout (take end bytes) start ≡ Ok m.layout
  pub apart : LieApart (take end bytes) start m.layout
  pub rows : m.tables ≡ tables_in (take end bytes) m.layout

abbrev pub TablesLieInMetadata : Type 0
TablesLieInMetadata = (bytes : List ℕ) (m : Metadata) → assembly bytes ≡ Ok m → TablesOf bytes m

-- each cell of a checked table passes the test of its column
abbrev pub CheckedCellsAreSound : Type 0
CheckedCellsAreSound =
    (bytes : List ℕ) (m : Metadata)
    → assembly bytes ≡ Ok m
    → (table row column : ℕ)
    → Contains checked_tables table
    → row < rows_in m table
    → column < length (columns table)
    → is_sound_in m (slice_get (columns table) column)
    (value_before m table row column) (value_in m table row column) ≡ true

-- a row of the table that a tag stands for
abbrev pub NamesRow : Metadata → Option (Option ℕ) → ℕ → Type 0
NamesRow m None row = ⊥
NamesRow m (Some None) row = ⊥
NamesRow m (Some (Some table)) row = (1 ≤ row) × (row ≤ rows_in m table)

-- What a cell of a column may hold, `before` being the same cell of the row before: an offset in
-- its heap or 0, the number of a whole GUID or 0, a row or 0, a run's first row, or a row of one of
-- the tables that the column allows or 0.
abbrev pub MayHold : Metadata → Column → ℕ → ℕ → Type 0
MayHold m (Number n) before value = Unit {0}
MayHold m StringOffset before value = (value ≡ 0) ⊎ (value < length m.strings)
MayHold m GuidNumber before value = 16 * value ≤ length m.guids
MayHold m BlobOffset before value = (value ≡ 0) ⊎ (value < length m.blobs)
MayHold m (RowOf table) before value = value ≤ rows_in m table
MayHold m (RunOf table) before value =
    (1 ≤ value) × (value ≤ rows_in m table + 1) × (before ≤ value)
MayHold m (CodedRow tag_bits tables) before value =
    (value ≡ 0) ⊎ NamesRow m (slice_get tables (value % 2 ^ tag_bits)) (value / 2 ^ tag_bits)

-- each cell of a checked table holds what its column may hold
abbrev pub CheckedCellsNameWhatIsThere : Type 0
CheckedCellsNameWhatIsThere =
    (bytes : List ℕ) (m : Metadata)
    → assembly bytes ≡ Ok m
    → (table row column : ℕ) (kind : Column)
    → Contains checked_tables table
    → row < rows_in m table
    → slice_get (columns table) column ≡ Some kind
    → MayHold m kind (value_before m table row column) (value_in m table row column)

-- An import, by its row of ImplMap: its scope is a row of ModuleRef or 0, its name an offset in
-- `#Strings` or 0, and the member that it stands for 0, a row of Field (tag 0) or a row of
-- MethodDef (tag 1).
pub record IsSoundImport (m : Metadata) (row : ℕ) : Type 0 where
  pub scope : value_in m impl_map row impl_map_import_scope ≤ rows_in m module_ref
  pub name : (value_in m impl_map row impl_map_import_name ≡ 0)
      ⊎ (value_in m impl_map row impl_map_import_name < length m.strings)
  pub field : value_in m impl_map row impl_map_member_forwarded % 2 ≡ 0
      → value_in m impl_map row impl_map_member_forwarded / 2 ≤ rows_in m field
  pub method : value_in m impl_map row impl_map_member_forwarded % 2 ≡ 1
      → (1 ≤ value_in m impl_map row impl_map_member_forwarded / 2)
      × (value_in m impl_map row impl_map_member_forwarded / 2 ≤ rows_in m method_def)

abbrev pub ImportsAreSound : Type 0
ImportsAreSound =
    (bytes : List ℕ) (m : Metadata)
    → assembly bytes ≡ Ok m
    → (row : ℕ)
    → row < rows_in m impl_map
    → IsSoundImport m row

-- The fields and methods of a type, by its row of TypeDef: each run begins at a row or after the
-- last, and not before that of the type before.
pub record HasRuns (m : Metadata) (row : ℕ) : Type 0 where
  pub fields : (1 ≤ value_in m type_def row type_def_field_list)
      × (value_in m type_def row type_def_field_list ≤ rows_in m field + 1)
  pub methods : (1 ≤ value_in m type_def row type_def_method_list)
      × (value_in m type_def row type_def_method_list ≤ rows_in m method_def + 1)
  pub fields_rise : value_before m type_def row type_def_field_list
      ≤ value_in m type_def row type_def_field_list
  pub methods_rise : value_before m type_def row type_def_method_list
      ≤ value_in m type_def row type_def_method_list

abbrev pub TypesHaveRuns : Type 0
TypesHaveRuns =
    (bytes : List ℕ) (m : Metadata)
    → assembly bytes ≡ Ok m
    → (row : ℕ)
    → row < rows_in m type_def
    → HasRuns m row

-- What the headers tell of a file and the bytes of its metadata decide the answer: two files that
-- agree in both are read as the same assembly, or refused at the same place.
abbrev pub HeadersAndMetadataDecide : Type 0
HeadersAndMetadataDecide =
    (a b : List ℕ)
    → headers a ≡ headers b
    → ((h : Headers) → headers a ≡ Ok h
    → take h.meta_size (drop h.meta_at a) ≡ take h.meta_size (drop h.meta_at b))
    → assembly a ≡ assembly b

-- where the section headers end
abbrev pub sections_end : List ℕ → ℕ → ℕ
sections_end bytes p = p + 24 + le bytes (p + 20) 2 + 40 * le bytes (p + 6) 2

-- where the directory of the CLI header ends
abbrev pub directory_end : List ℕ → ℕ → ℕ
directory_end bytes p = p + 24 + (if le bytes (p + 24) 2 == 0x10B then 92 else 108) + 124

-- the bytes of a file from its start up to the end of its PE headers; the signature stands at the
-- number at 60
abbrev pub head_of : List ℕ → ℕ
head_of bytes = max (sections_end bytes (le bytes 60 4)) (directory_end bytes (le bytes 60 4))

-- Files of one length with the same bytes in the PE headers up to the last section header, in the
-- CLI header and in the metadata. Where these lie is told by the headers of the first.
pub record DifferElsewhere (a b : List ℕ) (h : Headers) : Type 0 where
  pub read : headers a ≡ Ok h
  pub size : length a ≡ length b
  pub head : take (head_of a) a ≡ take (head_of a) b
  pub cli_header : take 72 (drop h.cli_at a) ≡ take 72 (drop h.cli_at b)
  pub metadata : take h.meta_size (drop h.meta_at a) ≡ take h.meta_size (drop h.meta_at b)

-- what stands elsewhere in a file changes nothing
abbrev pub RestIsNotRead : Type 0
RestIsNotRead = (a b : List ℕ) (h : Headers) → DifferElsewhere a b h → assembly a ≡ assembly b
