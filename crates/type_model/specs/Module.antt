-- An assembly as its types are read from it: the file, what its headers tell, its heaps and the
-- rows of its tables, and the numbers and texts in them.
use Rattle.std.specs.Prelude.{ℕ, ◌-◌, ◌==◌, Bool, List, [], ◌∷◌, length, map, find, slice_index, slice_get, Option, Some, None, unwrap_or, if◌then◌else◌}
use Rattle.byte_view.specs.Headers.{Headers}
use Rattle.std.specs.List.{range_with_len, list_any}
use Rattle.byte_view.specs.Columns.{table_numbers}
use Rattle.byte_view.specs.Metadata.{Metadata, table_of}
use Rattle.byte_view.specs.Heaps.{text_at, blob_at}

-- the model of `Types`: all calls answer by it
pub record Module : Type 0 where
  pub bytes : List ℕ
  pub headers : Headers
  pub strings : List ℕ
  pub user_strings : List ℕ
  pub blobs : List ℕ
  pub tables : List (List (List ℕ))

-- The tables that types, members and imports are read from (II.22): TypeRef, TypeDef, Field,
-- MethodDef, Param, InterfaceImpl, MemberRef, FieldMarshal, ClassLayout, FieldLayout,
-- StandAloneSig, MethodImpl, ModuleRef, TypeSpec, ImplMap, FieldRVA and NestedClass.
abbrev pub kept_tables : List ℕ
kept_tables =
    0x01 ∷ 0x02 ∷ 0x04 ∷ 0x06 ∷ 0x08 ∷ 0x09 ∷ 0x0A ∷ 0x0D ∷ 0x0F ∷ 0x10 ∷ 0x11 ∷ 0x19 ∷ 0x1A
    ∷ 0x1B ∷ 0x1C ∷ 0x1D ∷ 0x29 ∷ []

abbrev pub is_kept : ℕ → Bool
is_kept table = list_any (λ kept. kept == table) kept_tables

-- the rows of a table that is kept, none of another
abbrev pub kept_rows : Metadata → ℕ → List (List ℕ)
kept_rows metadata table = if is_kept table then table_of metadata table else []

-- the module of a file whose headers and metadata were read
abbrev pub module_of : List ℕ → Headers → Metadata → Module
module_of bytes headers metadata = record {
  bytes = bytes;
  headers = headers;
  strings = metadata.strings;
  user_strings = metadata.user_strings;
  blobs = metadata.blobs;
  tables = map (kept_rows metadata) (range_with_len 0 table_numbers);
}

-- the rows of a table, by its number
abbrev pub rows : Module → ℕ → List (List ℕ)
rows m table = unwrap_or (slice_get m.tables table) []

abbrev pub row_count : Module → ℕ → ℕ
row_count m table = length (rows m table)

-- a row by its number, from 1
abbrev pub row : Module → ℕ → ℕ → Option (List ℕ)
row m table n = if n == 0 then None else slice_get (rows m table) (n - 1)

-- the number in a column, 0 where there is no row
abbrev pub in_column : ℕ → Option (List ℕ) → ℕ
in_column column None = 0
in_column column (Some numbers) = slice_index numbers column

-- the number in a cell, by its row's number from 1; 0 where there is no such row
unfoldable pub cell : Module → ℕ → ℕ → ℕ → ℕ
cell m table n column = in_column column (row m table n)

-- the first row that has a number in a column: where several name one thing, it counts
unfoldable pub first_with : Module → ℕ → ℕ → ℕ → Option (List ℕ)
first_with m table column value =
    find (λ numbers. slice_index numbers column == value) (rows m table)

-- the text at an offset of `#Strings`, empty where no whole entry is there
unfoldable pub text : Module → ℕ → List ℕ
text m at = unwrap_or (text_at m.strings at) []

-- the bytes at an offset of `#Blob`, none where no whole entry is there
unfoldable pub blob : Module → ℕ → List ℕ
blob m at = unwrap_or (blob_at m.blobs at) []
