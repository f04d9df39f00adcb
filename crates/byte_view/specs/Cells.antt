-- What a cell of a checked table must hold (ECMA-335 II.22).
use Rattle.std.specs.Prelude.{ℕ, zero, suc, ◌+◌, ◌*◌, ◌/◌, ◌%◌, ◌^◌, Bool, true, false, ◌&&◌, ◌||◌, ◌==◌, nat_lt, nat_le, List, [], ◌∷◌, length, slice_index, slice_index_or, slice_get, Option, Some, None, Result}
use Rattle.byte_view.specs.Reading.{Broken, must, each}
use Rattle.byte_view.specs.Columns.{Column, Number, StringOffset, GuidNumber, BlobOffset, RowOf, RunOf, CodedRow, columns}
use Rattle.byte_view.specs.Layout.{Layout}
use Rattle.byte_view.specs.Metadata.{Metadata, table_of, cell_place}
use Rattle.byte_view.specs.Parts as parts

-- Module, TypeRef, TypeDef, Field, MethodDef, Param, InterfaceImpl, MemberRef, FieldMarshal,
-- ClassLayout, FieldLayout, StandAloneSig, MethodImpl, ModuleRef, TypeSpec, ImplMap, FieldRVA,
-- AssemblyRef and NestedClass
abbrev pub checked_tables : List ℕ
checked_tables =
    0x00 ∷ 0x01 ∷ 0x02 ∷ 0x04 ∷ 0x06 ∷ 0x08 ∷ 0x09 ∷ 0x0A ∷ 0x0D ∷ 0x0F
    ∷ 0x10 ∷ 0x11 ∷ 0x19 ∷ 0x1A ∷ 0x1B ∷ 0x1C ∷ 0x1D ∷ 0x23 ∷ 0x29 ∷ []

abbrev pub rows_in : Metadata → ℕ → ℕ
rows_in m table = length (table_of m table)

-- the row of a tag's table, from 1
abbrev pub is_row_of : Metadata → Option (Option ℕ) → ℕ → Bool
is_row_of m None row = false
is_row_of m (Some None) row = false
is_row_of m (Some (Some table)) row = nat_le 1 row && nat_le row (rows_in m table)

-- A cell of a column, with the cell of the row before, or 0 at the first. A heap offset lies in its
-- heap, or is 0; an index is 0 or names a row; a run begins at a row or after the last, and not
-- before the run of the row before.
unfoldable pub is_sound : Metadata → Column → ℕ → ℕ → Bool
is_sound m (Number n) before value = true
is_sound m StringOffset before value = value == 0 || nat_lt value (length m.strings)
is_sound m GuidNumber before value = nat_le (16 * value) (length m.guids)
is_sound m BlobOffset before value = value == 0 || nat_lt value (length m.blobs)
is_sound m (RowOf table) before value = nat_le value (rows_in m table)
is_sound m (RunOf table) before value =
    nat_le 1 value && nat_le value (rows_in m table + 1) && nat_le before value
is_sound m (CodedRow tag_bits tables) before value =
    value == 0 || is_row_of m (slice_get tables (value % 2 ^ tag_bits)) (value / 2 ^ tag_bits)

-- the number in a cell; the row is counted from 0
abbrev pub value_in : Metadata → ℕ → ℕ → ℕ → ℕ
value_in m table row column = slice_index (slice_index_or (table_of m table) row []) column

-- the number in the same cell of the row before, 0 at the first row
abbrev pub value_before : Metadata → ℕ → ℕ → ℕ → ℕ
value_before m table zero column = 0
value_before m table (suc row) column = value_in m table row column

abbrev pub is_sound_in : Metadata → Option Column → ℕ → ℕ → Bool
is_sound_in m None before value = true
is_sound_in m (Some column) before value = is_sound m column before value

-- a cell of a row
abbrev pub check_cell : Layout → Metadata → ℕ → ℕ → ℕ → Result ℕ Broken
check_cell l m table row column =
    must
    (is_sound_in m (slice_get (columns table) column)
    (value_before m table row column) (value_in m table row column))
    (parts.cell, cell_place l table row column)

-- the cells of a row, column after column
unfoldable pub check_row : Layout → Metadata → ℕ → ℕ → Result ℕ Broken
check_row l m table row =
    each (check_cell l m table row) (length (columns table))

-- the rows of a table
unfoldable pub check_table : Layout → Metadata → ℕ → Result ℕ Broken
check_table l m table = each (check_row l m table) (rows_in m table)

-- the checked tables
unfoldable pub check_cells : Layout → Metadata → Result ℕ Broken
check_cells l m = each (λ k. check_table l m (slice_index checked_tables k)) (length checked_tables)
