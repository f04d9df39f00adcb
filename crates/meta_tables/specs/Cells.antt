-- What a cell may hold, by the sizes of what it can name, and the checks of a row over its numbers.
use Rattle.std.specs.Prelude.{◌≡◌, ℕ, zero, suc, ◌+◌, ◌*◌, ◌/◌, ◌%◌, ◌^◌, Bool, true, false, ◌&&◌, ◌||◌, ◌==◌, nat_lt, nat_le, List, length, take, replicate, sum, slice_index, slice_get, Option, Some, None, Result}
use Rattle.byte_view.specs.Columns.{Column, Number, StringOffset, GuidNumber, BlobOffset, RowOf, RunOf, CodedRow}
use Rattle.byte_view.specs.Layout.{Layout}
use Rattle.byte_view.specs.Metadata.{Metadata, tables_in, row_at, row_numbers}
use Rattle.byte_view.specs.Reading.{Broken, must}
use Rattle.byte_view.specs.Streams.{Streams, heap_of}
use Rattle.byte_view.specs.Parts as parts
use Rattle.meta_tables.specs.declared.heaps.Heaps.{Heaps}
use Rattle.meta_tables.specs.declared.layout.Layout.{Layout as CodeLayout}
use Rattle.meta_tables.specs.Shapes.{view_layout}

-- the metadata that the code holds: its heaps, and the tables in its stream
abbrev pub metadata_of : Heaps → List ℕ → CodeLayout → Metadata
metadata_of h stream l = record {
  strings = h.strings.now;
  user_strings = h.user_strings.now;
  guids = h.guids.now;
  blobs = h.blobs.now;
  layout = view_layout l;
  tables = tables_in stream (view_layout l);
}

-- the heaps of the streams
pub record AreHeapsOf (image : List ℕ) (s : Streams) (h : Heaps) : Type 0 where
  pub strings : h.strings.now ≡ heap_of image s.strings
  pub user_strings : h.user_strings.now ≡ heap_of image s.user_strings
  pub guids : h.guids.now ≡ heap_of image s.guids
  pub blobs : h.blobs.now ≡ heap_of image s.blobs

-- how far an index may reach
pub record Sizes : Type 0 where
  pub strings : ℕ
  pub guids : ℕ
  pub blobs : ℕ
  pub rows : List ℕ

abbrev pub sizes_of : Heaps → List ℕ → Sizes
sizes_of h rows = record {
  strings = length h.strings.now;
  guids = length h.guids.now;
  blobs = length h.blobs.now;
  rows = rows;
}

-- the row of a tag's table, from 1
abbrev pub is_row_by : List ℕ → Option (Option ℕ) → ℕ → Bool
is_row_by rows None row = false
is_row_by rows (Some None) row = false
is_row_by rows (Some (Some table)) row = nat_le 1 row && nat_le row (slice_index rows table)

-- whether a cell is sound, by the sizes alone
unfoldable pub sound_by : Sizes → Column → ℕ → ℕ → Bool
sound_by s (Number n) before value = true
sound_by s StringOffset before value = value == 0 || nat_lt value s.strings
sound_by s GuidNumber before value = nat_le (16 * value) s.guids
sound_by s BlobOffset before value = value == 0 || nat_lt value s.blobs
sound_by s (RowOf table) before value = nat_le value (slice_index s.rows table)
sound_by s (RunOf table) before value =
    nat_le 1 value && nat_le value (slice_index s.rows table + 1) && nat_le before value
sound_by s (CodedRow tag_bits tables) before value =
    value == 0 || is_row_by s.rows (slice_get tables (value % 2 ^ tag_bits)) (value / 2 ^ tag_bits)

abbrev pub sound_in : Sizes → Option Column → ℕ → ℕ → Bool
sound_in s None before value = true
sound_in s (Some column) before value = sound_by s column before value

-- the test of a cell of a row, which begins at a place, by the numbers of the row before and of the
-- row
abbrev pub tests_row : Sizes → List Column → List ℕ → ℕ → List ℕ → List ℕ → ℕ → Result ℕ Broken
tests_row s columns widths start before row column =
    must
    (sound_in s (slice_get columns column) (slice_index before column) (slice_index row column))
    (parts.cell, start + sum (take column widths))

-- the numbers of the row before, zeros at the first
abbrev pub row_before : List ℕ → Layout → ℕ → ℕ → List ℕ
row_before stream l table zero = replicate row_numbers 0
row_before stream l table (suc row) = row_at stream l table row
