-- How the `#~` stream is laid out: its header, the row counts, and the tables one after another
-- (ECMA-335 II.24.2.6). `image` is the file up to the end of the stream, which begins at `start`.
use Rattle.std.specs.Prelude.{ℕ, zero, suc, ◌+◌, ◌*◌, ◌^◌, Bool, ◌||◌, not, ◌==◌, nat_le, List, length, slice_index, Result, Ok, Err, bit_and, if◌then◌else◌}
use Rattle.byte_view.specs.Numbers.{le}
use Rattle.byte_view.specs.Reading.{Broken, ◌>>=◌, must, field, listed, each}
use Rattle.byte_view.specs.Columns.{is_table, table_numbers, row_width}
use Rattle.byte_view.specs.Parts as parts

-- HeapSizes, the row count of each table, and the file offset at which each begins
pub record Layout : Type 0 where
  pub heap_sizes : ℕ
  pub rows : List ℕ
  pub starts : List ℕ

-- a table is there where its bit of Valid is set
abbrev pub is_present : ℕ → ℕ → Bool
is_present valid table = not (bit_and valid (2 ^ table) == 0)

-- how many of the tables below one are there
unfoldable pub present_below : ℕ → ℕ → ℕ
present_below valid zero = 0
present_below valid (suc table) =
    present_below valid table + (if is_present valid table then 1 else 0)

-- where a table's row count stands: the counts of the tables that are there, one after another
abbrev pub count_place : ℕ → ℕ → ℕ → ℕ
count_place start valid table = start + 24 + 4 * present_below valid table

-- the row count of a table, 0 where it isn't there
abbrev pub row_count : List ℕ → ℕ → ℕ → ℕ → Result ℕ Broken
row_count image start valid table =
    if is_present valid table
    then field parts.tables image (count_place start valid table) 4
    else Ok 0

-- where a table's rows begin: after the row counts and the tables before
unfoldable pub table_start : ℕ → ℕ → ℕ → List ℕ → ℕ → ℕ
table_start start valid heap_sizes rows zero = count_place start valid table_numbers
table_start start valid heap_sizes rows (suc table) =
    table_start start valid heap_sizes rows table
    + slice_index rows table * row_width heap_sizes rows table

-- where a table's rows begin, if they end in the stream; else its row count is wrong
abbrev pub start_of : List ℕ → ℕ → ℕ → ℕ → List ℕ → ℕ → Result ℕ Broken
start_of image start valid heap_sizes rows table =
    if nat_le (table_start start valid heap_sizes rows (suc table)) (length image)
    then Ok (table_start start valid heap_sizes rows table)
    else Err (parts.tables, count_place start valid table)

-- the stream's header of 24 bytes is there, and each bit of Valid that is set is a table's
abbrev pub header : List ℕ → ℕ → Result ℕ Broken
header image start = do
  _ ← must (nat_le (start + 24) (length image)) (parts.tables, start)
  let valid : ℕ = le image (start + 8) 8
  each (λ table. must (is_table table || not (is_present valid table)) (parts.tables, start + 8)) 64

unfoldable pub layout : List ℕ → ℕ → Result Layout Broken
layout image start = do
  _ ← header image start
  let heap_sizes : ℕ = le image (start + 6) 1
  let valid : ℕ = le image (start + 8) 8
  rows ← listed (row_count image start valid) table_numbers
  starts ← listed (start_of image start valid heap_sizes rows) table_numbers
  Ok (record { heap_sizes = heap_sizes; rows = rows; starts = starts })
