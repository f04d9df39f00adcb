-- The rows of a written assembly's tables, as they are read.
use Rattle.std.proofs.Common.{◌≡◌, ℕ, zero, suc, ◌+◌, ◌*◌, ◌^◌, ◌<◌, ◌≤◌, true, List, ◌++◌, length, get_or, take, map, sum, refl, sym, ap, ◌∙◌, subst, arith}
use Rattle.std.specs.Prelude.{nat_lt, ◌==◌, slice_index}
use Rattle.std.specs.List.{range_with_len}
use Rattle.byteorder.specs.Endian.{little_bytes}
use Rattle.byteorder.specs.Numbers.{length-bytes_low_first}
use Rattle.std.proofs.lemmas.Bool.{ltb-true, eqb-true, and_parts}
use Rattle.std.proofs.lemmas.List.{length-append, take_all}
use Rattle.std.proofs.lemmas.List.Sums.{sum_by_more}
use Rattle.std.proofs.lemmas.List.FromFn.{fill_by_all, get_or-map-range_with_len}
use Rattle.byte_view.specs.Columns.{row_width}
use Rattle.byte_view.specs.Layout.{Layout, table_start}
use Rattle.byte_view.specs.Metadata.{row_at, tables_in}
use Rattle.meta_tables.specs.Shapes.{cell_at, cells_at}
use Rattle.meta_tables.proofs.Tables.{row_width-sum}
use Rattle.meta_tables.proofs.RowCells.{map_same, row_is}
use Rattle.image_kit.specs.declared.assembly_plan.AssemblyPlan.{AssemblyPlan}
use Rattle.image_kit.specs.AssemblyFile.{pieces, row_count, row_counts, heap_sizes, widths, written_row, row_bytes, table_bytes, valid}
use Rattle.image_kit.specs.AssemblyReads.{all_below, fits_columns, written_rows}
use Rattle.image_kit.proofs.Stands.{Stands, le_whole}
use Rattle.image_kit.proofs.PieceLists.{all_below_at, piece_stands, length-pieces}
use Rattle.image_kit.proofs.AssemblyLayout.{layout_from, all_present}

-- a row of nine numbers that fit their columns
pub record IsFit (widths row : List ℕ) : Type 0 where
  pub nine : length row ≡ 9
  pub small : (column : ℕ) → column < 9 → slice_index row column < 256 ^ slice_index widths column

-- the bytes of the first cells of a row
cells_size : (widths row : List ℕ) (n : ℕ) → n ≤ length widths → length (pieces (λ column. little_bytes (slice_index widths column) (slice_index row column)) n) ≡ sum (take n widths)
unfolding pieces
cells_size widths row zero h = refl
cells_size widths row (suc n) h =
    let f : ℕ → List ℕ = λ column. little_bytes (slice_index widths column) (slice_index row column) in
    let before : length (pieces f n) ≡ sum (take n widths) = cells_size widths row n (omega arith) in
    let here : length (f n) ≡ slice_index widths n = length-bytes_low_first 0 (slice_index widths n) (slice_index row n) in
    let both : length (pieces f n ++ f n) ≡ length (pieces f n) + length (f n) = length-append (pieces f n) (f n) in
    let more : sum (take (n + 1) widths) ≡ sum (take n widths) + slice_index widths n = sum_by_more (λ x. x) widths n 0 (omega arith) in
    let step : n + 1 ≡ suc n = omega arith in
    let whole : length (pieces f n ++ f n) ≡ sum (take (n + 1) widths) = omega arith in
    subst (λ m. length (pieces f n ++ f n) ≡ sum (take m widths)) step whole

-- the numbers of a row are read back
cells_read : (stream : List ℕ) (start : ℕ) (widths row : List ℕ) → Stands stream start (row_bytes widths row) → length widths ≡ 9 → IsFit widths row → cells_at stream start widths ≡ row
unfolding row_bytes
cells_read stream start widths row s count fit =
    sym (fill_by_all (cell_at stream start widths) row 9 0 fit.nine (λ column h.
    let f : ℕ → List ℕ = λ column. little_bytes (slice_index widths column) (slice_index row column) in
    let there : Stands stream (start + length (pieces f column)) (f column) = piece_stands stream start f 9 column s h in
    let place : start + length (pieces f column) ≡ start + sum (take column widths) = ap (λ n. start + n) (cells_size widths row column (omega arith)) in
    let here : Stands stream (start + sum (take column widths)) (f column) = subst (λ (n : ℕ). Stands stream n (f column)) place there in
    sym (le_whole stream (start + sum (take column widths)) (slice_index widths column) (slice_index row column) here (fit.small column h))))

pub fit_by_test : (widths row : List ℕ) → fits_columns widths row ≡ true → IsFit widths row
fit_by_test widths row e =
    let both = and_parts (length row == 9) (all_below (λ column. nat_lt (slice_index row column) (256 ^ slice_index widths column)) 9) e in
    record {
      nine = eqb-true (length row) 9 both.0;
      small = λ column h. ltb-true (slice_index row column) (256 ^ slice_index widths column) (all_below_at (λ column. nat_lt (slice_index row column) (256 ^ slice_index widths column)) 9 column both.1 h);
    }

pub length-widths : (plan : AssemblyPlan) (table : ℕ) → length (widths plan table) ≡ 9
length-widths plan table = refl

pub length-row : (plan : AssemblyPlan) (table : ℕ) (row : List ℕ) → length (row_bytes (widths plan table) row) ≡ row_width (heap_sizes plan) (row_counts plan) table
unfolding row_bytes
length-row plan table row =
    let all : take 9 (widths plan table) ≡ widths plan table = take_all 9 (widths plan table) (omega (arith, length-widths plan table)) in
    cells_size (widths plan table) row 9 (omega (arith, length-widths plan table)) ∙ ap sum all ∙ sym (row_width-sum (heap_sizes plan) (row_counts plan) table)

pub length-table : (plan : AssemblyPlan) (table : ℕ) → length (table_bytes plan table) ≡ row_count plan table * row_width (heap_sizes plan) (row_counts plan) table
unfolding table_bytes
length-table plan table =
    length-pieces (λ row. row_bytes (widths plan table) (written_row plan table row)) (row_count plan table) (row_width (heap_sizes plan) (row_counts plan) table) (λ row h. length-row plan table (written_row plan table row))

pub count_at : (plan : AssemblyPlan) (table : ℕ) → table < 45 → slice_index (row_counts plan) table ≡ row_count plan table
count_at plan table h = get_or-map-range_with_len (row_count plan) 0 45 table table 0 h (omega arith)

-- the tables before one end where it begins
pub tables_before : (plan : AssemblyPlan) (start table : ℕ) → table ≤ 45 → start + 176 + length (pieces (table_bytes plan) table) ≡ table_start start valid (heap_sizes plan) (row_counts plan) table
unfolding pieces table_start
tables_before plan start zero h = (let marks = all_present in omega arith)
tables_before plan start (suc table) h =
    let before = tables_before plan start table (omega arith) in
    let here = length-table plan table in
    let both = length-append (pieces (table_bytes plan) table) (table_bytes plan table) in
    let count = count_at plan table (omega arith) in
    rw count (omega (arith, before, here, both))

-- each row as it is written fits
abbrev pub RowsFit : AssemblyPlan → Type 0
RowsFit plan = (table row : ℕ) → table < 45 → row < row_count plan table → IsFit (widths plan table) (written_row plan table row)

row_reads : (plan : AssemblyPlan) (stream : List ℕ) (start table row : ℕ) → Stands stream (start + 176) (pieces (table_bytes plan) 45) → table < 45 → row < row_count plan table → IsFit (widths plan table) (written_row plan table row)
    → row_at stream (layout_from start (heap_sizes plan) (row_counts plan)) table row ≡ written_row plan table row
unfolding table_bytes
row_reads plan stream start table row s h within fit =
    let l : Layout = layout_from start (heap_sizes plan) (row_counts plan) in
    let begins : ℕ = table_start start valid (heap_sizes plan) (row_counts plan) table in
    let place : start + 176 + length (pieces (table_bytes plan) table) ≡ begins = tables_before plan start table (omega arith) in
    let here : Stands stream begins (table_bytes plan table) = subst (λ (n : ℕ). Stands stream n (table_bytes plan table)) place (piece_stands stream (start + 176) (table_bytes plan) 45 table s h) in
    let f : ℕ → List ℕ = λ row. row_bytes (widths plan table) (written_row plan table row) in
    let size : length (pieces f row) ≡ row * row_width (heap_sizes plan) (row_counts plan) table = length-pieces f row (row_width (heap_sizes plan) (row_counts plan) table) (λ k _. length-row plan table (written_row plan table k)) in
    let at : ℕ = begins + row * row_width (heap_sizes plan) (row_counts plan) table in
    let there : Stands stream at (f row) = subst (λ (n : ℕ). Stands stream n (f row)) (ap (λ n. begins + n) size) (piece_stands stream begins f (row_count plan table) row here within) in
    let first : get_or l.starts table 0 ≡ begins = get_or-map-range_with_len (table_start start valid (heap_sizes plan) (row_counts plan)) 0 45 table table 0 h (omega arith) in
    sym (row_is stream l table row at (widths plan table) refl (ap (λ n. n + row * row_width (heap_sizes plan) (row_counts plan) table) (sym first)))
    ∙ cells_read stream at (widths plan table) (written_row plan table row) there (length-widths plan table) fit

-- the tables are read back
pub tables_read : (plan : AssemblyPlan) (stream : List ℕ) (start : ℕ) → Stands stream (start + 176) (pieces (table_bytes plan) 45) → RowsFit plan → tables_in stream (layout_from start (heap_sizes plan) (row_counts plan)) ≡ map (written_rows plan) (range_with_len 0 45)
unfolding tables_in
tables_read plan stream start s fit =
    let l : Layout = layout_from start (heap_sizes plan) (row_counts plan) in
    map_same (λ table. map (row_at stream l table) (range_with_len 0 (slice_index (row_counts plan) table))) (written_rows plan) 45 (λ table h.
    ap (λ n. map (row_at stream l table) (range_with_len 0 n)) (count_at plan table h)
    ∙ map_same (row_at stream l table) (written_row plan table) (row_count plan table) (λ row within. row_reads plan stream start table row s h within (fit table row h within)))
