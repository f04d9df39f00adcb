-- The checks of cells, rows and tables, as the code makes them.
use Rattle.std.proofs.Common.{◌≡◌, ℕ, zero, suc, ◌+◌, ◌*◌, ◌<◌, ◌≤◌, List, [], length, get_or, take, map, sum, slice_get, Option, Some, None, Ok, refl, sym, ap, ◌∙◌, inl, inr, arith}
use Rattle.std.specs.List.{range_with_len, sum_by}
use Rattle.std.proofs.lemmas.Bool.{cases_lt}
use Rattle.std.proofs.lemmas.List.{length-map, get_or_past, take-map, get_or-map, get_or-replicate}
use Rattle.std.proofs.lemmas.List.Sums.{sum-map}
use Rattle.std.proofs.lemmas.List.FromFn.{length-map-range_with_len, get_or-map-range_with_len, take-map-range_with_len}
use Rattle.std.proofs.lemmas.Option.{slice_get-get_or}
use Rattle.bound_base.specs.declared.image.BadImage.{BadImage}
use Rattle.bound_base.specs.Image.{refusal}
use Rattle.byte_view.specs.Columns as bv
use Rattle.byte_view.specs.Columns.{columns, width, row_width}
use Rattle.byte_view.specs.Metadata.{Metadata, table_of, tables_in, row_at, cell_place}
use Rattle.byte_view.specs.Cells.{rows_in, is_row_of, is_sound, is_sound_in, value_in, value_before, check_row, check_table}
use Rattle.byte_view.specs.Reading.{must, each, Refuses}
use Rattle.byte_view.proofs.Reading.{each_same}
use Rattle.meta_tables.specs.declared.columns.Column.{Column}
use Rattle.meta_tables.specs.declared.columns.Width.{Width}
use Rattle.meta_tables.specs.declared.heaps.Heaps.{Heaps}
use Rattle.meta_tables.specs.declared.layout.Layout.{Layout as CodeLayout}
use Rattle.meta_tables.specs.declared.layout.Shape.{Shape}
use Rattle.meta_tables.specs.View.{bytes_of, view_column}
use Rattle.meta_tables.specs.Shapes.{view_layout, view_shape, shape_of, width_at, cell_widths, cells_at, IsLaidOut}
use Rattle.meta_tables.specs.Cells.{Sizes, metadata_of, sizes_of, is_row_by, sound_by, sound_in, tests_row, row_before}
use Rattle.byte_view.proofs.Refusals.{each_refused}
use Rattle.meta_tables.proofs.Tables.{sum_cells, columns_few}
use Rattle.meta_tables.proofs.RowCells.{row_is}

-- the rows of a table of the metadata
pub table_of_is : (h : Heaps) (stream : List ℕ) (l : CodeLayout) (table : ℕ) → length l.rows.items ≡ 45
    → table_of (metadata_of h stream l) table ≡ map (row_at stream (view_layout l) table) (range_with_len 0 (get_or l.rows.items table 0))
unfolding table_of tables_in
table_of_is h stream l table len =
    let rows_of : ℕ → List (List ℕ) = λ t. map (row_at stream (view_layout l) t) (range_with_len 0 (get_or l.rows.items t 0)) in
    elim (cases_lt table 45) [
      | inl here ↦ get_or-map-range_with_len rows_of 0 45 table table [] here (omega arith)
      | inr past ↦ (
          let none : get_or l.rows.items table 0 ≡ 0 = get_or_past l.rows.items table 0 (omega arith) in
          let count : length (map rows_of (range_with_len 0 45)) ≡ 45 = length-map-range_with_len rows_of 0 45 in
          get_or_past (map rows_of (range_with_len 0 45)) table [] (omega (arith, count)) ∙ sym (ap (λ n. map (row_at stream (view_layout l) table) (range_with_len 0 n)) none))
    ]

pub rows_in_is : (h : Heaps) (stream : List ℕ) (l : CodeLayout) (table : ℕ) → length l.rows.items ≡ 45 → rows_in (metadata_of h stream l) table ≡ get_or l.rows.items table 0
rows_in_is h stream l table len =
    ap length (table_of_is h stream l table len) ∙ length-map-range_with_len (row_at stream (view_layout l) table) 0 (get_or l.rows.items table 0)

is_row_is : (h : Heaps) (stream : List ℕ) (l : CodeLayout) (table : Option (Option ℕ)) (row : ℕ) → length l.rows.items ≡ 45 → is_row_by l.rows.items table row ≡ is_row_of (metadata_of h stream l) table row
is_row_is h stream l None row len = refl
is_row_is h stream l (Some None) row len = refl
is_row_is h stream l (Some (Some table)) row len = rw (rows_in_is h stream l table len) refl

-- soundness by sizes is soundness in the metadata
sound_is : (h : Heaps) (stream : List ℕ) (l : CodeLayout) (column : bv.Column) (before value : ℕ) → length l.rows.items ≡ 45
    → sound_by (sizes_of h l.rows.items) column before value ≡ is_sound (metadata_of h stream l) column before value
unfolding sound_by is_sound
sound_is h stream l (bv.Number n) before value len = refl
sound_is h stream l bv.StringOffset before value len = refl
sound_is h stream l bv.GuidNumber before value len = refl
sound_is h stream l bv.BlobOffset before value len = refl
sound_is h stream l (bv.RowOf table) before value len = rw (rows_in_is h stream l table len) refl
sound_is h stream l (bv.RunOf table) before value len = rw (rows_in_is h stream l table len) refl
sound_is h stream l (bv.CodedRow tag_bits tables) before value len = rw (is_row_is h stream l _ _ len) refl

sound_in_is : (h : Heaps) (stream : List ℕ) (l : CodeLayout) (column : Option bv.Column) (before value : ℕ) → length l.rows.items ≡ 45
    → sound_in (sizes_of h l.rows.items) column before value ≡ is_sound_in (metadata_of h stream l) column before value
sound_in_is h stream l None before value len = refl
sound_in_is h stream l (Some column) before value len = sound_is h stream l column before value len

-- the numbers of a row of the metadata
value_is : (h : Heaps) (stream : List ℕ) (l : CodeLayout) (table row column : ℕ) → length l.rows.items ≡ 45 → row < get_or l.rows.items table 0
    → get_or (row_at stream (view_layout l) table row) column 0 ≡ value_in (metadata_of h stream l) table row column
value_is h stream l table row column len h0 =
    let here : get_or (table_of (metadata_of h stream l) table) row [] ≡ row_at stream (view_layout l) table row =
    ap (λ (t : List (List ℕ)). get_or t row []) (table_of_is h stream l table len)
    ∙ get_or-map-range_with_len (row_at stream (view_layout l) table) 0 (get_or l.rows.items table 0) row row [] h0 (omega arith) in
    sym (ap (λ (r : List ℕ). get_or r column 0) here)

before_is : (h : Heaps) (stream : List ℕ) (l : CodeLayout) (table row column : ℕ) → length l.rows.items ≡ 45 → row < get_or l.rows.items table 0 → column < 9
    → get_or (row_before stream (view_layout l) table row) column 0 ≡ value_before (metadata_of h stream l) table row column
before_is h stream l table zero column len h0 few = get_or-replicate 9 column 0 0 few
before_is h stream l table (suc row) column len h0 few = value_is h stream l table row column len (omega arith)

-- the checks of a row's numbers are those of the row of the metadata
pub row_check_is : (h : Heaps) (stream : List ℕ) (l : CodeLayout) (table row place : ℕ) (shape : Shape) (cols : List Column) (rows before now : List ℕ) → IsLaidOut stream l
    → rows ≡ l.rows.items → row < get_or l.rows.items table 0 → view_shape shape ≡ shape_of l.heap_sizes l.rows.items table
    → place ≡ get_or l.starts.items table 0 + row * shape.row_width → map view_column cols ≡ columns table → before ≡ row_before stream (view_layout l) table row → now ≡ row_at stream (view_layout l) table row
    → each (tests_row (sizes_of h rows) (map view_column cols) (map bytes_of shape.widths) place before now) (length cols) ≡ check_row (view_layout l) (metadata_of h stream l) table row
unfolding check_row
row_check_is h stream l table row place shape cols rows before now laid same_rows h0 shaped placed same_cols same_before same_now =
    let m : Metadata = metadata_of h stream l in
    let widths : map bytes_of shape.widths ≡ cell_widths l.heap_sizes l.rows.items table = ap (λ (p : List ℕ × ℕ). p.0) shaped in
    let row_w : shape.row_width ≡ row_width l.heap_sizes l.rows.items table = ap (λ (p : List ℕ × ℕ). p.1) shaped in
    let start : place ≡ get_or l.starts.items table 0 + row * row_width l.heap_sizes l.rows.items table = placed ∙ ap (λ n. get_or l.starts.items table 0 + row * n) row_w in
    let count : length cols ≡ length (columns table) = sym (length-map cols view_column) ∙ ap length same_cols in
    let few = columns_few table in
    let steps : each (tests_row (sizes_of h l.rows.items) (columns table) (cell_widths l.heap_sizes l.rows.items table) place (row_before stream (view_layout l) table row) (row_at stream (view_layout l) table row)) (length (columns table))
    ≡ each (λ column. must (is_sound_in m (slice_get (columns table) column) (value_before m table row column) (value_in m table row column)) (12, cell_place (view_layout l) table row column)) (length (columns table)) =
    each_same _ _ (length (columns table)) (λ column within.
    let nine : column < 9 = omega arith in
    let sound = sound_in_is h stream l (slice_get (columns table) column) (get_or (row_before stream (view_layout l) table row) column 0) (get_or (row_at stream (view_layout l) table row) column 0) laid.rows in
    let f : ℕ → ℕ = λ k. width_at l.heap_sizes l.rows.items (slice_get (columns table) k) in
    let offset : sum (take column (cell_widths l.heap_sizes l.rows.items table)) ≡ sum_by (width l.heap_sizes l.rows.items) (take column (columns table)) =
    ap sum (take-map-range_with_len f 0 9 column (omega arith)) ∙ sum_cells l.heap_sizes l.rows.items (columns table) column in
    ap (λ b. must b (12, place + sum (take column (cell_widths l.heap_sizes l.rows.items table)))) sound
    ∙ ap (λ v. must (is_sound_in m (slice_get (columns table) column) v (get_or (row_at stream (view_layout l) table row) column 0)) (12, place + sum (take column (cell_widths l.heap_sizes l.rows.items table)))) (before_is h stream l table row column laid.rows h0 nine)
    ∙ ap (λ v. must (is_sound_in m (slice_get (columns table) column) (value_before m table row column) v) (12, place + sum (take column (cell_widths l.heap_sizes l.rows.items table)))) (value_is h stream l table row column laid.rows h0)
    ∙ ap (λ n. must (is_sound_in m (slice_get (columns table) column) (value_before m table row column) (value_in m table row column)) (12, place + n)) offset
    ∙ ap (λ p. must (is_sound_in m (slice_get (columns table) column) (value_before m table row column) (value_in m table row column)) (12, p + sum_by (width l.heap_sizes l.rows.items) (take column (columns table)))) start) in
    rw (same_rows, same_before, same_now, widths, same_cols, count) steps

-- a test of the code, with its place
pub test_is : (s : Sizes) (cols : List Column) (widths : List Width) (start : ℕ) (before row : List ℕ) (k : ℕ) (d : Column) → k < length cols
    → tests_row s (map view_column cols) (map bytes_of widths) start before row k
    ≡ must (sound_by s (view_column (get_or cols k d)) (get_or before k 0) (get_or row k 0)) (12, start + sum_by bytes_of (take k widths))
test_is s cols widths start before row k d h =
    let count = length-map cols view_column in
    let within : k < length (map view_column cols) = omega (arith, count) in
    let column : slice_get (map view_column cols) k ≡ Some (view_column (get_or cols k d)) =
    slice_get-get_or (map view_column cols) k (view_column d) within ∙ ap Some (get_or-map view_column cols k d (view_column d) h) in
    let offset : sum (take k (map bytes_of widths)) ≡ sum_by bytes_of (take k widths) = ap sum (take-map bytes_of k widths) ∙ sum-map bytes_of (take k widths) in
    ap (λ (o : Option bv.Column). must (sound_in s o (get_or before k 0) (get_or row k 0)) (12, start + sum (take k (map bytes_of widths)))) column
    ∙ ap (λ n. must (sound_by s (view_column (get_or cols k d)) (get_or before k 0) (get_or row k 0)) (12, start + n)) offset

-- a table whose rows all pass
pub table_passes : (h : Heaps) (stream : List ℕ) (l : CodeLayout) (table n : ℕ) → length l.rows.items ≡ 45 → each (check_row (view_layout l) (metadata_of h stream l) table) n ≡ Ok 0
    → n ≡ get_or l.rows.items table 0 → check_table (view_layout l) (metadata_of h stream l) table ≡ Ok 0
unfolding check_table
table_passes h stream l table n len passed e =
    ap (each (check_row (view_layout l) (metadata_of h stream l) table)) (rows_in_is h stream l table len ∙ sym e) ∙ passed

-- a table with a row that doesn't pass
pub table_refused : (e : BadImage) (h : Heaps) (stream : List ℕ) (l : CodeLayout) (table row : ℕ) → length l.rows.items ≡ 45
    → each (check_row (view_layout l) (metadata_of h stream l) table) row ≡ Ok 0 → row < get_or l.rows.items table 0 → Refuses refusal e (check_row (view_layout l) (metadata_of h stream l) table row)
    → Refuses refusal e (check_table (view_layout l) (metadata_of h stream l) table)
unfolding check_table
table_refused e h stream l table row len passed h0 refused =
    let count = rows_in_is h stream l table len in
    each_refused refusal e (check_row (view_layout l) (metadata_of h stream l) table) row (rows_in (metadata_of h stream l) table) 0 passed (omega (arith, count)) refused

-- a table's columns are few
pub columns_short : (cols : List Column) (table : ℕ) → map view_column cols ≡ columns table → length cols ≤ 9
columns_short cols table e =
    let few = columns_few table in
    let count : length cols ≡ length (columns table) = sym (length-map cols view_column) ∙ ap length e in
    omega (arith, few, count)

-- the row that the code reads is the metadata's
pub now_is : (stream : List ℕ) (l : CodeLayout) (table row place : ℕ) (shape : Shape) (now : List ℕ) → view_shape shape ≡ shape_of l.heap_sizes l.rows.items table
    → place ≡ get_or l.starts.items table 0 + row * shape.row_width → now ≡ cells_at stream place (map bytes_of shape.widths) → now ≡ row_at stream (view_layout l) table row
now_is stream l table row place shape now shaped placed e =
    let widths : map bytes_of shape.widths ≡ cell_widths l.heap_sizes l.rows.items table = ap (λ (p : List ℕ × ℕ). p.0) shaped in
    let row_w : shape.row_width ≡ row_width l.heap_sizes l.rows.items table = ap (λ (p : List ℕ × ℕ). p.1) shaped in
    e ∙ row_is stream (view_layout l) table row place (map bytes_of shape.widths) widths (placed ∙ ap (λ n. get_or l.starts.items table 0 + row * n) row_w)
