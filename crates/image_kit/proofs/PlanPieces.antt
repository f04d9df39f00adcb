-- Parts of a written assembly, one element longer.
use Rattle.std.proofs.Common.{◌≡◌, ℕ, zero, suc, ◌+◌, ◌-◌, ◌*◌, ◌^◌, ◌<◌, ◌≤◌, ◌≢◌, Bool, true, false, List, [], ◌∷◌, ◌++◌, length, get_or, take, drop, map, Some, refl, sym, ap, ◌∙◌, add-one, arith}
use Rattle.std.specs.Prelude.{nat_lt, IsTrue, ◌↔◌, slice_index, slice_get}
use Rattle.std.specs.List.{flat_map, list_all}
use Rattle.std.proofs.lemmas.List.{append-nil, take_more, get_or-map, length-map}
use Rattle.std.proofs.lemmas.List.Sums.{sum_by_more, sum_by-drop_more}
use Rattle.std.proofs.lemmas.Grind.{flat_map-append, replicate_next}
use Rattle.byteorder.specs.Endian.{little_bytes}
use Rattle.byte_view.specs.Columns.{row_width}
use Rattle.byte_view.specs.Columns as bv
use Rattle.byte_view.specs.Layout.{table_start, present_below}
use Rattle.std.proofs.lemmas.Bool.{leb-true, false≢true}
use Rattle.std.proofs.lemmas.Option.{slice_get-get_or}
use Rattle.meta_tables.specs.declared.columns.Width.{Width}
use Rattle.meta_tables.specs.declared.columns.Column.{Column}
use Rattle.meta_tables.specs.declared.layout.Shape.{Shape}
use Rattle.meta_tables.specs.View.{bytes_of, view_column}
use Rattle.meta_tables.specs.Cells.{Sizes, sound_by, sound_in}
use Rattle.meta_tables.specs.Shapes.{view_shape, shape_of}
use Rattle.image_kit.specs.declared.assembly_plan.TablePlan.{TablePlan}
use Rattle.image_kit.specs.declared.assembly_plan.MethodBody.{MethodBody}
use Rattle.image_kit.specs.declared.assembly_plan.AssemblyPlan.{AssemblyPlan}
use Rattle.image_kit.specs.AssemblyFile.{pieces, rows_among, zeros, padded, padded_size, bodies_bytes, bodies_size, row_bytes, written_row, widths, heap_sizes, row_counts, valid}
use Rattle.image_kit.proofs.Pieces.{grown}
use Rattle.image_kit.specs.AssemblyReads.{all_below, has_few_rows, fits_columns, fits_table, row_before, is_sound_row, Fits}
use Rattle.image_kit.proofs.PieceLists.{all_below_at, pieces_grown}

pub pieces_start : (old : List ℕ) (f : ℕ → List ℕ) → old ≡ old ++ pieces f 0
unfolding pieces
pieces_start old f = sym (append-nil old)

pub zeros_grown : (old before after : List ℕ) (n : ℕ) → before ≡ old ++ zeros n → after ≡ before ++ 0 ∷ [] → after ≡ old ++ zeros (n + 1)
zeros_grown old before after n b a = grown old (zeros n) (zeros (n + 1)) (0 ∷ []) before after b a (replicate_next n 0)

bodies_more : (bodies : List MethodBody) (i : ℕ) (body : MethodBody) → i < length bodies → body ≡ get_or bodies i body → bodies_bytes (take (i + 1) bodies) ≡ bodies_bytes (take i bodies) ++ padded body.bytes
unfolding bodies_bytes
bodies_more bodies i body h e =
    let f : MethodBody → List ℕ = λ (body : MethodBody). padded body.bytes in
    ap (flat_map f) (take_more bodies i body h) ∙ flat_map-append f (take i bodies) (get_or bodies i body ∷ []) ∙ ap (λ ys. flat_map f (take i bodies) ++ ys) (append-nil (f (get_or bodies i body))) ∙ ap (λ (y : MethodBody). flat_map f (take i bodies) ++ f y) (sym e)

pub bodies_grown : (old before after : List ℕ) (bodies : List MethodBody) (i : ℕ) (body : MethodBody) → i < length bodies → body ≡ get_or bodies i body → before ≡ old ++ bodies_bytes (take i bodies) → after ≡ before ++ padded body.bytes → after ≡ old ++ bodies_bytes (take (i + 1) bodies)
bodies_grown old before after bodies i body h e b a = grown old (bodies_bytes (take i bodies)) (bodies_bytes (take (i + 1) bodies)) (padded body.bytes) before after b a (bodies_more bodies i body h e)

pub sizes_more : (bodies : List MethodBody) (i : ℕ) (body : MethodBody) → i < length bodies → body ≡ get_or bodies i body → bodies_size (take (i + 1) bodies) ≡ bodies_size (take i bodies) + padded_size body.bytes
sizes_more bodies i body h e = sum_by_more (λ (body : MethodBody). padded_size body.bytes) bodies i body h ∙ ap (λ (y : MethodBody). bodies_size (take i bodies) + padded_size y.bytes) (sym e)

pub sizes_left : (bodies : List MethodBody) (i : ℕ) (body : MethodBody) → i < length bodies → body ≡ get_or bodies i body → bodies_size (drop i bodies) ≡ padded_size body.bytes + bodies_size (drop (i + 1) bodies)
sizes_left bodies i body h e = sum_by-drop_more (λ (body : MethodBody). padded_size body.bytes) bodies i body h ∙ ap (λ (y : MethodBody). padded_size y.bytes + bodies_size (drop (i + 1) bodies)) (sym e)

-- a cell of a row
pub cell_is : (given : List Width) (row : List ℕ) (column : ℕ) (d : Width) → column < length given → little_bytes (bytes_of (get_or given column d)) (slice_index row column) ≡ little_bytes (slice_index (map bytes_of given) column) (slice_index row column)
cell_is given row column d h = ap (λ w. little_bytes w (slice_index row column)) (sym (get_or-map bytes_of given column d 0 h))

-- the widths of a row, by its table's shape
pub shape_widths : (h : ℕ) (rows : List ℕ) (table : ℕ) (s : Shape) (plan : AssemblyPlan) → view_shape s ≡ shape_of h rows table → h ≡ heap_sizes plan → rows ≡ row_counts plan → map bytes_of s.widths ≡ widths plan table
shape_widths h rows table s plan e he re = ap (λ (p : List ℕ × ℕ). p.0) (e ∙ ap (λ n. shape_of n rows table) he ∙ ap (λ (rs : List ℕ). shape_of (heap_sizes plan) rs table) re)

pub table_grown : (old before after : List ℕ) (plan : AssemblyPlan) (table n : ℕ) (given row : List ℕ) → before ≡ old ++ pieces (λ row. row_bytes (widths plan table) (written_row plan table row)) n → after ≡ before ++ row_bytes given row → given ≡ widths plan table → row ≡ written_row plan table n → after ≡ old ++ pieces (λ row. row_bytes (widths plan table) (written_row plan table row)) (n + 1)
table_grown old before after plan table n given row b a w r =
    pieces_grown old before after (λ row. row_bytes (widths plan table) (written_row plan table row)) n b
    (a ∙ ap (λ (ws : List ℕ). before ++ row_bytes ws row) w ∙ ap (λ (cells : List ℕ). before ++ row_bytes (widths plan table) cells) r)

-- the size of the tables with one more
pub size_next : (h : ℕ) (rows : List ℕ) (table count size more : ℕ) (s : Shape) → view_shape s ≡ shape_of h rows table → count ≡ slice_index rows table → more ≡ count * s.row_width → size ≡ table_start 0 valid h rows table → size + more ≡ table_start 0 valid h rows (table + 1)
unfolding table_start
size_next h rows table count size more s e c m z =
    let w : s.row_width ≡ row_width h rows table = ap (λ (p : List ℕ × ℕ). p.1) e in
    rw (add-one, z, m, c, w) refl

-- no table yet: the header and the row counts
pub first_size : (h : ℕ) (rows : List ℕ) → 176 ≡ table_start 0 valid h rows 0
unfolding table_start present_below
first_size h rows = refl

-- a table of a plan with few rows
pub few_at : (tables : List TablePlan) (table : ℕ) → all_below (has_few_rows tables) 45 ≡ true → table < 45 → length (rows_among tables table) ≤ 67108864
few_at tables table few h = leb-true (length (rows_among tables table)) 67108864 (all_below_at (has_few_rows tables) 45 table few h)

-- ---- tests of a plan

-- the test of a number in its column
pub number_test : (given : List Width) (row : List ℕ) (column : ℕ) (d : Width) (b : Bool) → column < length given → b ≡ nat_lt (slice_index row column) (256 ^ bytes_of (get_or given column d)) → nat_lt (slice_index row column) (256 ^ slice_index (map bytes_of given) column) ≡ b
number_test given row column d b h e = ap (λ w. nat_lt (slice_index row column) (256 ^ w)) (get_or-map bytes_of given column d 0 h) ∙ sym e

-- a row of nine numbers, by the test of them all
pub row_test : (widths row : List ℕ) (b : Bool) → length row ≡ 9 → all_below (λ column. nat_lt (slice_index row column) (256 ^ slice_index widths column)) 9 ≡ b → b ≡ fits_columns widths row
row_test widths row b nine e = rw nine (sym e)

-- the test of a cell of a row
pub sound_test : (s : Sizes) (cols : List Column) (before row : List ℕ) (column : ℕ) (d : Column) (b : Bool) → column < length cols → b ≡ sound_by s (view_column (get_or cols column d)) (slice_index before column) (slice_index row column) → sound_in s (slice_get (map view_column cols) column) (slice_index before column) (slice_index row column) ≡ b
sound_test s cols before row column d b h e =
    let count = length-map cols view_column in
    let within : column < length (map view_column cols) = omega (arith, count) in
    let kind : slice_get (map view_column cols) column ≡ Some (view_column (get_or cols column d)) =
    slice_get-get_or (map view_column cols) column (view_column d) within ∙ ap Some (get_or-map view_column cols column d (view_column d) h) in
    rw kind (sym e)

-- the test of a table's rows
pub table_test : (plan : AssemblyPlan) (table : ℕ) (given : List ℕ) (rows : List (List ℕ)) (b : Bool) → b ≡ list_all (fits_columns given) rows → given ≡ widths plan table → rows ≡ rows_among plan.tables table → fits_table plan table ≡ b
table_test plan table given rows b e w r = sym (e ∙ ap (λ (ws : List ℕ). list_all (fits_columns ws) rows) w ∙ ap (λ (rs : List (List ℕ)). list_all (fits_columns (widths plan table)) rs) r)

-- the row before one that isn't the first
pub row_before_is : (rows : List (List ℕ)) (at : ℕ) → at ≢ 0 → row_before rows at ≡ get_or rows (at - 1) []
row_before_is rows zero h = absurd (h refl)
row_before_is rows (suc at) h = ap (λ n. get_or rows n []) (let e : at ≡ suc at - 1 = omega arith in e)

-- the test of a row
pub rows_test : (s : Sizes) (columns : List bv.Column) (rows : List (List ℕ)) (at : ℕ) (before row : List ℕ) (b : Bool) → b ≡ is_sound_row s columns before row → before ≡ row_before rows at → row ≡ get_or rows at [] → is_sound_row s columns (row_before rows at) (get_or rows at []) ≡ b
rows_test s columns rows at before row b e was now =
    sym (e ∙ ap (λ (x : List ℕ). is_sound_row s columns x row) was ∙ ap (λ (x : List ℕ). is_sound_row s columns (row_before rows at) x) now)

-- a plan that fails a test doesn't fit
pub refused : (plan : AssemblyPlan) (b : Bool) → b ≡ false → (Fits plan → b ≡ true) → IsTrue false ↔ Fits plan
refused plan b e h = (λ t. absurd (false≢true t), λ fits. absurd (false≢true (sym e ∙ h fits)))
