-- Rows of a table, cell after cell.
use Rattle.std.proofs.Common.{◌≡◌, ℕ, zero, suc, ◌+◌, ◌*◌, ◌<◌, ◌≤◌, List, [], ◌∷◌, ◌++◌, length, get_or, set, take, map, sum, slice_get, Option, Some, None, refl, sym, ap, subst, ◌∙◌, inl, inr, arith}
use Rattle.std.specs.List.{range_with_len, sum_by}
use Rattle.std.proofs.lemmas.List.{take_more_set, length-map, get_or_past, take-map, get_or-map}
use Rattle.std.proofs.lemmas.Bool.{cases_lt}
use Rattle.std.proofs.lemmas.Nat.{mul-le}
use Rattle.std.proofs.lemmas.List.Sums.{sum-map}
use Rattle.std.proofs.lemmas.List.FromFn.{map-range_with_len_more, length-map-range_with_len, get_or-map-range_with_len, take-map-range_with_len}
use Rattle.byte_view.specs.Numbers.{le}
use Rattle.byte_view.specs.Columns.{Column, columns, width, row_width}
use Rattle.byte_view.specs.Layout.{Layout}
use Rattle.byte_view.specs.Metadata.{row_at, cell_value}
use Rattle.meta_tables.specs.declared.columns.Width.{Width}
use Rattle.meta_tables.specs.declared.layout.Shape.{Shape}
use Rattle.meta_tables.specs.declared.layout.Layout.{Layout as CodeLayout}
use Rattle.meta_tables.specs.View.{bytes_of}
use Rattle.meta_tables.specs.Shapes.{width_at, cell_widths, shape_of, view_shape, IsLaidOut, cell_at, cells_at}
use Rattle.meta_tables.proofs.Numbers.{le_none}
use Rattle.meta_tables.proofs.Tables.{sum_cells, row_width-sum}

-- a row lies among the rows
pub row_within : (row count width : ℕ) → row < count → row * width + width ≤ count * width
row_within row count width h =
    let more : (row + 1) * width ≤ count * width = mul-le (row + 1) width count width (omega arith) (omega arith) in
    let one : (row + 1) * width ≡ row * width + width = grind arith in
    omega (arith, more, one)

-- one more number, in its place
pub cells_more : (f : ℕ → ℕ) (cells : List ℕ) (at v : ℕ) → at < length cells → take at cells ≡ map f (range_with_len 0 at) → v ≡ f at → take (at + 1) (set cells at v) ≡ map f (range_with_len 0 (at + 1))
cells_more f cells at v h before e =
    take_more_set cells at v h ∙ ap (λ ns. ns ++ v ∷ []) before ∙ ap (λ n. map f (range_with_len 0 at) ++ n ∷ []) e ∙ sym (map-range_with_len_more f 0 at at (omega arith))

-- the number that the code reads in a cell
pub cell_here : (stream : List ℕ) (start : ℕ) (widths : List Width) (at place v : ℕ) (d : Width) → at < length widths → place ≡ start + sum_by bytes_of (take at widths)
    → v ≡ le stream place (bytes_of (get_or widths at d)) → v ≡ cell_at stream start (map bytes_of widths) at
cell_here stream start widths at place v d h here e =
    let offset : sum_by bytes_of (take at widths) ≡ sum (take at (map bytes_of widths)) = sym (ap sum (take-map bytes_of at widths) ∙ sum-map bytes_of (take at widths)) in
    let one : bytes_of (get_or widths at d) ≡ get_or (map bytes_of widths) at 0 = sym (get_or-map bytes_of widths at d 0 h) in
    e ∙ ap (λ p. le stream p (bytes_of (get_or widths at d))) (here ∙ ap (λ n. start + n) offset) ∙ ap (λ w. le stream (start + sum (take at (map bytes_of widths))) w) one

-- equal numbers make equal rows
pub map_same : {A : Type 0} (f g : ℕ → A) (n : ℕ) → ((k : ℕ) → k < n → f k ≡ g k) → map f (range_with_len 0 n) ≡ map g (range_with_len 0 n)
map_same f g zero h = refl
map_same f g (suc n) h =
    let before = map_same f g n (λ k l. h k (omega arith)) in
    let step : n + 1 ≡ suc n = omega arith in
    let F : ℕ → Type 0 = λ m. map f (range_with_len 0 m) ≡ map g (range_with_len 0 m) in
    subst F step (map-range_with_len_more f 0 n n (omega arith) ∙ ap (λ xs. xs ++ f n ∷ []) before ∙ ap (λ x. map g (range_with_len 0 n) ++ x ∷ []) (h n (omega arith)) ∙ sym (map-range_with_len_more g 0 n n (omega arith)))

same_cell : (stream : List ℕ) (l : Layout) (table row start column : ℕ) (kind : Option Column) → slice_get (columns table) column ≡ kind
    → start ≡ get_or l.starts table 0 + row * row_width l.heap_sizes l.rows table
    → le stream (start + sum_by (width l.heap_sizes l.rows) (take column (columns table))) (width_at l.heap_sizes l.rows kind) ≡ cell_value stream l table row column kind
same_cell stream l table row start column None is here = le_none stream _
same_cell stream l table row start column (Some kind) is here =
    ap (λ s. le stream (s + sum_by (width l.heap_sizes l.rows) (take column (columns table))) (width l.heap_sizes l.rows kind)) here

-- the cells at a row's start, of its table's widths, are the row
pub row_is : (stream : List ℕ) (l : Layout) (table row start : ℕ) (widths : List ℕ) → widths ≡ cell_widths l.heap_sizes l.rows table → start ≡ get_or l.starts table 0 + row * row_width l.heap_sizes l.rows table
    → cells_at stream start widths ≡ row_at stream l table row
unfolding row_at
row_is stream l table row start widths is here =
    rw is (map_same (cell_at stream start (cell_widths l.heap_sizes l.rows table)) (λ column. cell_value stream l table row column (slice_get (columns table) column)) 9 (λ column h.
    let f : ℕ → ℕ = λ k. width_at l.heap_sizes l.rows (slice_get (columns table) k) in
    let offset : sum (take column (cell_widths l.heap_sizes l.rows table)) ≡ sum_by (width l.heap_sizes l.rows) (take column (columns table)) =
    ap sum (take-map-range_with_len f 0 9 column (omega arith)) ∙ sum_cells l.heap_sizes l.rows (columns table) column in
    let one : get_or (cell_widths l.heap_sizes l.rows table) column 0 ≡ f column = get_or-map-range_with_len f 0 9 column column 0 h (omega arith) in
    ap (λ n. le stream (start + n) (get_or (cell_widths l.heap_sizes l.rows table) column 0)) offset
    ∙ ap (λ w. le stream (start + sum_by (width l.heap_sizes l.rows) (take column (columns table))) w) one
    ∙ same_cell stream l table row start column (slice_get (columns table) column) refl here))

-- the shape of a table, in the list of shapes
pub shape_at : (heap_sizes : ℕ) (rows : List ℕ) (shapes : List Shape) (table : ℕ) (d : Shape) → map view_shape shapes ≡ map (shape_of heap_sizes rows) (range_with_len 0 45) → table < 45
    → view_shape (get_or shapes table d) ≡ shape_of heap_sizes rows table
shape_at heap_sizes rows shapes table d e h =
    let count : length shapes ≡ 45 = sym (length-map shapes view_shape) ∙ ap length e ∙ length-map-range_with_len (shape_of heap_sizes rows) 0 45 in
    let within : table < length shapes = omega arith in
    sym (get_or-map view_shape shapes table d (view_shape d) within) ∙ ap (λ (xs : List (List ℕ × ℕ)). get_or xs table (view_shape d)) e
    ∙ get_or-map-range_with_len (shape_of heap_sizes rows) 0 45 table table (view_shape d) h (omega arith)

-- a table that has rows is one of the 45
pub has_rows : (rows : List ℕ) (table row : ℕ) → length rows ≡ 45 → row < get_or rows table 0 → table < 45
has_rows rows table row len h =
    elim (cases_lt table 45) [
      | inl l ↦ l
      | inr g ↦ (let none : get_or rows table 0 ≡ 0 = get_or_past rows table 0 (omega arith) in absurd (omega arith))
    ]

-- the cells of a table's shape are together as wide as its rows
pub shape_width : (heap_sizes : ℕ) (rows : List ℕ) (table : ℕ) (shape : Shape) → view_shape shape ≡ shape_of heap_sizes rows table
    → sum_by bytes_of shape.widths ≡ row_width heap_sizes rows table
shape_width heap_sizes rows table shape shaped =
    sym (sum-map bytes_of shape.widths) ∙ ap (λ (p : List ℕ × ℕ). sum p.0) shaped ∙ sym (row_width-sum heap_sizes rows table)

-- a row ends in the stream
pub row_ends : (stream : List ℕ) (l : CodeLayout) (table row : ℕ) → IsLaidOut stream l → row < get_or l.rows.items table 0
    → get_or l.starts.items table 0 + row * row_width l.heap_sizes l.rows.items table + row_width l.heap_sizes l.rows.items table ≤ length stream
row_ends stream l table row laid h =
    let number : table < 45 = has_rows l.rows.items table row laid.rows h in
    let among = row_within row (get_or l.rows.items table 0) (row_width l.heap_sizes l.rows.items table) h in
    omega (arith, laid.within table number, among)

-- where a row begins, by its table's shape
pub row_starts : (l : CodeLayout) (table row : ℕ) (shape : Shape) (start : ℕ) → view_shape shape ≡ shape_of l.heap_sizes l.rows.items table
    → start ≡ get_or l.starts.items table 0
    → start + row * shape.row_width ≡ get_or l.starts.items table 0 + row * row_width l.heap_sizes l.rows.items table
row_starts l table row shape start shaped here =
    let w : shape.row_width ≡ row_width l.heap_sizes l.rows.items table = ap (λ (p : List ℕ × ℕ). p.1) shaped in
    ap (λ s. s + row * shape.row_width) here ∙ ap (λ n. get_or l.starts.items table 0 + row * n) w

-- a row of a table lies in the stream
pub row_lies : (stream : List ℕ) (l : CodeLayout) (table row : ℕ) (shape : Shape) (start : ℕ) → IsLaidOut stream l → row < get_or l.rows.items table 0
    → view_shape shape ≡ shape_of l.heap_sizes l.rows.items table → start ≡ get_or l.starts.items table 0
    → start + row * shape.row_width + sum_by bytes_of shape.widths ≤ length stream
row_lies stream l table row shape start laid h shaped here =
    let total = shape_width l.heap_sizes l.rows.items table shape shaped in
    let begins = row_starts l table row shape start shaped here in
    omega (arith, row_ends stream l table row laid h, begins, total)
