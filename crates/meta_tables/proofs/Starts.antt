-- Where the tables' rows begin, and the whole layout.
use Rattle.std.proofs.Common.{◌≡◌, ℕ, ◌+◌, ◌*◌, ◌≤◌, List, [], ◌∷◌, ◌++◌, length, get_or, map, Ok, refl, sym, ap, ◌∙◌, arith}
use Rattle.std.specs.List.{range_with_len}
use Rattle.std.proofs.lemmas.Bool.{le-leb}
use Rattle.std.proofs.lemmas.List.{map_push}
use Rattle.std.proofs.lemmas.List.FromFn.{map-range_with_len_more}
use Rattle.bound_base.specs.declared.image.BadImage.{BadImage}
use Rattle.bound_base.specs.Image.{refusal}
use Rattle.byte_view.specs.Numbers.{le}
use Rattle.byte_view.specs.Reading.{each, listed, Refuses}
use Rattle.byte_view.specs.Columns.{row_width}
use Rattle.byte_view.specs.Layout.{table_start, row_count, start_of, layout}
use Rattle.meta_tables.specs.declared.layout.Shape.{Shape}
use Rattle.meta_tables.specs.Shapes.{view_shape, shape_of, tests_valid}
use Rattle.byte_view.proofs.Refusals.{refuses_as}
use Rattle.meta_tables.proofs.Tables.{table_start_next}

-- the end of a table's rows, as the code reckons it, is where the next table's begin
pub end_is : (start valid heap_sizes : ℕ) (rows : List ℕ) (table at count : ℕ) (shape : Shape) (size : ℕ) → at ≡ table_start start valid heap_sizes rows table → count ≡ get_or rows table 0
    → view_shape shape ≡ shape_of heap_sizes rows table → size ≡ count * shape.row_width → table_start start valid heap_sizes rows (table + 1) ≡ at + size
end_is start valid heap_sizes rows table at count shape size here counted shaped sized =
    let w : shape.row_width ≡ row_width heap_sizes rows table = ap (λ (p : List ℕ × ℕ). p.1) shaped in
    let product : size ≡ get_or rows table 0 * row_width heap_sizes rows table = sized ∙ ap (λ n. n * shape.row_width) counted ∙ ap (λ n. get_or rows table 0 * n) w in
    table_start_next start valid heap_sizes rows table ∙ sym (ap (λ n. n + size) here ∙ ap (λ n. table_start start valid heap_sizes rows table + n) product)

-- one more shape
pub shapes_more : (heap_sizes : ℕ) (rows : List ℕ) (table : ℕ) (shapes : List Shape) (shape : Shape) → map view_shape shapes ≡ map (shape_of heap_sizes rows) (range_with_len 0 table)
    → view_shape shape ≡ shape_of heap_sizes rows table → map view_shape (shapes ++ shape ∷ []) ≡ map (shape_of heap_sizes rows) (range_with_len 0 (table + 1))
shapes_more heap_sizes rows table shapes shape before e =
    map_push view_shape shapes shape ∙ ap (λ ss. ss ++ view_shape shape ∷ []) before ∙ ap (λ s. map (shape_of heap_sizes rows) (range_with_len 0 table) ++ s ∷ []) e
    ∙ sym (map-range_with_len_more (shape_of heap_sizes rows) 0 table table (omega arith))

-- a Valid that is refused
pub layout_invalid : (e : BadImage) (image : List ℕ) (start valid : ℕ) → start + 24 ≤ length image → valid ≡ le image (start + 8) 8 → Refuses refusal e (each (tests_valid valid (start + 8)) 64)
    → Refuses refusal e (layout image start)
unfolding layout
layout_invalid e image start valid h v =
    refuses_as refusal e (each (tests_valid valid (start + 8)) 64) (layout image start)
    (λ d f. rw (le-leb (start + 24) (length image) h, ← v, f) refl)

-- a layout that was read
pub layout_read : (image : List ℕ) (start valid heap_sizes : ℕ) (rows starts : List ℕ) → start + 24 ≤ length image → heap_sizes ≡ le image (start + 6) 1 → valid ≡ le image (start + 8) 8
    → each (tests_valid valid (start + 8)) 64 ≡ Ok 0 → listed (row_count image start valid) 45 ≡ Ok rows → listed (start_of image start valid heap_sizes rows) 45 ≡ Ok starts
    → layout image start ≡ Ok (record { heap_sizes = heap_sizes; rows = rows; starts = starts })
unfolding layout
layout_read image start valid heap_sizes rows starts h s v valids counted placed =
    rw (le-leb (start + 24) (length image) h, ← s, ← v, valids, counted, placed) refl
