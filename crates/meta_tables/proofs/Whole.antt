-- The whole metadata, from its parts.
use Rattle.std.proofs.Common.{◌≡◌, ℕ, zero, suc, ◌+◌, ◌*◌, ◌-◌, ◌<◌, ◌≤◌, Bool, true, false, List, [], length, get_or, take, map, slice_get, Some, None, Result, Ok, Err, cond, refl, sym, ap, ◌∙◌, ◌⊎◌, inl, inr, arith}
use Rattle.std.specs.List.{range_with_len}
use Rattle.std.proofs.lemmas.Bool.{leb-true, le-ltb, lt-ltb}
use Rattle.std.proofs.lemmas.List.FromFn.{length-map-range_with_len, get_or-map-range_with_len}
use Rattle.std.proofs.lemmas.Option.{slice_get-get_or, slice_get_past}
use Rattle.bound_base.specs.declared.image.BadImage.{BadImage}
use Rattle.bound_base.specs.Image.{refusal}
use Rattle.byte_view.specs.Numbers.{le}
use Rattle.byte_view.specs.Reading.{Broken, ◌>>=◌, listed, Refuses}
use Rattle.byte_view.specs.Columns.{row_width}
use Rattle.byte_view.specs.Layout.{Layout, header, table_start, count_place, row_count, start_of, layout}
use Rattle.byte_view.specs.Streams.{Range, Streams, streams}
use Rattle.byte_view.specs.Metadata.{Metadata, row_at, row_of, row_start, row_place}
use Rattle.byte_view.specs.Cells.{check_cells}
use Rattle.byte_view.specs.Assembly.{metadata_in}
use Rattle.byte_view.proofs.Reading.{bind_ok, listed_length, listed_at}
use Rattle.meta_tables.specs.declared.heaps.Heaps.{Heaps}
use Rattle.meta_tables.specs.declared.layout.Layout.{Layout as CodeLayout}
use Rattle.meta_tables.specs.Shapes.{view_layout, HasShapes, IsLaidOut}
use Rattle.meta_tables.specs.Cells.{metadata_of, AreHeapsOf}
use Rattle.byte_view.proofs.Refusals.{refuses_as}
use Rattle.meta_tables.proofs.Tables.{table_start_next}
use Rattle.meta_tables.proofs.Checks.{table_of_is, rows_in_is}

guard_ok : {A : Type 0} (b : Bool) (x y : A) (d : Broken) → cond b (Ok x) (Err d) ≡ Ok y → (b ≡ true) × (x ≡ y)
guard_ok true x y d e = (refl, cc)
guard_ok false x y d e = absurd (cc)

-- a table that has a place ends in the stream
start_ok : (image : List ℕ) (start valid heap_sizes : ℕ) (rows : List ℕ) (table x : ℕ) → start_of image start valid heap_sizes rows table ≡ Ok x
    → x + get_or rows table 0 * row_width heap_sizes rows table ≤ length image
start_ok image start valid heap_sizes rows table x e =
    let parts = guard_ok _ (table_start start valid heap_sizes rows table) x (11, count_place start valid table) e in
    let ends : table_start start valid heap_sizes rows (suc table) ≤ length image = leb-true _ _ parts.0 in
    let step : suc table ≡ table + 1 = omega arith in
    let next = table_start_next start valid heap_sizes rows table in
    let ends_at : table_start start valid heap_sizes rows (table + 1) ≤ length image = rw step at ends in
    omega (arith, ends_at, next, parts.1)

placed : List ℕ → ℕ → List ℕ → Result Layout Broken
placed image start rows =
    listed (start_of image start (le image (start + 8) 8) (le image (start + 6) 1) rows) 45 >>= λ starts. Ok (record { heap_sizes = le image (start + 6) 1; rows = rows; starts = starts })

placed_ok : (image : List ℕ) (start : ℕ) (rows : List ℕ) (l : Layout) → placed image start rows ≡ Ok l
    → (l.heap_sizes ≡ le image (start + 6) 1) × (l.rows ≡ rows) × (listed (start_of image start (le image (start + 8) 8) (le image (start + 6) 1) rows) 45 ≡ Ok l.starts)
unfolding placed
placed_ok image start rows l e =
    let parts = bind_ok (listed (start_of image start (le image (start + 8) 8) (le image (start + 6) 1) rows) 45) (λ starts. Ok (record { heap_sizes = le image (start + 6) 1; rows = rows; starts = starts })) l e in
    let whole : Layout = record { heap_sizes = le image (start + 6) 1; rows = rows; starts = parts.0 } in
    let same : whole ≡ l = cc in
    (sym (ap (λ (x : Layout). x.heap_sizes) same), sym (ap (λ (x : Layout). x.rows) same), parts.1 ∙ ap (λ (x : Layout). Ok x.starts) same)

layout_ok : (image : List ℕ) (start : ℕ) (l : Layout) → layout image start ≡ Ok l → (rows : List ℕ) × (listed (row_count image start (le image (start + 8) 8)) 45 ≡ Ok rows) × (placed image start rows ≡ Ok l)
unfolding layout placed
layout_ok image start l e =
    let counted : ℕ → Result Layout Broken = λ _. listed (row_count image start (le image (start + 8) 8)) 45 >>= λ rows. placed image start rows in
    let one = bind_ok (header image start) counted l e in
    let three = bind_ok (listed (row_count image start (le image (start + 8) 8)) 45) (λ rows. placed image start rows) l one.2 in
    (three.0, three.1, three.2)

-- what a layout that was read tells of its tables
pub laid_out : (stream : List ℕ) (start : ℕ) (l : CodeLayout) → layout stream start ≡ Ok (view_layout l) → HasShapes l → IsLaidOut stream l
laid_out stream start l e shapes =
    let read = layout_ok stream start (view_layout l) e in
    let parts = placed_ok stream start read.0 (view_layout l) read.2 in
    let starts : listed (start_of stream start (le stream (start + 8) 8) l.heap_sizes l.rows.items) 45 ≡ Ok l.starts.items = rw (parts.0, parts.1) parts.2 in
    record {
      rows = ap length parts.1 ∙ listed_length (row_count stream start (le stream (start + 8) 8)) 45 read.0 read.1;
      starts = listed_length (start_of stream start (le stream (start + 8) 8) l.heap_sizes l.rows.items) 45 l.starts.items starts;
      shapes = shapes;
      within = λ table h. start_ok stream start (le stream (start + 8) 8) l.heap_sizes l.rows.items table (get_or l.starts.items table 0)
          (listed_at (start_of stream start (le stream (start + 8) 8) l.heap_sizes l.rows.items) 45 l.starts.items starts table 0 h);
    }

metadata_is : (image : List ℕ) (at : ℕ) (tables : Range) (s : Streams) (h : Heaps) (l : CodeLayout) (stream : List ℕ) → streams image at ≡ Ok (tables, s) → stream ≡ take tables.end image
    → layout stream tables.start ≡ Ok (view_layout l) → AreHeapsOf image s h
    → metadata_in image at ≡ (check_cells (view_layout l) (metadata_of h stream l) >>= λ _. Ok (metadata_of h stream l))
unfolding metadata_in
metadata_is image at tables s h l stream read cut laid heaps =
    rw (read, ← cut, laid, heaps.strings, heaps.user_strings, heaps.guids, heaps.blobs) refl

-- metadata whose cells all pass
pub metadata_read : (image : List ℕ) (at : ℕ) (tables : Range) (s : Streams) (h : Heaps) (l : CodeLayout) (stream : List ℕ) → streams image at ≡ Ok (tables, s) → stream ≡ take tables.end image
    → layout stream tables.start ≡ Ok (view_layout l) → AreHeapsOf image s h → check_cells (view_layout l) (metadata_of h stream l) ≡ Ok 0
    → metadata_in image at ≡ Ok (metadata_of h stream l)
metadata_read image at tables s h l stream read cut laid heaps passed =
    metadata_is image at tables s h l stream read cut laid heaps ∙ (rw passed refl)

-- metadata with a cell that doesn't pass
pub metadata_refused : (e : BadImage) (image : List ℕ) (at : ℕ) (tables : Range) (s : Streams) (h : Heaps) (l : CodeLayout) (stream : List ℕ) → streams image at ≡ Ok (tables, s)
    → stream ≡ take tables.end image → layout stream tables.start ≡ Ok (view_layout l) → AreHeapsOf image s h → Refuses refusal e (check_cells (view_layout l) (metadata_of h stream l))
    → Refuses refusal e (metadata_in image at)
metadata_refused e image at tables s h l stream read cut laid heaps refused =
    refuses_as refusal e (check_cells (view_layout l) (metadata_of h stream l)) (metadata_in image at)
    (λ d f. metadata_is image at tables s h l stream read cut laid heaps ∙ (rw f refl)) refused

-- metadata without streams or a layout
pub streams_broken : (e : BadImage) (image : List ℕ) (at : ℕ) → Refuses refusal e (streams image at) → Refuses refusal e (metadata_in image at)
unfolding metadata_in
streams_broken e image at refused = refuses_as refusal e (streams image at) (metadata_in image at) (λ d f. rw f refl) refused

pub layout_broken : (e : BadImage) (image : List ℕ) (at : ℕ) (tables : Range) (s : Streams) (stream : List ℕ) → streams image at ≡ Ok (tables, s) → stream ≡ take tables.end image
    → Refuses refusal e (layout stream tables.start) → Refuses refusal e (metadata_in image at)
unfolding metadata_in
layout_broken e image at tables s stream read cut refused =
    refuses_as refusal e (layout stream tables.start) (metadata_in image at) (λ d f. rw (read, ← cut, f) refl) refused

-- rows by their numbers
pub row_zero : (m : Metadata) (table n : ℕ) → n ≡ 0 → row_of m table n ≡ None
row_zero m table n e = rw e refl

pub row_past : (h : Heaps) (stream : List ℕ) (l : CodeLayout) (table n : ℕ) → length l.rows.items ≡ 45 → get_or l.rows.items table 0 < n → row_of (metadata_of h stream l) table n ≡ None
row_past h stream l table zero len past = absurd (omega arith)
row_past h stream l table (suc n) len past =
    let count = length-map-range_with_len (row_at stream (view_layout l) table) 0 (get_or l.rows.items table 0) in
    ap (λ (rows : List (List ℕ)). slice_get rows n) (table_of_is h stream l table len)
    ∙ slice_get_past (map (row_at stream (view_layout l) table) (range_with_len 0 (get_or l.rows.items table 0))) n (omega (arith, count))

pub row_there : (h : Heaps) (stream : List ℕ) (l : CodeLayout) (table n : ℕ) → length l.rows.items ≡ 45 → 1 ≤ n → n ≤ get_or l.rows.items table 0
    → row_of (metadata_of h stream l) table n ≡ Some (row_at stream (view_layout l) table (n - 1))
row_there h stream l table zero len from upto = absurd (omega arith)
row_there h stream l table (suc n) len from upto =
    let rows : List (List ℕ) = map (row_at stream (view_layout l) table) (range_with_len 0 (get_or l.rows.items table 0)) in
    let count = length-map-range_with_len (row_at stream (view_layout l) table) 0 (get_or l.rows.items table 0) in
    let before : n ≡ suc n - 1 = omega arith in
    ap (λ (rs : List (List ℕ)). slice_get rs n) (table_of_is h stream l table len)
    ∙ slice_get-get_or rows n [] (omega (arith, count))
    ∙ ap Some (get_or-map-range_with_len (row_at stream (view_layout l) table) 0 (get_or l.rows.items table 0) n n [] (omega arith) (omega arith))
    ∙ ap (λ k. Some (row_at stream (view_layout l) table k)) before

-- places of rows by their numbers
pub no_place : (h : Heaps) (stream : List ℕ) (l : CodeLayout) (table n : ℕ) → length l.rows.items ≡ 45
    → (n < 1) ⊎ (get_or l.rows.items table 0 < n) → row_place (metadata_of h stream l) table n ≡ None
no_place h stream l table zero len outside = refl
no_place h stream l table (suc n) len (inl below) = absurd (omega arith)
no_place h stream l table (suc n) len (inr past) =
    let count = rows_in_is h stream l table len in
    rw (count, le-ltb n (get_or l.rows.items table 0) (omega arith)) refl

pub place_there : (h : Heaps) (stream : List ℕ) (l : CodeLayout) (table n : ℕ) → length l.rows.items ≡ 45 → 1 ≤ n → n ≤ get_or l.rows.items table 0
    → row_place (metadata_of h stream l) table n ≡ Some (row_start (view_layout l) table (n - 1))
place_there h stream l table zero len from upto = absurd (omega arith)
place_there h stream l table (suc n) len from upto =
    let count = rows_in_is h stream l table len in
    let before : n ≡ suc n - 1 = omega arith in
    rw (count, lt-ltb n (get_or l.rows.items table 0) (omega arith)) (ap (λ k. Some (row_start (view_layout l) table k)) before)
