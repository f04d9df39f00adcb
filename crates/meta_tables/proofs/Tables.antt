-- Columns of the tables, their widths and their places.
use Rattle.std.proofs.Common.{◌≡◌, ℕ, zero, suc, ◌+◌, ◌*◌, ◌≤◌, ◌<◌, true, List, [], ◌∷◌, ◌++◌, length, get_or, take, map, slice_get, Ok, Err, refl, sym, ap, ◌∙◌, add-one, arith, nat_le, sum, inl, inr, subst, set}
use Rattle.std.specs.List.{range_with_len, sum_by, list_all}
use Rattle.std.proofs.lemmas.Bool.{cases_lt, le-leb, lt-leb}
use Rattle.std.proofs.lemmas.Bool.Decides.{nat_tests}
use Rattle.std.proofs.lemmas.List.{get_or_past, take_all, map-id, take_more_set, map_push}
use Rattle.std.proofs.lemmas.List.Sums.{sum-map, sum_by_more}
use Rattle.std.proofs.lemmas.List.FromFn.{sum_by-map-range_with_len_more, map-range_with_len_more}
use Rattle.std.proofs.lemmas.Option.{slice_get-get_or, slice_get_past}
use Rattle.byte_view.specs.Columns.{Column, Number, columns, all_columns, width, row_width}
use Rattle.byte_view.specs.Layout.{table_start, count_place, start_of}
use Rattle.meta_tables.specs.declared.columns.Width.{Width}
use Rattle.meta_tables.specs.View.{bytes_of}
use Rattle.meta_tables.specs.Shapes.{width_at, cell_widths}

-- a number after the last table has no columns
pub no_columns : (table : ℕ) → 45 ≤ table → columns table ≡ []
unfolding columns
no_columns table h = get_or_past all_columns table [] (omega arith)

few_at : (xs : List (List Column)) (i : ℕ) → list_all (λ columns. nat_le (length columns) 9) xs ≡ true → length (get_or xs i []) ≤ 9
few_at [] i e = omega arith
few_at (x ∷ xs) zero e = grind (arith, nat_tests)
few_at (x ∷ xs) (suc i) e = let rest : list_all (λ columns. nat_le (length columns) 9) xs ≡ true = grind (arith, nat_tests) in few_at xs i rest

-- no table has more than nine columns
pub columns_few : (table : ℕ) → length (columns table) ≤ 9
unfolding columns
columns_few table = few_at all_columns table refl

-- the widths of the first cells are those of the first columns
widths_sum : (heap_sizes : ℕ) (rows : List ℕ) (cols : List Column) (n : ℕ)
    → sum_by (λ k. width_at heap_sizes rows (slice_get cols k)) (map (λ (k : ℕ). k) (range_with_len 0 n)) ≡ sum_by (width heap_sizes rows) (take n cols)
widths_sum heap_sizes rows cols zero = refl
widths_sum heap_sizes rows cols (suc n) =
    let cell : ℕ → ℕ = λ k. width_at heap_sizes rows (slice_get cols k) in
    let before = widths_sum heap_sizes rows cols n in
    let one : sum_by cell (map (λ (k : ℕ). k) (range_with_len 0 (n + 1))) ≡ sum_by cell (map (λ (k : ℕ). k) (range_with_len 0 n)) + cell n =
    sum_by-map-range_with_len_more cell (λ (k : ℕ). k) 0 n n (omega arith) in
    let two : sum_by (width heap_sizes rows) (take (n + 1) cols) ≡ sum_by (width heap_sizes rows) (take n cols) + cell n =
    elim (cases_lt n (length cols)) [
      | inl l ↦ (rw (slice_get-get_or cols n (Number 0) l) (sum_by_more (width heap_sizes rows) cols n (Number 0) l))
      | inr g ↦ (rw (slice_get_past cols n g, take_all (n + 1) cols (omega arith), take_all n cols g) (omega arith))
    ] in
    let step : n + 1 ≡ suc n = omega arith in
    subst (λ (m : ℕ). sum_by cell (map (λ (k : ℕ). k) (range_with_len 0 m)) ≡ sum_by (width heap_sizes rows) (take m cols)) step (one ∙ ap (λ s. s + cell n) before ∙ sym two)

pub sum_cells : (heap_sizes : ℕ) (rows : List ℕ) (cols : List Column) (n : ℕ)
    → sum (map (λ k. width_at heap_sizes rows (slice_get cols k)) (range_with_len 0 n)) ≡ sum_by (width heap_sizes rows) (take n cols)
sum_cells heap_sizes rows cols n =
    let cell : ℕ → ℕ = λ k. width_at heap_sizes rows (slice_get cols k) in
    sum-map cell (range_with_len 0 n) ∙ ap (λ ks. sum_by cell ks) (sym (map-id (range_with_len 0 n))) ∙ widths_sum heap_sizes rows cols n

-- a row is as wide as its cells together
pub row_width-sum : (heap_sizes : ℕ) (rows : List ℕ) (table : ℕ) → row_width heap_sizes rows table ≡ sum (cell_widths heap_sizes rows table)
row_width-sum heap_sizes rows table =
    let few = columns_few table in
    let all : take 9 (columns table) ≡ columns table = take_all 9 (columns table) few in
    sym (sum_cells heap_sizes rows (columns table) 9 ∙ ap (λ cols. sum_by (width heap_sizes rows) cols) all)

-- one more width, in its place
pub widths_more : (widths : List Width) (at : ℕ) (w : Width) (f : ℕ → ℕ) → at < length widths → map bytes_of (take at widths) ≡ map f (range_with_len 0 at) → bytes_of w ≡ f at
    → map bytes_of (take (at + 1) (set widths at w)) ≡ map f (range_with_len 0 (at + 1))
widths_more widths at w f h before e =
    ap (map bytes_of) (take_more_set widths at w h) ∙ map_push bytes_of (take at widths) w ∙ ap (λ ns. ns ++ bytes_of w ∷ []) before ∙ ap (λ n. map f (range_with_len 0 at) ++ n ∷ []) e
    ∙ sym (map-range_with_len_more f 0 at at (omega arith))

pub widths_all : (widths : List Width) (at : ℕ) (f : ℕ → ℕ) → length widths ≡ 9 → at ≡ 9 → map bytes_of (take at widths) ≡ map f (range_with_len 0 at)
    → map bytes_of widths ≡ map f (range_with_len 0 9)
widths_all widths at f len e whole =
    sym (ap (map bytes_of) (take_all at widths (omega arith))) ∙ whole ∙ ap (λ n. map f (range_with_len 0 n)) e

-- where the next table's rows begin
pub table_start_next : (start valid heap_sizes : ℕ) (rows : List ℕ) (table : ℕ)
    → table_start start valid heap_sizes rows (table + 1) ≡ table_start start valid heap_sizes rows table + get_or rows table 0 * row_width heap_sizes rows table
unfolding table_start
table_start_next start valid heap_sizes rows table = rw add-one refl

pub first_start : (start valid heap_sizes : ℕ) (rows : List ℕ) → table_start start valid heap_sizes rows 0 ≡ count_place start valid 45
unfolding table_start
first_start start valid heap_sizes rows = refl

pub start_passes : (image : List ℕ) (start valid heap_sizes : ℕ) (rows : List ℕ) (table end : ℕ) → table_start start valid heap_sizes rows (table + 1) ≡ end → end ≤ length image
    → start_of image start valid heap_sizes rows table ≡ Ok (table_start start valid heap_sizes rows table)
start_passes image start valid heap_sizes rows table end e h =
    let step : suc table ≡ table + 1 = omega arith in
    rw (step, e, le-leb end (length image) h) refl

pub start_fails : (image : List ℕ) (start valid heap_sizes : ℕ) (rows : List ℕ) (table end : ℕ) → table_start start valid heap_sizes rows (table + 1) ≡ end → length image < end
    → start_of image start valid heap_sizes rows table ≡ Err (11, count_place start valid table)
start_fails image start valid heap_sizes rows table end e h =
    let step : suc table ≡ table + 1 = omega arith in
    rw (step, e, lt-leb end (length image) h) refl
