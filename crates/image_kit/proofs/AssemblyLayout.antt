-- The layout of the stream of a written assembly's tables, as it is read.
use Rattle.std.proofs.Common.{◌≡◌, ℕ, zero, suc, ◌+◌, ◌*◌, ◌^◌, ◌<◌, ◌≤◌, Bool, true, false, not, cond, List, [], ◌∷◌, ◌++◌, length, get_or, map, Some, Ok, refl, sym, ap, ◌∙◌, subst, inl, inr, arith}
use Rattle.std.specs.Prelude.{nat_le, ◌==◌, if◌then◌else◌, find, count_by, slice_index}
use Rattle.std.specs.List.{range_with_len, list_all}
use Rattle.std.proofs.lemmas.Bool.{cases_lt, le-leb, eqb-true, and_parts, false≢true}
use Rattle.std.proofs.lemmas.List.{length-append}
use Rattle.std.proofs.lemmas.List.FromFn.{fill_by_all}
use Rattle.byte_view.specs.Numbers.{le}
use Rattle.byte_view.specs.Reading.{listed, each}
use Rattle.byte_view.specs.Columns.{columns, is_table}
use Rattle.byte_view.specs.Layout.{Layout, is_present, present_below, count_place, row_count, table_start, start_of, header, layout}
use Rattle.byte_view.proofs.Reading.{listed_from, bind_read}
use Rattle.image_kit.specs.declared.assembly_plan.TablePlan.{TablePlan}
use Rattle.image_kit.specs.LibraryFile.{u32, u64}
use Rattle.image_kit.specs.AssemblyFile.{pieces, rows_if, rows_among, valid, count_bytes, tables_header}
use Rattle.image_kit.specs.AssemblyReads.{all_below, is_given_once}
use Rattle.image_kit.proofs.Stands.{Stands, stands_front, stands_back, stands_within, le_inside, le_u32, length-u32}
use Rattle.image_kit.proofs.PieceLists.{all_below_at, piece_stands}

same_truth : (a b : Bool) → (if a then b else not b) ≡ true → a ≡ b
same_truth true true e = refl
same_truth true false e = absurd (cc)
same_truth false true e = absurd (cc)
same_truth false false e = refl

-- each metadata table is marked as there, and no other
all_marked : all_below (λ table. if is_present valid table then is_table table else not (is_table table)) 45 ≡ true
unfolding all_below columns
all_marked = refl

pub marked : (table : ℕ) → table < 45 → is_present valid table ≡ is_table table
marked table h = same_truth (is_present valid table) (is_table table) (all_below_at (λ table. if is_present valid table then is_table table else not (is_table table)) 45 table all_marked h)

-- the bytes of the row counts before that of a table
count_size : (rows : List ℕ) (table : ℕ) (there : Bool) → is_table table ≡ there → length (count_bytes rows table) ≡ 4 * (if there then 1 else 0)
count_size rows table true e = rw e (length-u32 (get_or rows table 0))
count_size rows table false e = rw e refl

pub length-counts : (rows : List ℕ) (table : ℕ) → table ≤ 45 → length (pieces (count_bytes rows) table) ≡ 4 * present_below valid table
unfolding pieces present_below
length-counts rows zero h = refl
length-counts rows (suc table) h =
    let before : length (pieces (count_bytes rows) table) ≡ 4 * present_below valid table = length-counts rows table (omega arith) in
    let mark : is_present valid table ≡ is_table table = marked table (omega arith) in
    let here : length (count_bytes rows table) ≡ 4 * (if is_table table then 1 else 0) = count_size rows table (is_table table) refl in
    let both : length (pieces (count_bytes rows) table ++ count_bytes rows table) ≡ length (pieces (count_bytes rows) table) + length (count_bytes rows table) = length-append (pieces (count_bytes rows) table) (count_bytes rows table) in
    rw mark (omega (arith, both, before, here))

pub all_present : present_below valid 45 ≡ 38
unfolding present_below
all_present = refl

pub length-all_counts : (rows : List ℕ) → length (pieces (count_bytes rows) 45) ≡ 152
length-all_counts rows = length-counts rows 45 (omega arith) ∙ ap (λ n. 4 * n) all_present

pub length-tables_header : (heap_sizes : ℕ) → length (tables_header heap_sizes) ≡ 24
unfolding tables_header u32 u64
length-tables_header heap_sizes = refl

-- a number that is no table has no rows in a plan
rows_none : (all tables : List TablePlan) (number : ℕ) → list_all (λ table. is_given_once all table.number) tables ≡ true → is_table number ≡ false → rows_if (find (λ table. table.number == number) tables) ≡ []
rows_none all [] number given none = refl
rows_none all (table ∷ more) number given none =
    let both = and_parts (is_given_once all table.number) (list_all (λ table. is_given_once all table.number) more) given in
    let here : is_table table.number ≡ true = (and_parts (is_table table.number) (count_by (λ other. other.number == table.number) all == 1) both.0).0 in
    by (table.number == number) refl here (rows_none all more number both.1 none)
  where
    by : (same : Bool) → (table.number == number) ≡ same → is_table table.number ≡ true → rows_if (find (λ table. table.number == number) more) ≡ [] → rows_if (cond same (Some table) (find (λ table. table.number == number) more)) ≡ []
    by false e here rest = rest
    by true e here rest =
        let one : table.number ≡ number = eqb-true table.number number e in
        let there : is_table number ≡ true = rw one at here in
        absurd (false≢true (sym none ∙ there))

pub none_outside : (tables : List TablePlan) (number : ℕ) → list_all (λ table. is_given_once tables table.number) tables ≡ true → is_table number ≡ false → rows_among tables number ≡ []
unfolding rows_among
none_outside tables number given none = rows_none tables tables number given none

-- the row count of a table, from a list of all
pub count_reads : (image : List ℕ) (start : ℕ) (rows : List ℕ) (table : ℕ) → Stands image (start + 24) (pieces (count_bytes rows) 45) → table < 45 → (is_table table ≡ false → slice_index rows table ≡ 0) → slice_index rows table < 2 ^ 32 → row_count image start valid table ≡ Ok (slice_index rows table)
count_reads image start rows table s h none small = by (is_table table) refl
  where
    by : (there : Bool) → is_table table ≡ there → row_count image start valid table ≡ Ok (slice_index rows table)
    by false e =
        let mark : is_present valid table ≡ false = marked table h ∙ e in
        rw (mark, none e) refl
    by true e =
        let mark : is_present valid table ≡ true = marked table h ∙ e in
        let number : ℕ = slice_index rows table in
        let at : ℕ = count_place start valid table in
        let place : start + 24 + length (pieces (count_bytes rows) table) ≡ at = ap (λ n. start + 24 + n) (length-counts rows table (omega arith)) in
        let here : Stands image at (count_bytes rows table) = subst (λ (n : ℕ). Stands image n (count_bytes rows table)) place (piece_stands image (start + 24) (count_bytes rows) 45 table s h) in
        let word : count_bytes rows table ≡ u32 number = rw e refl in
        let there : Stands image at (u32 number) = subst (λ (xs : List ℕ). Stands image at xs) word here in
        let value : le image at 4 ≡ number = le_u32 image at number there small in
        let long = length-u32 number in
        let inside : at + 4 ≤ length image = (let w = stands_within image at (u32 number) there (omega arith) in omega arith) in
        let fits : nat_le (at + 4) (length image) ≡ true = le-leb (at + 4) (length image) inside in
        rw (mark, fits, value) refl

-- later tables begin later
pub table_start_up : (start heap_sizes : ℕ) (rows : List ℕ) (table later : ℕ) → table ≤ later → table_start start valid heap_sizes rows table ≤ table_start start valid heap_sizes rows later
unfolding table_start
table_start_up start heap_sizes rows table zero h = (let same : table ≡ zero = omega arith in rw same (omega arith))
table_start_up start heap_sizes rows table (suc later) h =
    elim (cases_lt later table) [
      | inl l ↦ (let same : table ≡ suc later = omega arith in rw same (omega arith))
      | inr g ↦ (let before = table_start_up start heap_sizes rows table later g in omega arith)
    ]

-- a table's place is as far from the first as in any other stream
pub table_start_from : (start heap_sizes : ℕ) (rows : List ℕ) (table : ℕ) → table_start start valid heap_sizes rows table ≡ start + table_start 0 valid heap_sizes rows table
unfolding table_start
table_start_from start heap_sizes rows zero = omega arith
table_start_from start heap_sizes rows (suc table) =
    let before = table_start_from start heap_sizes rows table in
    omega arith

-- the layout of a stream that begins at a place
abbrev pub layout_from : ℕ → ℕ → List ℕ → Layout
layout_from start heap_sizes rows = record {
  heap_sizes = heap_sizes;
  rows = rows;
  starts = map (table_start start valid heap_sizes rows) (range_with_len 0 45);
}

header_reads : (image : List ℕ) (start : ℕ) → le image (start + 8) 8 ≡ valid → start + 24 ≤ length image → header image start ≡ Ok 0
unfolding each columns
header_reads image start e h =
    let a : nat_le (start + 24) (length image) ≡ true = le-leb (start + 24) (length image) h in
    rw (a, e) refl

starts_read : (image : List ℕ) (start heap_sizes : ℕ) (rows : List ℕ) → table_start start valid heap_sizes rows 45 ≤ length image → listed (start_of image start valid heap_sizes rows) 45 ≡ Ok (map (table_start start valid heap_sizes rows) (range_with_len 0 45))
starts_read image start heap_sizes rows h =
    listed_from (start_of image start valid heap_sizes rows) (table_start start valid heap_sizes rows) 45 (λ table l.
    let up = table_start_up start heap_sizes rows (suc table) 45 (omega arith) in
    let a : nat_le (table_start start valid heap_sizes rows (suc table)) (length image) ≡ true = le-leb (table_start start valid heap_sizes rows (suc table)) (length image) (omega arith) in
    rw a refl)

rows_read : (image : List ℕ) (start : ℕ) (rows : List ℕ) → Stands image (start + 24) (pieces (count_bytes rows) 45) → length rows ≡ 45 → ((table : ℕ) → table < 45 → (is_table table ≡ false → slice_index rows table ≡ 0) × (slice_index rows table < 2 ^ 32)) → listed (row_count image start valid) 45 ≡ Ok rows
rows_read image start rows s count known =
    listed_from (row_count image start valid) (slice_index rows) 45 (λ table l. count_reads image start rows table s l (known table l).0 (known table l).1)
    ∙ ap Ok (sym (fill_by_all (slice_index rows) rows 45 0 count (λ k _. refl)))

valid_reads : (image : List ℕ) (start heap_sizes : ℕ) → Stands image start (tables_header heap_sizes) → le image (start + 8) 8 ≡ valid
unfolding tables_header u32 u64 le
valid_reads image start heap_sizes s = le_inside image start 8 (start + 8) 8 (tables_header heap_sizes) s refl

heap_sizes_read : (image : List ℕ) (start heap_sizes : ℕ) → Stands image start (tables_header heap_sizes) → heap_sizes < 256 → le image (start + 6) 1 ≡ heap_sizes
unfolding tables_header u32 u64 le
heap_sizes_read image start heap_sizes s small = le_inside image start 6 (start + 6) 1 (tables_header heap_sizes) s refl ∙ (omega arith)

pub layout_reads : (image : List ℕ) (start heap_sizes : ℕ) (rows : List ℕ) → Stands image start (tables_header heap_sizes ++ pieces (count_bytes rows) 45) → heap_sizes < 256 → length rows ≡ 45 → ((table : ℕ) → table < 45 → (is_table table ≡ false → slice_index rows table ≡ 0) × (slice_index rows table < 2 ^ 32)) → start + 24 ≤ length image → table_start start valid heap_sizes rows 45 ≤ length image → layout image start ≡ Ok (layout_from start heap_sizes rows)
unfolding layout
layout_reads image start heap_sizes rows s small count known front within =
    let head : Stands image start (tables_header heap_sizes) = stands_front image start (tables_header heap_sizes) (pieces (count_bytes rows) 45) s in
    let counts : Stands image (start + 24) (pieces (count_bytes rows) 45) = stands_back image start (start + 24) (tables_header heap_sizes) (pieces (count_bytes rows) 45) s (ap (λ n. start + n) (length-tables_header heap_sizes)) in
    let marks : le image (start + 8) 8 ≡ valid = valid_reads image start heap_sizes head in
    let widths : le image (start + 6) 1 ≡ heap_sizes = heap_sizes_read image start heap_sizes head small in
    bind_read (header image start) _ 0 (header_reads image start marks front)
    ∙ rw (marks, widths) (bind_read (listed (row_count image start valid) 45) _ rows (rows_read image start rows counts count known) ∙ bind_read (listed (start_of image start valid heap_sizes rows) 45) _ _ (starts_read image start heap_sizes rows within))
