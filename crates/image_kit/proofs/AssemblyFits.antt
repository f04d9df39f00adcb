-- What is known of a plan of an assembly that fits.
use Rattle.std.proofs.Common.{◌≡◌, ℕ, zero, suc, ◌+◌, ◌^◌, ◌<◌, ◌≤◌, ◌≢◌, Bool, true, false, cond, ◌⊎◌, List, [], ◌∷◌, length, get_or, set, map, slice_get, Option, Some, None, Ok, refl, sym, ap, ◌∙◌, subst, inl, inr, arith}
use Rattle.std.specs.Prelude.{◌==◌, slice_index, unwrap_or}
use Rattle.std.specs.List.{range_with_len}
use Rattle.std.proofs.lemmas.Bool.{cases_lt, leb-true, eqb-true}
use Rattle.std.proofs.lemmas.List.{length-set, get_or-set_same, get_or-set_other, get_or_past, get_or-replicate}
use Rattle.std.proofs.lemmas.List.Sums.{sum_by-cons, AllPass-from_list_all}
use Rattle.std.proofs.lemmas.List.FromFn.{get_or-map-range_with_len, length-map-range_with_len}
use Rattle.byte_view.specs.Parts as parts
use Rattle.byte_view.specs.Columns.{Column, Number, StringOffset, GuidNumber, BlobOffset, RowOf, RunOf, CodedRow, columns, width, is_table}
use Rattle.byte_view.specs.Layout.{Layout}
use Rattle.byte_view.specs.Metadata.{Metadata, table_of, cell_place}
use Rattle.byte_view.specs.Cells.{checked_tables, rows_in, is_row_of, is_sound, is_sound_in, value_in, value_before, check_row, check_table, check_cells}
use Rattle.byte_view.proofs.Reading.{each_from, must_pass}
use Rattle.meta_tables.specs.Cells.{is_row_by, sound_by, sound_in}
use Rattle.meta_tables.proofs.Tables.{columns_few}
use Rattle.meta_tables.proofs.Checked.{is_checked}
use Rattle.image_kit.specs.declared.assembly_plan.MethodBody.{MethodBody}
use Rattle.image_kit.specs.declared.assembly_plan.AssemblyPlan.{AssemblyPlan}
use Rattle.image_kit.specs.AssemblyFile.{rows_among, row_count, row_counts, widths, planned_row, bodies_rva, body_rva, bodies_size, padded_size, written_row}
use Rattle.image_kit.specs.AssemblyReads.{has_few_rows, fits_columns, fits_table, sizes, row_before, is_sound_row, is_sound_table, Fits, planned_metadata, written_rows}
use Rattle.image_kit.proofs.PieceLists.{all_below_at}
use Rattle.image_kit.proofs.AssemblyLayout.{none_outside}
use Rattle.image_kit.proofs.AssemblyRows.{IsFit, fit_by_test, RowsFit, count_at}

-- an address of a body is a number of four bytes
rva_small : (at : ℕ) (bodies : List MethodBody) (method other : ℕ) → at + bodies_size bodies < 2 ^ 32 → other < 2 ^ 32 → unwrap_or (body_rva at bodies method) other < 2 ^ 32
unfolding body_rva
rva_small at [] method other h o = o
rva_small at (body ∷ more) method other h o =
    let size : bodies_size (body ∷ more) ≡ padded_size body.bytes + bodies_size more = sum_by-cons (λ (body : MethodBody). padded_size body.bytes) body more in
    by (body.method == method) (omega arith) (rva_small (at + padded_size body.bytes) more method other (omega arith) o)
  where
    by : (same : Bool) → at < 2 ^ 32 → unwrap_or (body_rva (at + padded_size body.bytes) more method) other < 2 ^ 32 → unwrap_or (cond same (Some at) (body_rva (at + padded_size body.bytes) more method)) other < 2 ^ 32
    by true here rest = here
    by false here rest = rest

-- a row as it is written: the plan's, or the plan's with another first number, in MethodDef
pub written_by : (plan : AssemblyPlan) (table row : ℕ) (method : Bool) → (table == 6) ≡ method → written_row plan table row ≡ cond method (set (planned_row plan table row) 0 (unwrap_or (body_rva bodies_rva plan.bodies (row + 1)) (slice_index (planned_row plan table row) 0))) (planned_row plan table row)
unfolding written_row
written_by plan table row method e = rw e refl

first_width : (plan : AssemblyPlan) → slice_index (widths plan 6) 0 ≡ 4
unfolding columns width
first_width plan = refl

pub planned_fits : (plan : AssemblyPlan) → Fits plan → (table row : ℕ) → table < 45 → row < row_count plan table → IsFit (widths plan table) (planned_row plan table row)
planned_fits plan fits table row h within =
    let numbers : fits_table plan table ≡ true = all_below_at (fits_table plan) 45 table fits.numbers h in
    fit_by_test (widths plan table) (planned_row plan table row) (AllPass-from_list_all (fits_columns (widths plan table)) (rows_among plan.tables table) numbers row [] within)

pub rows_fit : (plan : AssemblyPlan) → Fits plan → RowsFit plan
rows_fit plan fits table row h within = by (table == 6) refl
  where
    cells : List ℕ
    cells = planned_row plan table row

    address : ℕ
    address = unwrap_or (body_rva bodies_rva plan.bodies (row + 1)) (slice_index cells 0)

    by : (method : Bool) → (table == 6) ≡ method → IsFit (widths plan table) (written_row plan table row)
    by false e = subst (IsFit (widths plan table)) (sym (written_by plan table row false e)) (planned_fits plan fits table row h within)
    by true e =
        let plain = planned_fits plan fits table row h within in
        let nine = plain.nine in
        let same : table ≡ 6 = eqb-true table 6 e in
        let four : slice_index (widths plan table) 0 ≡ 4 = rw same (first_width plan) in
        let first : slice_index cells 0 < 2 ^ 32 = (let small = plain.small 0 (omega arith) in rw four at small) in
        let limit = fits.small in
        let small : address < 2 ^ 32 = rva_small bodies_rva plan.bodies (row + 1) (slice_index cells 0) (omega arith) first in
        subst (IsFit (widths plan table)) (sym (written_by plan table row true e)) (record {
          nine = length-set cells 0 address ∙ nine;
          small = λ column l. at column l four small plain nine;
        })
      where
        at : (column : ℕ) → column < 9 → slice_index (widths plan table) 0 ≡ 4 → address < 2 ^ 32 → IsFit (widths plan table) cells → length cells ≡ 9 → slice_index (set cells 0 address) column < 256 ^ slice_index (widths plan table) column
        at zero l four small plain nine =
            let here : slice_index (set cells 0 address) 0 ≡ address = get_or-set_same cells 0 address 0 (omega arith) in
            rw (here, four) small
        at (suc column) l four small plain nine =
            let other : suc column ≢ 0 = λ e. absurd (omega (arith, e)) in
            let here : slice_index (set cells 0 address) (suc column) ≡ slice_index cells (suc column) = get_or-set_other cells 0 (suc column) address 0 other in
            rw here (plain.small (suc column) l)

-- a row count is 0 outside the metadata tables, and a number of four bytes
pub counts_known : (plan : AssemblyPlan) → Fits plan → (table : ℕ) → table < 45 → (is_table table ≡ false → slice_index (row_counts plan) table ≡ 0) × (slice_index (row_counts plan) table < 2 ^ 32)
counts_known plan fits table h =
    let few : has_few_rows plan.tables table ≡ true = all_below_at (has_few_rows plan.tables) 45 table fits.few h in
    let small : row_count plan table ≤ 67108864 = leb-true (row_count plan table) 67108864 few in
    let same = count_at plan table h in
    (λ none. same ∙ ap length (none_outside plan.tables table fits.tables none), omega arith)

-- ---- cells

table_is : (plan : AssemblyPlan) (table : ℕ) → table < 45 → table_of (planned_metadata plan) table ≡ written_rows plan table
unfolding table_of
table_is plan table h = get_or-map-range_with_len (written_rows plan) 0 45 table table [] h (omega arith)

pub rows_in_is : (plan : AssemblyPlan) (table : ℕ) → slice_index (row_counts plan) table ≡ rows_in (planned_metadata plan) table
unfolding table_of
rows_in_is plan table =
    elim (cases_lt table 45) [
      | inl h ↦ count_at plan table h ∙ sym (length-map-range_with_len (written_row plan table) 0 (row_count plan table)) ∙ ap length (sym (get_or-map-range_with_len (written_rows plan) 0 45 table table [] h (omega arith)))
      | inr g ↦ (let a : slice_index (row_counts plan) table ≡ 0 = get_or_past (row_counts plan) table 0 g in
          let b : get_or (map (written_rows plan) (range_with_len 0 45)) table [] ≡ [] = get_or_past (map (written_rows plan) (range_with_len 0 45)) table [] g in
          a ∙ sym (ap length b))
    ]

is_row_is : (plan : AssemblyPlan) (table : Option (Option ℕ)) (row : ℕ) → is_row_by (row_counts plan) table row ≡ is_row_of (planned_metadata plan) table row
is_row_is plan None row = refl
is_row_is plan (Some None) row = refl
is_row_is plan (Some (Some table)) row = rw (rows_in_is plan table) refl

-- soundness by sizes is soundness in the metadata
sound_is : (plan : AssemblyPlan) (kind : Column) (before value : ℕ) → sound_by (sizes plan) kind before value ≡ is_sound (planned_metadata plan) kind before value
unfolding sound_by is_sound
sound_is plan (Number n) before value = refl
sound_is plan StringOffset before value = refl
sound_is plan GuidNumber before value = refl
sound_is plan BlobOffset before value = refl
sound_is plan (RowOf table) before value = rw (rows_in_is plan table) refl
sound_is plan (RunOf table) before value = rw (rows_in_is plan table) refl
sound_is plan (CodedRow tag_bits tables) before value = rw (is_row_is plan _ _) refl

sound_in_is : (plan : AssemblyPlan) (kind : Option Column) (before value : ℕ) → sound_in (sizes plan) kind before value ≡ is_sound_in (planned_metadata plan) kind before value
sound_in_is plan None before value = refl
sound_in_is plan (Some kind) before value = sound_is plan kind before value

-- a column is that of the addresses of methods, or holds the plan's numbers
pub column_is : (plan : AssemblyPlan) (table column : ℕ) → ((table ≡ 6) × (column ≡ 0)) ⊎ ((row : ℕ) → slice_index (written_row plan table row) column ≡ slice_index (planned_row plan table row) column)
column_is plan table column = by (table == 6) refl column
  where
    by : (method : Bool) → (table == 6) ≡ method → (column : ℕ) → ((table ≡ 6) × (column ≡ 0)) ⊎ ((row : ℕ) → slice_index (written_row plan table row) column ≡ slice_index (planned_row plan table row) column)
    by false e column = inr (λ row. ap (λ (cells : List ℕ). slice_index cells column) (written_by plan table row false e))
    by true e zero = inl (eqb-true table 6 e, refl)
    by true e (suc column) = inr (λ row.
        let other : suc column ≢ 0 = λ e. absurd (omega (arith, e)) in
        ap (λ (cells : List ℕ). slice_index cells (suc column)) (written_by plan table row true e) ∙ get_or-set_other (planned_row plan table row) 0 (suc column) _ 0 other)

pub value_is : (plan : AssemblyPlan) (table row column : ℕ) → table < 45 → row < row_count plan table → value_in (planned_metadata plan) table row column ≡ slice_index (written_row plan table row) column
value_is plan table row column h within =
    ap (λ (t : List (List ℕ)). slice_index (get_or t row []) column) (table_is plan table h)
    ∙ ap (λ (cells : List ℕ). slice_index cells column) (get_or-map-range_with_len (written_row plan table) 0 (row_count plan table) row row [] within (omega arith))

before_is : (plan : AssemblyPlan) (table row column : ℕ) → table < 45 → row < row_count plan table → column < 9 → ((row : ℕ) → slice_index (written_row plan table row) column ≡ slice_index (planned_row plan table row) column)
    → slice_index (row_before (rows_among plan.tables table) row) column ≡ value_before (planned_metadata plan) table row column
before_is plan table zero column h within few same = get_or-replicate 9 column 0 0 few
before_is plan table (suc row) column h within few same = sym (value_is plan table row column h (omega arith) ∙ same row)

sound_number : (plan : AssemblyPlan) (table column before value : ℕ) → table ≡ 6 → column ≡ 0 → is_sound_in (planned_metadata plan) (slice_get (columns table) column) before value ≡ true
unfolding columns is_sound
sound_number plan table column before value t c = rw (t, c) refl

cell_passes : (plan : AssemblyPlan) (table row column : ℕ) → table < 45 → row < row_count plan table → column < length (columns table) → is_sound_row (sizes plan) (columns table) (row_before (rows_among plan.tables table) row) (planned_row plan table row) ≡ true
    → is_sound_in (planned_metadata plan) (slice_get (columns table) column) (value_before (planned_metadata plan) table row column) (value_in (planned_metadata plan) table row column) ≡ true
cell_passes plan table row column h within here sound =
    let few = columns_few table in
    elim (column_is plan table column) [
      | inl method ↦ sound_number plan table column _ _ method.0 method.1
      | inr same ↦ (let test : sound_in (sizes plan) (slice_get (columns table) column) (slice_index (row_before (rows_among plan.tables table) row) column) (slice_index (planned_row plan table row) column) ≡ true =
          all_below_at (λ column. sound_in (sizes plan) (slice_get (columns table) column) (slice_index (row_before (rows_among plan.tables table) row) column) (slice_index (planned_row plan table row) column)) (length (columns table)) column sound here in
          let value : value_in (planned_metadata plan) table row column ≡ slice_index (planned_row plan table row) column = value_is plan table row column h within ∙ same row in
          let before = before_is plan table row column h within (omega arith) same in
          rw (value, ← before, ← (sound_in_is plan (slice_get (columns table) column) (slice_index (row_before (rows_among plan.tables table) row) column) (slice_index (planned_row plan table row) column))) test)
    ]

table_passes : (plan : AssemblyPlan) (l : Layout) (table : ℕ) → table < 45 → is_sound_table plan table ≡ true → (z : ℕ) × (check_table l (planned_metadata plan) table ≡ Ok z)
unfolding check_table check_row
table_passes plan l table h sound =
    let m : Metadata = planned_metadata plan in
    each_from (check_row l m table) (rows_in m table) (λ row within.
    let count : rows_in m table ≡ row_count plan table = sym (rows_in_is plan table) ∙ count_at plan table h in
    let inside : row < row_count plan table = omega arith in
    let row_sound : is_sound_row (sizes plan) (columns table) (row_before (rows_among plan.tables table) row) (planned_row plan table row) ≡ true =
    all_below_at (λ row. is_sound_row (sizes plan) (columns table) (row_before (rows_among plan.tables table) row) (planned_row plan table row)) (row_count plan table) row sound inside in
    each_from _ (length (columns table)) (λ column here. (0, must_pass _ (parts.cell, cell_place l table row column) (cell_passes plan table row column h inside here row_sound))))

pub cells_pass : (plan : AssemblyPlan) (l : Layout) → Fits plan → (z : ℕ) × (check_cells l (planned_metadata plan) ≡ Ok z)
unfolding check_cells
cells_pass plan l fits =
    each_from (λ k. check_table l (planned_metadata plan) (slice_index checked_tables k)) 19 (λ k h.
    let sound : is_sound_table plan (slice_index checked_tables k) ≡ true = AllPass-from_list_all (is_sound_table plan) checked_tables fits.cells k 0 h in
    table_passes plan l (slice_index checked_tables k) (is_checked k) sound)
