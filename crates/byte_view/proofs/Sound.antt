-- The cells of the checked tables of a file that is read.
use Rattle.std.proofs.Common.{◌≡◌, ℕ, ◌+◌, ◌*◌, ◌/◌, ◌%◌, ◌^◌, ◌<◌, ◌≤◌, true, ◌||◌, ◌&&◌, ◌⊎◌, List, [], ◌∷◌, length, take, Option, Some, None, Ok, refl, sym, ◌∙◌, subst, inl, inr, arith}
use Rattle.std.specs.Prelude.{nat_le, nat_lt, ◌==◌, slice_index, slice_get, Contains}
use Rattle.std.proofs.lemmas.Bool.{ltb-true, leb-true, eqb-true, or_cases, and_parts}
use Rattle.std.proofs.lemmas.Option.{slice_get_within}
use Rattle.std.proofs.lemmas.List.{get_or_default}
use Rattle.byte_view.specs.Reading.{must}
use Rattle.byte_view.specs.Parts as parts
use Rattle.byte_view.specs.Headers.{Headers, headers}
use Rattle.byte_view.specs.Streams.{Range, Streams, streams, heap_of}
use Rattle.byte_view.specs.Columns.{Column, Number, StringOffset, GuidNumber, BlobOffset, RowOf, RunOf, CodedRow, columns}
use Rattle.byte_view.specs.Layout.{Layout, layout}
use Rattle.byte_view.specs.Metadata.{Metadata, tables_in, cell_place}
use Rattle.byte_view.specs.Cells.{checked_tables, rows_in, is_row_of, is_sound, value_in, value_before, is_sound_in, check_row, check_table, check_cells}
use Rattle.byte_view.specs.Assembly.{metadata_in, assembly}
use Rattle.byte_view.specs.Laws.{CheckedCellsAreSound, NamesRow, MayHold, CheckedCellsNameWhatIsThere, ImportsAreSound, TypesHaveRuns}
use Rattle.byte_view.proofs.Reading.{bind_then, same_read, must_ok, each_ok}
use Rattle.byte_view.proofs.Images.{assembly_is}

-- the parts of an accepted file
pub record Accepted (bytes : List ℕ) (m : Metadata) : Type 0 where
  pub headers_of : Headers
  pub read : headers bytes ≡ Ok headers_of
  pub found : Range × Streams
  pub streams_read : streams (take (headers_of.meta_at + headers_of.meta_size) bytes) headers_of.meta_at ≡ Ok found
  pub laid : layout (take found.0.end (take (headers_of.meta_at + headers_of.meta_size) bytes)) found.0.start ≡ Ok m.layout
  pub rows : m.tables ≡ tables_in (take found.0.end (take (headers_of.meta_at + headers_of.meta_size) bytes)) m.layout
  pub answer : ℕ
  pub checked : check_cells m.layout m ≡ Ok answer

pub accepted : (bytes : List ℕ) (m : Metadata) → assembly bytes ≡ Ok m → Accepted bytes m
unfolding metadata_in
accepted bytes m e =
    bind_then (headers bytes) _ m (sym (assembly_is bytes) ∙ e) (λ h read e1.
    let image : List ℕ = take (h.meta_at + h.meta_size) bytes in
    bind_then (streams image h.meta_at) _ m e1 (λ found found_read e2.
    let stream : List ℕ = take found.0.end image in
    bind_then (layout stream found.0.start) _ m e2 (λ places laid e3.
    let made : Metadata = record {
      strings = heap_of image found.1.strings;
      user_strings = heap_of image found.1.user_strings;
      guids = heap_of image found.1.guids;
      blobs = heap_of image found.1.blobs;
      layout = places;
      tables = tables_in stream places;
    } in
    bind_then (check_cells places made) _ m e3 (λ n checked e4.
    subst (λ (m : Metadata). Accepted bytes m) (same_read made m e4) (record {
      headers_of = h;
      read = read;
      found = found;
      streams_read = found_read;
      laid = laid;
      rows = refl;
      answer = n;
      checked = checked;
    })))))

-- a cell that was tested
pub cell_passes : (l : Layout) (m : Metadata) (table row column answer : ℕ) → check_table l m table ≡ Ok answer → row < rows_in m table → column < length (columns table) → is_sound_in m (slice_get (columns table) column) (value_before m table row column) (value_in m table row column) ≡ true
unfolding check_row check_table
cell_passes l m table row column answer e within_rows within_columns =
    let rows = each_ok (check_row l m table) (rows_in m table) answer e row within_rows in
    let cells = each_ok (λ column. must (is_sound_in m (slice_get (columns table) column) (value_before m table row column) (value_in m table row column)) (parts.cell, cell_place l table row column)) (length (columns table)) rows.0 rows.1 column within_columns in
    must_ok _ (parts.cell, cell_place l table row column) cells.0 cells.1

-- a table that was tested
pub table_passes : (l : Layout) (m : Metadata) (answer table : ℕ) → check_cells l m ≡ Ok answer → Contains checked_tables table → (z : ℕ) × (check_table l m table ≡ Ok z)
unfolding check_cells
table_passes l m answer table e among =
    let here = each_ok (λ k. check_table l m (slice_index checked_tables k)) (length checked_tables) answer e among.0 among.1 in
    let same : slice_index checked_tables among.0 ≡ table = get_or_default checked_tables among.0 0 table among.1 ∙ among.2 in
    (here.0, rw same at here.1)

pub checked_cells_are_sound : CheckedCellsAreSound
checked_cells_are_sound bytes m e table row column among within_rows within_columns =
    let a = accepted bytes m e in
    let tested = table_passes m.layout m a.answer table a.checked among in
    cell_passes m.layout m table row column tested.0 tested.1 within_rows within_columns

-- what the test of a column says
names_row : (m : Metadata) (tag : Option (Option ℕ)) (row : ℕ) → is_row_of m tag row ≡ true → NamesRow m tag row
names_row m None row e = absurd (cc)
names_row m (Some None) row e = absurd (cc)
names_row m (Some (Some table)) row e =
    let both = and_parts (nat_le 1 row) (nat_le row (rows_in m table)) e in
    (leb-true 1 row both.0, leb-true row (rows_in m table) both.1)

offset_within : (value size : ℕ) → (value == 0 || nat_lt value size) ≡ true → (value ≡ 0) ⊎ (value < size)
offset_within value size e =
    elim (or_cases (value == 0) (nat_lt value size) e) [
      | inl z ↦ inl (eqb-true value 0 z)
      | inr l ↦ inr (ltb-true value size l)
    ]

may_hold : (m : Metadata) (kind : Column) (before value : ℕ) → is_sound m kind before value ≡ true → MayHold m kind before value
unfolding is_sound
may_hold m (Number n) before value e = tt
may_hold m StringOffset before value e = offset_within value (length m.strings) e
may_hold m GuidNumber before value e = leb-true (16 * value) (length m.guids) e
may_hold m BlobOffset before value e = offset_within value (length m.blobs) e
may_hold m (RowOf table) before value e = leb-true value (rows_in m table) e
may_hold m (RunOf table) before value e =
    let both = and_parts (nat_le 1 value && nat_le value (rows_in m table + 1)) (nat_le before value) e in
    let within = and_parts (nat_le 1 value) (nat_le value (rows_in m table + 1)) both.0 in
    (leb-true 1 value within.0, leb-true value (rows_in m table + 1) within.1, leb-true before value both.1)
may_hold m (CodedRow tag_bits tables) before value e =
    elim (or_cases (value == 0) (is_row_of m (slice_get tables (value % 2 ^ tag_bits)) (value / 2 ^ tag_bits)) e) [
      | inl z ↦ inl (eqb-true value 0 z)
      | inr l ↦ inr (names_row m (slice_get tables (value % 2 ^ tag_bits)) (value / 2 ^ tag_bits) l)
    ]

pub checked_cells_name_what_is_there : CheckedCellsNameWhatIsThere
checked_cells_name_what_is_there bytes m e table row column kind among within_rows here =
    let sound = checked_cells_are_sound bytes m e table row column among within_rows (slice_get_within (columns table) column kind here) in
    may_hold m kind (value_before m table row column) (value_in m table row column) (rw here at sound)

-- the member of an import, by its tag
member_of : (m : Metadata) (value tag : ℕ) → (value ≡ 0) ⊎ NamesRow m (slice_get (Some 0x04 ∷ Some 0x06 ∷ []) (value % 2)) (value / 2) → value % 2 ≡ tag → (value ≡ 0) ⊎ NamesRow m (slice_get (Some 0x04 ∷ Some 0x06 ∷ []) tag) (value / 2)
member_of m value tag (inl none) e = inl none
member_of m value tag (inr names) e =
    inr (subst (λ (tag : ℕ). NamesRow m (slice_get (Some 0x04 ∷ Some 0x06 ∷ []) tag) (value / 2)) e names)

member_is_field : (m : Metadata) (value : ℕ) → (value ≡ 0) ⊎ NamesRow m (Some (Some 0x04)) (value / 2) → value / 2 ≤ rows_in m 0x04
member_is_field m value (inl none) = omega arith
member_is_field m value (inr names) = names.1

member_is_method : (m : Metadata) (value : ℕ) → (value ≡ 0) ⊎ NamesRow m (Some (Some 0x06)) (value / 2) → value % 2 ≡ 1 → (1 ≤ value / 2) × (value / 2 ≤ rows_in m 0x06)
member_is_method m value (inl none) odd = absurd (omega arith)
member_is_method m value (inr names) odd = names

pub imports_are_sound : ImportsAreSound
unfolding columns
imports_are_sound bytes m e row h =
    let cell = λ (column : ℕ) (kind : Column) (here : slice_get (columns 0x1C) column ≡ Some kind). checked_cells_name_what_is_there bytes m e 0x1C row column kind (15, (omega arith), refl) h here in
    let scope : value_in m 0x1C row 3 ≤ rows_in m 0x1A = cell 3 (RowOf 0x1A) refl in
    let member = cell 1 (CodedRow 1 (Some 0x04 ∷ Some 0x06 ∷ [])) refl in
    record {
      scope = scope;
      name = cell 2 StringOffset refl;
      field = λ even. member_is_field m (value_in m 0x1C row 1) (member_of m (value_in m 0x1C row 1) 0 member even);
      method = λ odd. member_is_method m (value_in m 0x1C row 1) (member_of m (value_in m 0x1C row 1) 1 member odd) odd;
    }

pub types_have_runs : TypesHaveRuns
unfolding columns
types_have_runs bytes m e row h =
    let fields = checked_cells_name_what_is_there bytes m e 0x02 row 4 (RunOf 0x04) (2, (omega arith), refl) h refl in
    let methods = checked_cells_name_what_is_there bytes m e 0x02 row 5 (RunOf 0x06) (2, (omega arith), refl) h refl in
    record {
      fields = (fields.0, fields.1);
      methods = (methods.0, methods.1);
      fields_rise = fields.2;
      methods_rise = methods.2;
    }
