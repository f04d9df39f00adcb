-- The tables of a stream lie one after another.
use Rattle.std.proofs.Common.{◌≡◌, ℕ, zero, suc, ◌+◌, ◌<◌, ◌≤◌, List, length, Ok, refl, sym, ap, ◌∙◌, subst, inl, inr, arith}
use Rattle.std.specs.Prelude.{nat_le, slice_index}
use Rattle.std.proofs.lemmas.Bool.{cases_lt, leb-true}
use Rattle.byte_view.specs.Numbers.{le}
use Rattle.byte_view.specs.Reading.{must, listed}
use Rattle.byte_view.specs.Parts as parts
use Rattle.byte_view.specs.Columns.{table_numbers}
use Rattle.byte_view.specs.Layout.{header, Layout, count_place, row_count, table_start, start_of, layout}
use Rattle.byte_view.specs.Laws.{table_end, TablesOfStreamLieApart}
use Rattle.byte_view.proofs.Reading.{bind_then, same_read, must_ok, chosen_ok, listed_at}

-- what a table's start says: its rows end in the stream
start_of_ok : (image : List ℕ) (start valid heap_sizes : ℕ) (rows : List ℕ) (table at : ℕ) → start_of image start valid heap_sizes rows table ≡ Ok at → (table_start start valid heap_sizes rows (suc table) ≤ length image) × (table_start start valid heap_sizes rows table ≡ at)
start_of_ok image start valid heap_sizes rows table at e =
    let chosen = chosen_ok (nat_le (table_start start valid heap_sizes rows (suc table)) (length image)) (table_start start valid heap_sizes rows table) at (parts.tables, count_place start valid table) e in
    (leb-true _ _ chosen.0, chosen.1)

-- the parts of a stream that is laid out
pub record LaidOut (image : List ℕ) (start : ℕ) (l : Layout) : Type 0 where
  pub header : start + 24 ≤ length image
  pub heap_sizes : le image (start + 6) 1 ≡ l.heap_sizes
  pub rows : listed (row_count image start (le image (start + 8) 8)) table_numbers ≡ Ok l.rows
  pub starts : listed (start_of image start (le image (start + 8) 8) l.heap_sizes l.rows) table_numbers ≡ Ok l.starts

header_there : (image : List ℕ) (start x : ℕ) → header image start ≡ Ok x → start + 24 ≤ length image
header_there image start x e =
    bind_then (must (nat_le (start + 24) (length image)) (parts.tables, start)) _ x e
    (λ passed here _. leb-true (start + 24) (length image) (must_ok _ (parts.tables, start) passed here))

pub laid_out : (image : List ℕ) (start : ℕ) (l : Layout) → layout image start ≡ Ok l → LaidOut image start l
unfolding layout
laid_out image start l e =
    let heap_sizes : ℕ = le image (start + 6) 1 in
    let valid : ℕ = le image (start + 8) 8 in
    bind_then (header image start) _ l e (λ known asked e2.
    bind_then (listed (row_count image start valid) table_numbers) _ l e2 (λ rows rows_read e3.
    bind_then (listed (start_of image start valid heap_sizes rows) table_numbers) _ l e3 (λ starts starts_read e4.
    subst (λ (l : Layout). LaidOut image start l)
    (same_read (record { heap_sizes = heap_sizes; rows = rows; starts = starts }) l e4)
    (record {
      header = header_there image start known asked;
      heap_sizes = refl;
      rows = rows_read;
      starts = starts_read;
    }))))

-- a table's start and end, by the start that was read
pub start_at : (image : List ℕ) (start : ℕ) (l : Layout) → LaidOut image start l → (table : ℕ) → table < table_numbers → (table_start start (le image (start + 8) 8) l.heap_sizes l.rows (suc table) ≤ length image) × (table_start start (le image (start + 8) 8) l.heap_sizes l.rows table ≡ slice_index l.starts table)
start_at image start l laid table h =
    let read : start_of image start (le image (start + 8) 8) l.heap_sizes l.rows table ≡ Ok (slice_index l.starts table) =
    listed_at (start_of image start (le image (start + 8) 8) l.heap_sizes l.rows) table_numbers l.starts laid.starts table 0 h in
    start_of_ok image start (le image (start + 8) 8) l.heap_sizes l.rows table (slice_index l.starts table) read

-- where a table ends, by the places of the tables
pub ends_at : (image : List ℕ) (start : ℕ) (l : Layout) → LaidOut image start l → (table : ℕ) → table < table_numbers → table_start start (le image (start + 8) 8) l.heap_sizes l.rows (suc table) ≡ table_end l table
unfolding table_start
ends_at image start l laid table h =
    let here = start_at image start l laid table h in
    rw here.1 refl

apart_from : (l : Layout) → ((table : ℕ) → table + 1 < table_numbers → slice_index l.starts (table + 1) ≡ table_end l table) → (table later : ℕ) → table < later → later < table_numbers → table_end l table ≤ slice_index l.starts later
apart_from l follow table zero h within = absurd (omega arith)
apart_from l follow table (suc later) h within =
    let next : slice_index l.starts (later + 1) ≡ table_end l later = follow later (omega arith) in
    let same : suc later ≡ later + 1 = omega arith in
    elim (cases_lt table later) [
      | inl b ↦ (let before : table_end l table ≤ slice_index l.starts later = apart_from l follow table later b (omega arith) in
          rw same (rw next (omega arith)))
      | inr g ↦ (let here : later ≡ table = omega arith in
          rw same (rw (next, here) (omega arith)))
    ]

pub tables_lie_apart : TablesOfStreamLieApart
unfolding table_start
tables_lie_apart image start l e =
    let laid = laid_out image start l e in
    let valid : ℕ = le image (start + 8) 8 in
    let follow : (table : ℕ) → table + 1 < table_numbers → slice_index l.starts (table + 1) ≡ table_end l table =
    λ table h.
    let next = start_at image start l laid (table + 1) h in
    let same : table + 1 ≡ suc table = omega arith in
    sym next.1 ∙ ap (table_start start valid l.heap_sizes l.rows) same ∙ ends_at image start l laid table (omega arith) in
    record {
      after_header = let first = start_at image start l laid 0 (omega arith) in
          rw (← first.1) (omega arith);
      follow = follow;
      apart = apart_from l follow;
      within = λ table h.
          let here = start_at image start l laid table h in
          rw (← ends_at image start l laid table h) here.0;
    }
