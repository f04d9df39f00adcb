-- Rows by the numbers in a column: which is the first that has a number, and how many have none
-- above it.
use Rattle.std.specs.Prelude.{◌≡◌, ℕ, ◌+◌, ◌==◌, nat_le, List, [], ◌∷◌, length, count_by, slice_index, slice_index_or, if◌then◌else◌}

-- the number of the first row that has a value in a column, if the rows are counted from n; 0 where
-- none has it
abbrev pub first_number : ℕ → ℕ → ℕ → List (List ℕ) → ℕ
first_number n column value [] = 0
first_number n column value (row ∷ rows) =
    if slice_index row column == value then n else first_number (n + 1) column value rows

abbrev pub TellsFirst : List (List ℕ) → ℕ → List ℕ → Type 0
TellsFirst rows column firsts =
    (value : ℕ) → slice_index firsts value ≡ first_number 1 column value rows

-- how many rows have a number in a column that isn't above a value
abbrev pub not_above : List (List ℕ) → ℕ → ℕ → ℕ
not_above rows column value = count_by (λ row. nat_le (slice_index row column) value) rows

-- past the end of the table are the values that no row is above
abbrev pub TellsNotAbove : List (List ℕ) → ℕ → List ℕ → Type 0
TellsNotAbove rows column counts =
    (value : ℕ) → slice_index_or counts value (length rows) ≡ not_above rows column value
