-- Values that are read from blobs: rows that name one blob share its value.
use Rattle.std.specs.Prelude.{◌≡◌, ◌≢◌, ℕ, ◌-◌, List, map, slice_get, slice_index, slice_index_or, Option, Some, None}

-- the value of each row, by its place among the values
abbrev pub pooled : {A : Type 0} → List ℕ → List (Option A) → List (Option A)
pooled places values = map (λ place. slice_index_or values place None) places

-- each row's place is that of the offset that it names
abbrev pub IsShared : List (List ℕ) → ℕ → List ℕ → List ℕ → Type 0
IsShared rows column places offsets =
    map (slice_get offsets) places ≡ map (λ numbers. Some (slice_index numbers column)) rows

-- a table says of offsets where they stand, counted from 1; 0 says nothing
abbrev pub Knows : List ℕ → List ℕ → Type 0
Knows known offsets =
    (at : ℕ) → slice_index known at ≢ 0 → slice_get offsets (slice_index known at - 1) ≡ Some at

-- what stands at a place stays there
abbrev pub Keeps : List ℕ → List ℕ → Type 0
Keeps old new = (place at : ℕ) → slice_get old place ≡ Some at → slice_get new place ≡ Some at
