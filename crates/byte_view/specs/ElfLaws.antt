-- What holds of each library that is read, in the words of the format.
use Rattle.std.specs.Prelude.{◌≡◌, ◌<◌, ◌≤◌, ℕ, ◌+◌, ◌*◌, ◌^◌, List, length, take, drop, slice_get, Contains, Some, Ok, IsErr}
use Rattle.byte_view.specs.Numbers.{le}
use Rattle.byte_view.specs.ElfLoads.{Load, end_of, program_headers, loads}
use Rattle.byte_view.specs.ElfDynamic.{dynamic_header}
use Rattle.byte_view.specs.Library.{Library, library}

-- The loads of a library: each has its bytes in the file and is at least as large in memory; each
-- ends below 2^32, and before any later one begins, so that no two share a byte.
pub record LoadsLieApart (bytes : List ℕ) (loads : List Load) : Type 0 where
  pub in_file : (load : Load) → Contains loads load → load.file_at + load.file_size ≤ length bytes
  pub sizes : (load : Load) → Contains loads load → load.file_size ≤ load.size
  pub low : (load : Load) → Contains loads load → end_of load < 2 ^ 32
  pub apart : (k later : ℕ) (one other : Load) → k < later → slice_get loads k ≡ Some one
      → slice_get loads later ≡ Some other → end_of one ≤ other.vaddr

abbrev pub LoadsOfLibrariesLieApart : Type 0
LoadsOfLibrariesLieApart =
    (bytes : List ℕ) (l : Library) → library bytes ≡ Ok l → LoadsLieApart bytes l.loads

-- a library that is cut before the end of the bytes of a load isn't accepted
abbrev pub CutLibrariesAreRefused : Type 0
CutLibrariesAreRefused =
    (bytes : List ℕ) (l : Library) (load : Load) (n : ℕ)
    → library bytes ≡ Ok l
    → Contains l.loads load
    → n < load.file_at + load.file_size
    → IsErr (library (take n bytes))

-- two files have the same bytes in a range
abbrev pub SameIn : List ℕ → List ℕ → ℕ → ℕ → Type 0
SameIn a b at size = take size (drop at a) ≡ take size (drop at b)

-- Files of one length with the same bytes in the ELF header, in the program headers, in the dynamic
-- section and in the loads. Where these lie is told by the first.
pub record DifferOutside (a b : List ℕ) (start count : ℕ) (all : List Load) : Type 0 where
  pub headers : program_headers a ≡ Ok (start, count)
  pub read : loads a start count ≡ Ok all
  pub size : length a ≡ length b
  pub elf_header : SameIn a b 0 64
  pub program_headers : SameIn a b start (56 * count)
  pub dynamic : (at : ℕ) → dynamic_header a start count ≡ Ok at
      → SameIn a b (le a (at + 8) 8) (le a (at + 32) 8)
  pub loads : (load : Load) → Contains all load → SameIn a b load.file_at load.file_size

-- what stands outside these, as sections do, changes nothing
abbrev pub OutsideIsNotRead : Type 0
OutsideIsNotRead =
    (a b : List ℕ) (start count : ℕ) (all : List Load)
    → DifferOutside a b start count all → library a ≡ library b
