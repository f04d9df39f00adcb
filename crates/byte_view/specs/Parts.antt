-- The parts of an image, each by its place in the reading order, from 0.
use Rattle.std.specs.Prelude.{ℕ, List, [], ◌∷◌}

abbrev pub mz : ℕ
mz = 0

abbrev pub pe_offset : ℕ
pe_offset = 1

abbrev pub pe_signature : ℕ
pe_signature = 2

abbrev pub coff_header : ℕ
coff_header = 3

abbrev pub optional_header : ℕ
optional_header = 4

abbrev pub directories : ℕ
directories = 5

abbrev pub sections : ℕ
sections = 6

abbrev pub cli_header : ℕ
cli_header = 7

abbrev pub cli_flags : ℕ
cli_flags = 8

abbrev pub metadata_root : ℕ
metadata_root = 9

abbrev pub streams : ℕ
streams = 10

abbrev pub tables : ℕ
tables = 11

abbrev pub cell : ℕ
cell = 12

abbrev pub types : ℕ
types = 13

abbrev pub entry_point : ℕ
entry_point = 14

abbrev pub reading_order : List ℕ
reading_order =
    mz
    ∷ pe_offset
    ∷ pe_signature
    ∷ coff_header
    ∷ optional_header
    ∷ directories
    ∷ sections
    ∷ cli_header
    ∷ cli_flags
    ∷ metadata_root
    ∷ streams
    ∷ tables
    ∷ cell
    ∷ types
    ∷ entry_point
    ∷ []
