-- When reading words may want memory.
use Rattle.std.specs.Prelude.{ℕ, Bool, false, ◌&&◌, nat_lt, nat_le, is_some, if◌then◌else◌, List, [], ◌∷◌, length, codes, bytes_eq}
use Rattle.std.specs.List.{after_first}
use Rattle.host_run.specs.Grammar.{names_file, lone_file, is_end, fits_program}

-- a LIB, a SYMBOL and at most eight words, which are numbers or not
abbrev pub has_parts_of_call : List (List ℕ) → Bool
has_parts_of_call [] = false
has_parts_of_call (lib ∷ []) = false
has_parts_of_call (lib ∷ symbol ∷ arguments) =
    names_file lib && nat_lt 0 (length symbol) && nat_le (length arguments) 8

-- words of the line are kept: those of a FILE, of a call of `native`, or of a `run` whose program
-- fits
unfoldable pub keeps_words : List (List ℕ) → Bool
keeps_words [] = false
keeps_words (name ∷ rest) =
    if bytes_eq name (codes "imports") then is_some (lone_file rest)
    else if bytes_eq name (codes "stubs") then is_some (lone_file rest)
    else if bytes_eq name (codes "native") then has_parts_of_call rest
    else if bytes_eq name (codes "run") then fits_program (after_first is_end rest)
    else false
