-- Laws of the line grammar, in its subject's own words.
use Rattle.std.specs.Prelude.{◌≡◌, ◌≢◌, ℕ, ◌<◌, ◌≤◌, ◌^◌, true, not, List, ◌∷◌, ◌++◌, length, drop, slice_index, codes, IfSome}
use Rattle.std.specs.List.{list_all}
use Rattle.host_run.specs.Grammar.{command, is_end, fits_program}
use Rattle.host_run.specs.declared.command.Command.{Command}
use Rattle.host_run.specs.declared.command.Command.TheVariants.{Imports, Stubs, Native, Run, Drill}

-- the word isn't empty and doesn't begin with `-`
abbrev pub IsFileName : List ℕ → Type 0
IsFileName word = (0 < length word) × (slice_index word 0 ≢ 45)

-- the bounds of a command's parts, and of the words that ask for it: those of a program, which
-- stand after the first `before`, fit
abbrev pub KeepsBounds : List (List ℕ) → Command → Type 0
KeepsBounds words (Imports file) = IsFileName file
KeepsBounds words (Stubs file) = IsFileName file
KeepsBounds words (Native lib symbol numbers) =
    IsFileName lib × (0 < length symbol) × (length numbers ≤ 8)
KeepsBounds words (Run run) =
    IsFileName run.file × (run.fuel ≤ 100000000) × (fits_program (drop run.before words) ≡ true)
KeepsBounds words (Drill number) = number < 2 ^ 32

-- whatever the words are, a command that they ask for keeps its bounds
abbrev pub CommandsKeepBounds : Type 0
CommandsKeepBounds = (words : List (List ℕ)) → IfSome (command words) (KeepsBounds words)

-- what stands after the first `--` is the program's alone: other words there, within the bounds,
-- leave the command as it is
abbrev pub ProgramWordsAreFree : Type 0
ProgramWordsAreFree =
    (own first second : List (List ℕ)) → list_all (λ word. not (is_end word)) own ≡ true
    → fits_program first ≡ true → fits_program second ≡ true
    → command (codes "run" ∷ (own ++ codes "--" ∷ first))
    ≡ command (codes "run" ∷ (own ++ codes "--" ∷ second))
