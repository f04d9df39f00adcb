-- The line grammar: the command that a line's words ask for, and None exactly where they are
-- outside it.
use Rattle.std.specs.Prelude.{ℕ, ◌+◌, ◌-◌, ◌^◌, min, Bool, true, false, ◌&&◌, not, nat_eq, nat_lt, nat_le, ◌==◌, if◌then◌else◌, List, [], ◌∷◌, ◌++◌, map, length, drop, sum_by, codes, bytes_eq, string_bytes, String, Option, Some, None, unwrap_or, option_map, option_and_then, is_none}
use Rattle.std.specs.List.{starts_with, list_all, position_or_len, before_first, after_first}
use Rattle.std.specs.Char.{is_digit}
use Rattle.std.specs.Str.Parse.{digits_value}
use Rattle.std.specs.declared.alloc.Global.{Global}
use Rattle.host_run.specs.declared.command.Command.{Command}
use Rattle.host_run.specs.declared.command.Command.TheVariants.{Imports, Stubs, Native, Run, Drill}
use Rattle.host_run.specs.declared.options.Options.{Options}
use Rattle.host_run.specs.declared.options.Awaits.TheVariants.{Nothing, Lib, Fuel}

-- the words, each as its bytes
abbrev pub texts : List (String Global) → List (List ℕ)
texts words = map string_bytes words

-- ---- single words

-- the word may name a file: it isn't empty and doesn't begin with `-`, which is 45
abbrev pub names_file : List ℕ → Bool
names_file [] = false
names_file (first ∷ rest) = not (first == 45)

-- the number that one to `most` digits write in a base, where it is at most `greatest`
unfoldable pub number : ℕ → ℕ → ℕ → List ℕ → Option ℕ
number base most greatest digits =
    if nat_lt 0 (length digits) && nat_le (length digits) most
    && list_all (λ d. is_digit d base) digits && nat_le (digits_value base digits) greatest
    then Some (digits_value base digits) else None

-- what follows `start` in a word that begins with it
unfoldable pub after : List ℕ → List ℕ → Option (List ℕ)
after start word = if starts_with nat_eq word start then Some (drop (length start) word) else None

-- ---- `imports`, `stubs`, `drill`

abbrev pub lone_file : List (List ℕ) → Option (List ℕ)
lone_file (file ∷ []) = if names_file file then Some file else None
lone_file _ = None

-- a number of at most 32 bits, in decimal digits
abbrev pub drill : List (List ℕ) → Option Command
drill (digits ∷ []) = option_map Drill (number 10 20 (2 ^ 32 - 1) digits)
drill _ = None

-- ---- `native`

-- a number of at most 64 bits: hexadecimal digits after `0x`, or decimal digits
unfoldable pub word_value : List ℕ → Option ℕ
word_value word =
    elim (after (codes "0x") word) [
      | Some digits ↦ number 16 16 (2 ^ 64 - 1) digits
      | None ↦ number 10 20 (2 ^ 64 - 1) word
    ]

-- the numbers of all the words; None where one is no number
abbrev pub values : List (List ℕ) → Option (List ℕ)
values [] = Some []
values (word ∷ words) =
    option_and_then (λ value. option_map (λ others. value ∷ others) (values words))
    (word_value word)

abbrev pub native : List (List ℕ) → Option Command
native (lib ∷ symbol ∷ arguments) =
    if names_file lib && nat_lt 0 (length symbol) && nat_le (length arguments) 8
    then option_map (λ numbers. Native lib symbol numbers) (values arguments) else None
native _ = None

-- ---- `run`

-- before the first word
abbrev pub no_words : Options
no_words =
    record { file = None; libs = []; fuel = None; report = false; log = false; awaits = Nothing }

-- `--lib` may come again, and its order is kept
unfoldable pub with_lib : Options → List ℕ → Option Options
with_lib said lib =
    if nat_lt 0 (length lib)
    then Some (record said { libs = said.libs ++ lib ∷ []; awaits = Nothing }) else None

-- `--fuel` comes once, with a number of at most 100,000,000 in decimal digits
unfoldable pub with_fuel : Options → List ℕ → Option Options
with_fuel said digits =
    if is_none said.fuel
    then option_map (λ fuel. record said { fuel = Some fuel; awaits = Nothing })
    (number 10 20 100000000 digits) else None

-- `--report` comes once
unfoldable pub with_report : Options → Option Options
with_report said = if said.report then None else Some (record said { report = true })

-- `--log` comes once
unfoldable pub with_log : Options → Option Options
with_log said = if said.log then None else Some (record said { log = true })

-- FILE comes once
unfoldable pub with_file : Options → List ℕ → Option Options
with_file said file =
    if is_none said.file && names_file file
    then Some (record said { file = Some file }) else None

-- a word of which no option before it is in want
unfoldable pub with_option : Options → List ℕ → Option Options
with_option said word =
    if bytes_eq word (codes "--lib") then Some (record said { awaits = Lib })
    else if bytes_eq word (codes "--fuel") then Some (record said { awaits = Fuel })
    else if bytes_eq word (codes "--report") then with_report said
    else if bytes_eq word (codes "--log") then with_log said
    else elim (after (codes "--lib=") word) [
      | Some lib ↦ with_lib said lib
      | None ↦ elim (after (codes "--fuel=") word) [
        | Some digits ↦ with_fuel said digits
        | None ↦ with_file said word
      ]
    ]

-- what is said after one more word; None where it can't stand there
unfoldable pub with_word : Options → List ℕ → Option Options
with_word said word =
    elim said.awaits [
      | Nothing ↦ with_option said word
      | Lib ↦ if names_file word then with_lib said word else None
      | Fuel ↦ with_fuel said word
    ]

-- what is said after all the words
abbrev pub said_by : Options → List (List ℕ) → Option Options
said_by said [] = Some said
said_by said (word ∷ words) = option_and_then (λ next. said_by next words) (with_word said word)

-- the command, where a FILE was named and no option is in want of its word; the fuel is 10,000,000
-- where none was named
unfoldable pub said_whole : ℕ → Options → Option Command
said_whole before said =
    elim said.awaits [
      | Nothing ↦
          option_map
          (λ file. Run (record {
            file = file;
            libs = said.libs;
            fuel = unwrap_or said.fuel 10000000;
            report = said.report;
            log = said.log;
            before = before;
          }))
          said.file
      | Lib ↦ None
      | Fuel ↦ None
    ]

-- the word `--`, which ends the words that `run` reads itself
abbrev pub is_end : List ℕ → Bool
is_end word = bytes_eq word (codes "--")

-- a program's words: at most 65,536, of at most 16,777,216 bytes together
abbrev pub fits_program : List (List ℕ) → Bool
fits_program words = nat_le (length words) 65536 && nat_le (sum_by length words) 16777216

-- the words up to the first `--` say what is run, those after it are the program's; `run` itself is
-- counted too
unfoldable pub run : List (List ℕ) → Option Command
run words =
    if fits_program (after_first is_end words)
    then option_and_then (said_whole (1 + min (position_or_len is_end words + 1) (length words)))
    (said_by no_words (before_first is_end words))
    else None

-- ---- the line

abbrev pub command : List (List ℕ) → Option Command
command [] = None
command (name ∷ rest) =
    if bytes_eq name (codes "imports") then option_map Imports (lone_file rest)
    else if bytes_eq name (codes "stubs") then option_map Stubs (lone_file rest)
    else if bytes_eq name (codes "native") then native rest
    else if bytes_eq name (codes "run") then run rest
    else if bytes_eq name (codes "drill") then drill rest
    else None
