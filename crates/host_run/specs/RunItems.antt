-- The items of a line of `run`, in any order: FILE, LIB and FUEL in either spelling, `--report` and
-- `--log`; and the program's words.
use Rattle.std.specs.Prelude.{◌≡◌, ℕ, ◌+◌, ◌<◌, ◌&&◌, true, nat_lt, nat_le, ◌==◌, if◌then◌else◌, List, [], ◌∷◌, ◌++◌, length, flat_map, codes, All, Option, Some, None}
use Rattle.host_run.specs.Grammar.{number, fits_program, command}
use Rattle.host_run.specs.GrammarLaws.{IsFileName}
use Rattle.host_run.specs.declared.command.Command.{Command}
use Rattle.host_run.specs.declared.command.Command.TheVariants.{Run}

-- the fuel stands beside the digits that write it
pub data Item : Type 0 where
  File : List ℕ → Item
  LibApart : List ℕ → Item
  LibJoined : List ℕ → Item
  FuelApart : List ℕ → ℕ → Item
  FuelJoined : List ℕ → ℕ → Item
  Report : Item
  Log : Item

-- its words
abbrev pub spelled : Item → List (List ℕ)
spelled (File file) = file ∷ []
spelled (LibApart lib) = codes "--lib" ∷ lib ∷ []
spelled (LibJoined lib) = (codes "--lib=" ++ lib) ∷ []
spelled (FuelApart digits fuel) = codes "--fuel" ∷ digits ∷ []
spelled (FuelJoined digits fuel) = (codes "--fuel=" ++ digits) ∷ []
spelled Report = codes "--report" ∷ []
spelled Log = codes "--log" ∷ []

-- one to twenty decimal digits write the fuel, which is at most 100,000,000
abbrev pub Writes : List ℕ → ℕ → Type 0
Writes digits fuel = number 10 20 100000000 digits ≡ Some fuel

-- what a FILE, a LIB and a FUEL may be; joined, a LIB may begin with `-`
abbrev pub MayStand : Item → Type 0
MayStand (File file) = IsFileName file
MayStand (LibApart lib) = IsFileName lib
MayStand (LibJoined lib) = 0 < length lib
MayStand (FuelApart digits fuel) = Writes digits fuel
MayStand (FuelJoined digits fuel) = Writes digits fuel
MayStand Report = Unit {0}
MayStand Log = Unit {0}

-- what an item names
abbrev pub file_of : Item → List (List ℕ)
file_of (File file) = file ∷ []
file_of _ = []

abbrev pub lib_of : Item → List (List ℕ)
lib_of (LibApart lib) = lib ∷ []
lib_of (LibJoined lib) = lib ∷ []
lib_of _ = []

abbrev pub fuel_of : Item → List ℕ
fuel_of (FuelApart digits fuel) = fuel ∷ []
fuel_of (FuelJoined digits fuel) = fuel ∷ []
fuel_of _ = []

abbrev pub report_of : Item → List Item
report_of Report = Report ∷ []
report_of _ = []

abbrev pub log_of : Item → List Item
log_of Log = Log ∷ []
log_of _ = []

-- the first of a list, or else this
abbrev pub first_or : {X : Type 0} → List X → X → X
first_or [] d = d
first_or (x ∷ xs) d = x

-- The command of items, of which so many words say what is run: FILE stands once; FUEL, which is
-- 10,000,000 else, `--report` and `--log` at most once; LIB as often as one likes, and their order
-- is kept.
abbrev pub command_of : List Item → ℕ → Option Command
command_of items before =
    if length (flat_map file_of items) == 1 && nat_le (length (flat_map fuel_of items)) 1
    && nat_le (length (flat_map report_of items)) 1 && nat_le (length (flat_map log_of items)) 1
    then Some (Run (record {
      file = first_or (flat_map file_of items) [];
      libs = flat_map lib_of items;
      fuel = first_or (flat_map fuel_of items) 10000000;
      report = nat_lt 0 (length (flat_map report_of items));
      log = nat_lt 0 (length (flat_map log_of items));
      before = before;
    }))
    else None

-- the words after the items: none, or `--` and the program's own
abbrev pub ended_by : Option (List (List ℕ)) → List (List ℕ)
ended_by None = []
ended_by (Some program) = codes "--" ∷ program

abbrev pub ProgramFits : Option (List (List ℕ)) → Type 0
ProgramFits None = Unit {0}
ProgramFits (Some program) = fits_program program ≡ true

-- how many words say what is run, `run` and `--` among them
abbrev pub own_words : List Item → Option (List (List ℕ)) → ℕ
own_words items None = 1 + length (flat_map spelled items)
own_words items (Some program) = 2 + length (flat_map spelled items)

-- a line of items, in whatever order, asks for the command of the items
abbrev pub RunLinesSayTheirItems : Type 0
RunLinesSayTheirItems =
    (items : List Item) (program : Option (List (List ℕ)))
    → All MayStand items → ProgramFits program
    → command (codes "run" ∷ (flat_map spelled items ++ ended_by program))
    ≡ command_of items (own_words items program)

-- the words after `run` are those of items
pub record AreItems (words : List (List ℕ)) : Type 0 where
  pub items : List Item
  pub program : Option (List (List ℕ))
  pub stand : All MayStand items
  pub fits : ProgramFits program
  pub spell : words ≡ flat_map spelled items ++ ended_by program

-- and each line of `run` that asks for a command is one of items
abbrev pub RunLinesAreItems : Type 0
RunLinesAreItems =
    (words : List (List ℕ)) (asked : Command) → command (codes "run" ∷ words) ≡ Some asked
    → AreItems words
