-- Which files a call reads, in order.
use Rattle.std.specs.Prelude.{ℕ, Bool, false, ◌&&◌, nat_le, is_ok, if◌then◌else◌, List, [], ◌∷◌, length, Option, Some, None}
use Rattle.bound_base.specs.Outside.{Files}
use Rattle.type_model.specs.Part.{assembly_types}
use Rattle.host_run.specs.declared.command.Command.{Command}
use Rattle.host_run.specs.declared.command.Command.TheVariants.{Imports, Stubs, Native, Run, Drill}
use Rattle.host_run.specs.Files.{file_limit}
use Rattle.host_run.specs.Grammar.{command}

-- the file is held, and isn't too large
abbrev pub is_whole : Option (List ℕ) → Bool
is_whole None = false
is_whole (Some bytes) = nat_le (length bytes) file_limit

-- and it is an assembly
abbrev pub has_assembly : Option (List ℕ) → Bool
has_assembly None = false
has_assembly (Some bytes) = nat_le (length bytes) file_limit && is_ok (assembly_types bytes)

-- a file that is read, and whether the call goes on to the next one with what is held under its
-- name
pub record Reading : Type 0 where
  pub name : List ℕ
  pub accepts : Option (List ℕ) → Bool

-- the files of a command, of which a command that isn't built reads none
abbrev pub readings : Option Command → List (List ℕ) → List Reading
readings None words = []
readings (Some (Imports file)) words = record { name = file; accepts = has_assembly } ∷ []
readings (Some (Stubs file)) words = record { name = file; accepts = has_assembly } ∷ []
readings (Some (Native lib symbol numbers)) words = record { name = lib; accepts = is_whole } ∷ []
readings (Some (Run run)) words = []
readings (Some (Drill number)) words = []

-- the names that are read, up to the first file that refuses the call
abbrev pub names_of : List Reading → Files → List (List ℕ)
names_of [] files = []
names_of (reading ∷ rest) files =
    reading.name ∷ (if reading.accepts (files reading.name) then names_of rest files else [])

-- the names that a call with these words reads among these files
abbrev pub names_read : List (List ℕ) → Files → List (List ℕ)
names_read words files = names_of (readings (command words) words) files
