-- What plhost answers to words and files.
use Rattle.std.specs.Prelude.{◌≡◌, ℕ, List, Option, Some, None}
use Rattle.bound_base.specs.Outside.{Files}
use Rattle.type_model.specs.Part.{assembly_types}
use Rattle.host_run.specs.declared.command.Command.{Command}
use Rattle.host_run.specs.declared.command.Command.TheVariants.{Imports, Stubs, Native, Run, Drill}
use Rattle.host_run.specs.Grammar.{command}
use Rattle.host_run.specs.Answer.{Answer, usage, file_answer}
use Rattle.host_run.specs.Imports.{imports_of}
use Rattle.host_run.specs.Native.{native_of}
use Rattle.host_run.specs.Stubs.{stubs_of}

-- `imports` of a file
abbrev pub imports_answer : List ℕ → Option (List ℕ) → Answer
imports_answer name = file_answer (λ bytes. imports_of (assembly_types bytes)) name

-- `stubs` of a file
abbrev pub stubs_answer : List ℕ → Option (List ℕ) → Answer
stubs_answer name = file_answer (λ bytes. stubs_of (assembly_types bytes)) name

-- `native` of a library
abbrev pub native_answer : List ℕ → List ℕ → List ℕ → Option (List ℕ) → Answer
native_answer lib symbol numbers = file_answer (native_of lib symbol numbers) lib

-- An answer to a command, to the words that ask for it, and to files. It is a relation, since a
-- command may have several; those that are built have one. A command that isn't built is answered
-- as words outside the grammar.
abbrev pub IsAnswer : Option Command → List (List ℕ) → Files → Answer → Type 0
IsAnswer None words files a = a ≡ usage
IsAnswer (Some (Imports file)) words files a = a ≡ imports_answer file (files file)
IsAnswer (Some (Stubs file)) words files a = a ≡ stubs_answer file (files file)
IsAnswer (Some (Native lib symbol numbers)) words files a =
    a ≡ native_answer lib symbol numbers (files lib)
IsAnswer (Some (Run run)) words files a = a ≡ usage
IsAnswer (Some (Drill number)) words files a = a ≡ usage

-- an answer to words and files
abbrev pub Answers : List (List ℕ) → Files → Answer → Type 0
Answers words files a = IsAnswer (command words) words files a
