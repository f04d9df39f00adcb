-- Reading a whole file.
use Rattle.std.specs.Prelude.{◌≡◌, ℕ, ◌<◌, ◌≤◌, List, [], length, take, Option, Some, None, Result, Ok, Err, ⊤}
use Rattle.bound_base.specs.declared.outside.StoreFault.{StoreFault}
use Rattle.bound_base.specs.declared.outside.StoreFault.TheVariants as fault
use Rattle.host_run.specs.declared.files.FileError.{FileError}
use Rattle.host_run.specs.declared.files.FileError.TheVariants.{Absent, Failed, TooLarge, Memory}

-- the most bytes that a file may have
abbrev pub file_limit : ℕ
file_limit = 67108864

abbrev pub fault_error : StoreFault → FileError
fault_error fault.Absent = Absent
fault_error fault.Failed = Failed
fault_error fault.Memory = Memory

-- What reading a whole file gives, by what is told of its name: all of its bytes, or that it isn't
-- held or is too large. A failed read and want of memory are free.
abbrev pub IsWhole : Option (Option (List ℕ)) → Result (List ℕ) FileError → Type 0
IsWhole None result = ⊤
IsWhole (Some None) (Ok bytes) = ⊥
IsWhole (Some None) (Err Absent) = ⊤
IsWhole (Some None) (Err Failed) = ⊤
IsWhole (Some None) (Err TooLarge) = ⊥
IsWhole (Some None) (Err Memory) = ⊤
IsWhole (Some (Some contents)) (Ok bytes) = (bytes ≡ contents) × (length contents ≤ file_limit)
IsWhole (Some (Some contents)) (Err Absent) = ⊥
IsWhole (Some (Some contents)) (Err Failed) = ⊤
IsWhole (Some (Some contents)) (Err TooLarge) = file_limit < length contents
IsWhole (Some (Some contents)) (Err Memory) = ⊤

-- what was read so far is a front of the contents, where they are told
abbrev pub IsFront : Option (Option (List ℕ)) → List ℕ → Type 0
IsFront None bytes = ⊤
IsFront (Some None) bytes = bytes ≡ []
IsFront (Some (Some contents)) bytes = bytes ≡ take (length bytes) contents

-- where no read failed, the store counted nothing
abbrev pub CountsFile : Result (List ℕ) FileError → ℕ → ℕ → Type 0
CountsFile (Err Failed) before after = ⊤
CountsFile _ before after = after ≡ before
