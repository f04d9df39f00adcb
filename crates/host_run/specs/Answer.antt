-- What plhost answers: a status, and what out and err get.
use Rattle.std.specs.Prelude.{ℕ, List, [], length, nat_lt, Option, Some, None, if◌then◌else◌}
use Rattle.bound_base.specs.declared.ending.Ending.{Ending}
use Rattle.bound_base.specs.declared.ending.Ending.TheVariants.{Returned, Exited, Unhandled, Spent, Bad, Deep, SinkFailed, InitFault, Memory}
use Rattle.bound_base.specs.Ending.{status}
use Rattle.host_run.specs.Files.{file_limit}
use Rattle.host_run.specs.Texts.{usage_line, absent_line, too_large_line, bad_image_line, bad_library_line, no_symbol_line, fuel_line, native_fault_line, memory_line}

pub record Answer : Type 0 where
  pub status : ℕ
  pub out : List ℕ
  pub err : List ℕ

-- all is done
abbrev pub done : List ℕ → Answer
done text = record { status = 0; out = text; err = [] }

-- nothing is put on out, and a line on err says why
abbrev pub refused : ℕ → List ℕ → Answer
refused status line = record { status = status; out = []; err = line }

-- ---- the refusals of words and files

-- the words are outside the grammar, or their command isn't built
abbrev pub usage : Answer
usage = refused 201 usage_line

-- a file isn't held
abbrev pub absent : List ℕ → Answer
absent name = refused 202 (absent_line name)

-- a file has more bytes than a file may have
abbrev pub too_large : List ℕ → Answer
too_large name = refused 212 (too_large_line name)

-- an image's first broken part, by its place in the reading order, and its file offset
abbrev pub bad_image : ℕ → ℕ → Answer
bad_image part offset = refused 204 (bad_image_line part offset)

-- the same of a library, with the library's name
abbrev pub bad_library : List ℕ → ℕ → ℕ → Answer
bad_library name part offset = refused 205 (bad_library_line name part offset)

-- a library doesn't define the symbol
abbrev pub no_symbol : List ℕ → Answer
no_symbol symbol = refused 214 (no_symbol_line symbol)

-- ---- the endings of native code

-- The line of an ending that native code comes to; the endings that only a program comes to have
-- none here.
abbrev pub ending_line : Ending → List ℕ
ending_line (Returned number) = []
ending_line (Exited number) = []
ending_line (Unhandled type) = []
ending_line Spent = fuel_line
ending_line (Bad token offset) = []
ending_line Deep = []
ending_line SinkFailed = []
ending_line (InitFault pc) = native_fault_line pc
ending_line Memory = memory_line

-- native code gave no number
abbrev pub ended : Ending → Answer
ended ending = refused (status ending) (ending_line ending)

-- ---- one file

-- a command on one file, by what its bytes are answered by, its name and, where it is held, its
-- contents
abbrev pub file_answer : (List ℕ → Answer) → List ℕ → Option (List ℕ) → Answer
file_answer answer_of name None = absent name
file_answer answer_of name (Some bytes) =
    if nat_lt file_limit (length bytes) then too_large name else answer_of bytes
