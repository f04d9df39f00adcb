-- How a call ends: it is settled by a status and texts for err, or halted before that.
use Rattle.std.specs.Prelude.{◌≡◌, ℕ, List, [], flat_map, Option, Some, None, Result, Ok, Err, ⊤}
use Rattle.bound_base.specs.declared.ending.Ending.TheVariants as ending
use Rattle.bound_base.specs.declared.ending.Ending.{Ending}
use Rattle.bound_base.specs.Ending.{status}
use Rattle.byte_view.specs.Reading.{Broken}
use Rattle.host_run.specs.declared.settled.Settled.{Settled}
use Rattle.host_run.specs.declared.settled.Halt.{Halt}
use Rattle.host_run.specs.declared.settled.Halt.TheVariants.{Unreadable, SinkFailed, Memory}
use Rattle.bound_base.specs.declared.put.PutError.{PutError}
use Rattle.bound_base.specs.declared.put.PutError.TheVariants as put
use Rattle.host_run.specs.declared.files.FileError.{FileError}
use Rattle.host_run.specs.declared.files.FileError.TheVariants as file
use Rattle.host_run.specs.Answer.{Answer, absent, too_large, ended}
use Rattle.host_run.specs.Texts.{unreadable_line, memory_line}

-- texts, one after another
abbrev pub joined : List (List ℕ) → List ℕ
joined texts = flat_map (λ text. text) texts

-- the status and err's part of the answer
pub record IsSettledAs (a : Answer) (settled : Settled) : Type 0 where
  pub status : settled.status ≡ a.status
  pub texts : joined settled.texts ≡ a.err

-- A call is settled as the answer has it, or there is no memory for its texts.
abbrev pub SettlesAs : Answer → Result Settled Halt → Type 0
SettlesAs a (Ok settled) = IsSettledAs a settled
SettlesAs a (Err (Unreadable name)) = ⊥
SettlesAs a (Err SinkFailed) = ⊥
SettlesAs a (Err Memory) = ⊤

-- ---- halts

-- the status of a halt; those of endings stand in one table
abbrev pub halt_status : Halt → ℕ
halt_status (Unreadable name) = 203
halt_status SinkFailed = status ending.SinkFailed
halt_status Memory = status ending.Memory

-- and its line, of which a failed put has none
abbrev pub halt_line : Halt → List ℕ
halt_line (Unreadable name) = unreadable_line name
halt_line SinkFailed = []
halt_line Memory = memory_line

abbrev pub put_halt : PutError → Halt
put_halt put.Memory = Memory
put_halt put.SinkFailed = SinkFailed

-- ---- what the errors of parts come to

-- a file of a name wasn't read
abbrev pub SettlesFile : List ℕ → FileError → Result Settled Halt → Type 0
SettlesFile name file.Absent result = SettlesAs (absent name) result
SettlesFile name file.Failed result = result ≡ Err (Unreadable name)
SettlesFile name file.TooLarge result = SettlesAs (too_large name) result
SettlesFile name file.Memory result = result ≡ Err Memory

-- A part is broken, by its place and its file offset, which an error says; one that says nothing is
-- want of memory.
abbrev pub SettlesBroken : (ℕ → ℕ → Answer) → Option Broken → Result Settled Halt → Type 0
SettlesBroken refuses (Some broken) result = SettlesAs (refuses broken.0 broken.1) result
SettlesBroken refuses None result = result ≡ Err Memory

-- native code comes to these endings alone
abbrev pub IsNativeEnding : Ending → Type 0
IsNativeEnding (ending.Returned number) = ⊥
IsNativeEnding (ending.Exited number) = ⊥
IsNativeEnding (ending.Unhandled type) = ⊥
IsNativeEnding ending.Spent = ⊤
IsNativeEnding (ending.Bad token offset) = ⊥
IsNativeEnding ending.Deep = ⊥
IsNativeEnding ending.SinkFailed = ⊥
IsNativeEnding (ending.InitFault pc) = ⊤
IsNativeEnding ending.Memory = ⊤

-- native code gave no number
abbrev pub SettlesEnding : Ending → Result Settled Halt → Type 0
SettlesEnding (ending.Returned number) result = ⊥
SettlesEnding (ending.Exited number) result = ⊥
SettlesEnding (ending.Unhandled type) result = ⊥
SettlesEnding ending.Spent result = SettlesAs (ended ending.Spent) result
SettlesEnding (ending.Bad token offset) result = ⊥
SettlesEnding ending.Deep result = ⊥
SettlesEnding ending.SinkFailed result = ⊥
SettlesEnding (ending.InitFault pc) result = SettlesAs (ended (ending.InitFault pc)) result
SettlesEnding ending.Memory result = result ≡ Err Memory
