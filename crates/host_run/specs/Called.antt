-- What a call did to the store and the streams, by how it ended.
use Rattle.std.specs.Prelude.{◌≡◌, ◌≢◌, ◌⊎◌, ◌≤◌, ℕ, List, Option, Some, None, Result, Ok, Err, ⊤, Contains, IfSome}
use Rattle.bound_base.specs.Outside.{Files, Rose, appended, AppendsFront}
use Rattle.bound_base.specs.Names.{IsBytes}
use Rattle.host_run.specs.declared.settled.Settled.{Settled}
use Rattle.host_run.specs.declared.settled.Halt.{Halt}
use Rattle.host_run.specs.declared.settled.Halt.TheVariants.{Unreadable, SinkFailed, Memory}
use Rattle.host_run.specs.Answer.{Answer}
use Rattle.host_run.specs.Commands.{Answers}
use Rattle.host_run.specs.Readings.{names_read}
use Rattle.host_run.specs.Settled.{IsSettledAs, joined, halt_status, halt_line}
use Rattle.host_run.specs.Texts.{unreadable_line, memory_line}

-- ---- the outside before and after a call

-- what a store tells, and its count of failed reads
pub record StoreChange : Type 0 where
  pub held : Option Files
  pub held_after : Option Files
  pub before : ℕ
  pub after : ℕ

abbrev pub of_store : Option Files → Option Files → ℕ → ℕ → StoreChange
of_store held held_after before after =
    record { held = held; held_after = held_after; before = before; after = after }

-- what a sink tells, and its count of failed writes
pub record SinkChange : Type 0 where
  pub old : Option (List ℕ)
  pub new : Option (List ℕ)
  pub before : ℕ
  pub after : ℕ

abbrev pub of_sink : Option (List ℕ) → Option (List ℕ) → ℕ → ℕ → SinkChange
of_sink old new before after = record { old = old; new = new; before = before; after = after }

-- the sink got a text, or a front of it
abbrev pub Gets : SinkChange → List ℕ → Type 0
Gets sink text = sink.new ≡ appended sink.old text

abbrev pub GetsFront : SinkChange → List ℕ → Type 0
GetsFront sink text = AppendsFront sink.old sink.new text

-- each file's contents are bytes
abbrev pub AreFilesOfBytes : Files → Type 0
AreFilesOfBytes files = (name : List ℕ) → IfSome (files name) IsBytes

-- the files are those that the store tells; where it tells none, they are files of bytes
abbrev pub Tells : Option Files → Files → Type 0
Tells None files = AreFilesOfBytes files
Tells (Some held) files = files ≡ held

-- ---- a command

-- out got its part of the answer, and err's is made; or out got a front of its part, and none of it
-- where no file could be read
abbrev pub Meets : Answer → Result Settled Halt → SinkChange → Type 0
Meets a (Ok settled) out = IsSettledAs a settled × Gets out a.out
Meets a (Err (Unreadable name)) out = out.new ≡ out.old
Meets a (Err SinkFailed) out = GetsFront out a.out
Meets a (Err Memory) out = GetsFront out a.out

-- a file that couldn't be read is one of these, and the store counted it
abbrev pub IfUnreadable : List (List ℕ) → Result Settled Halt → StoreChange → Type 0
IfUnreadable names (Ok settled) store = ⊤
IfUnreadable names (Err (Unreadable name)) store =
    Contains names name × Rose store.before store.after
IfUnreadable names (Err SinkFailed) store = ⊤
IfUnreadable names (Err Memory) store = ⊤

-- no read failed
abbrev pub ReadsNothing : Result Settled Halt → Type 0
ReadsNothing (Ok settled) = ⊤
ReadsNothing (Err (Unreadable name)) = ⊥
ReadsNothing (Err SinkFailed) = ⊤
ReadsNothing (Err Memory) = ⊤

-- where no read failed, the store counted nothing
abbrev pub CountsStore : Result Settled Halt → StoreChange → Type 0
CountsStore (Ok settled) store = store.after ≡ store.before
CountsStore (Err (Unreadable name)) store = ⊤
CountsStore (Err SinkFailed) store = store.after ≡ store.before
CountsStore (Err Memory) store = store.after ≡ store.before

-- a put failed, and the sink counted it; else it counted nothing
abbrev pub CountsSink : Result Settled Halt → SinkChange → Type 0
CountsSink (Ok settled) out = out.after ≡ out.before
CountsSink (Err (Unreadable name)) out = out.after ≡ out.before
CountsSink (Err SinkFailed) out = Rose out.before out.after
CountsSink (Err Memory) out = out.after ≡ out.before

-- a command once its files are read
pub record Finishes (a : Answer) (result : Result Settled Halt) (out : SinkChange) : Type 0 where
  pub meets : Meets a result out
  pub no_read : ReadsNothing result
  pub counted : CountsSink result out
  pub count : out.before ≤ out.after

-- a command, by its answers to files and the names that it reads among them
pub record Obeys
    (IsOne : Files → Answer → Type 0) (names : Files → List (List ℕ)) (result : Result Settled Halt)
    (store : StoreChange) (out : SinkChange) : Type 0 where
  pub files : Files
  pub told : Tells store.held files
  pub answer : Answer
  pub is_one : IsOne files answer
  pub meets : Meets answer result out
  pub unreadable : IfUnreadable (names files) result store
  pub store_counted : CountsStore result store
  pub sink_counted : CountsSink result out
  pub store_count : store.before ≤ store.after
  pub out_count : out.before ≤ out.after
  pub kept : store.held_after ≡ store.held

-- ---- the end of a call

-- A halt's line was put; or that of want of memory in its place; or the put failed, was counted,
-- and put a front of one of them.
abbrev pub IsPrinted : Halt → ℕ → SinkChange → Type 0
IsPrinted halt status err =
    ((status ≡ halt_status halt) × Gets err (halt_line halt) × (err.after ≡ err.before))
    ⊎ (((status ≡ halt_status Memory) × Gets err memory_line × (err.after ≡ err.before))
    ⊎ ((status ≡ halt_status SinkFailed) × Rose err.before err.after
    × (GetsFront err (halt_line halt) ⊎ GetsFront err memory_line)))

-- What err got at the end, and the status: all texts, or the first put of them that failed is the
-- last; a halt's line; nothing where a put to out has failed.
abbrev pub Closes : Result Settled Halt → ℕ → SinkChange → Type 0
Closes (Ok settled) status err =
    ((status ≡ settled.status) × Gets err (joined settled.texts) × (err.after ≡ err.before))
    ⊎ ((status ≡ halt_status SinkFailed) × Rose err.before err.after
    × GetsFront err (joined settled.texts))
Closes (Err (Unreadable name)) status err = IsPrinted (Unreadable name) status err
Closes (Err SinkFailed) status err =
    (status ≡ halt_status SinkFailed) × (err.new ≡ err.old) × (err.after ≡ err.before)
Closes (Err Memory) status err = IsPrinted Memory status err

-- ---- a whole call

-- the whole answer was given
pub record GivesAnswer (a : Answer) (status : ℕ) (out err : SinkChange) : Type 0 where
  pub is_status : status ≡ a.status
  pub is_out : Gets out a.out
  pub is_err : Gets err a.err

-- a file couldn't be read: the store counted it, out got nothing, and err the line that says so
pub record CouldNotRead
    (names : List (List ℕ)) (store : StoreChange) (out err : SinkChange) : Type 0 where
  pub name : List ℕ
  pub is_read : Contains names name
  pub rose : Rose store.before store.after
  pub quiet : out.new ≡ out.old
  pub said : Gets err (unreadable_line name)

-- err got a front of the line of a file that couldn't be read, where the store counted a failed
-- read
pub record SaysUnreadable
    (names : List (List ℕ)) (store : StoreChange) (err : SinkChange) : Type 0 where
  pub name : List ℕ
  pub is_read : Contains names name
  pub rose : Rose store.before store.after
  pub said : GetsFront err (unreadable_line name)

-- A put failed, of out or of err, and was counted: both got a front of what was due, and err
-- nothing where its own puts didn't fail.
pub record CouldNotPut
    (a : Answer) (names : List (List ℕ)) (store : StoreChange) (out err : SinkChange) : Type 0 where
  pub rose : Rose out.before out.after ⊎ Rose err.before err.after
  pub out_front : GetsFront out a.out
  pub err_quiet : (err.new ≡ err.old) ⊎ Rose err.before err.after
  pub err_front : GetsFront err a.err ⊎ (GetsFront err memory_line ⊎ SaysUnreadable names store err)

-- there was no memory: err says so alone, and out got a front of its part
pub record HadNoMemory (a : Answer) (out err : SinkChange) : Type 0 where
  pub out_front : GetsFront out a.out
  pub said : Gets err memory_line

-- What a call came to, all of it said of the same files and of one of the answers to the words and
-- them: those that the store tells, or some files of bytes where it tells none.
pub record Called
    (words : List (List ℕ)) (status : ℕ) (store : StoreChange) (out err : SinkChange) : Type 0 where
  pub files : Files
  pub told : Tells store.held files
  pub answer : Answer
  pub is_one : Answers words files answer
  pub given : status ≢ 203 → status ≢ 210 → status ≢ 211 → GivesAnswer answer status out err
  pub unreadable : status ≡ 203 → CouldNotRead (names_read words files) store out err
  pub put_failed : status ≡ 210 → CouldNotPut answer (names_read words files) store out err
  pub no_memory : status ≡ 211 → HadNoMemory answer out err

-- no failure is passed over: a count rises only where the status says so; and what is held stays
pub record Counts (status : ℕ) (store : StoreChange) (out err : SinkChange) : Type 0 where
  pub store_uncounted : status ≢ 203 → status ≢ 210 → status ≢ 211 → store.after ≡ store.before
  pub out_uncounted : status ≢ 210 → out.after ≡ out.before
  pub err_uncounted : status ≢ 210 → err.after ≡ err.before
  pub store_count : store.before ≤ store.after
  pub out_count : out.before ≤ out.after
  pub err_count : err.before ≤ err.after
  pub kept : store.held_after ≡ store.held
