-- What a command did, from what reading its file gave, over the files that the store tells, or some files of bytes.
use Rattle.std.proofs.Common.{◌≡◌, refl, sym, ap, ◌∙◌, subst, ℕ, zero, suc, ◌<◌, ◌≤◌, List, [], ◌∷◌, length, Bool, true, false, Option, Some, None, Result, Ok, Err, arith, get_or}
use Rattle.std.specs.Prelude.{Contains, nat_lt, if◌then◌else◌}
use Rattle.std.proofs.lemmas.Bool.{le-ltb, lt-ltb}
use Rattle.std.proofs.lemmas.List.Elements.{All-nil, All-cons, All-from_get_or}
use Rattle.bound_base.specs.Outside.{Files, Rose, contents_under}
use Rattle.bound_base.specs.Names.{IsBytes}
use Rattle.host_run.specs.declared.files.FileError.{FileError}
use Rattle.host_run.specs.declared.files.FileError.TheVariants as file
use Rattle.host_run.specs.declared.settled.Settled.{Settled}
use Rattle.host_run.specs.declared.settled.Halt.{Halt}
use Rattle.host_run.specs.declared.settled.Halt.TheVariants.{Unreadable, Memory}
use Rattle.host_run.specs.declared.command.Command.{Command}
use Rattle.host_run.specs.declared.command.Command.TheVariants.{Imports, Stubs, Native, Run, Drill}
use Rattle.host_run.specs.Files.{IsWhole, CountsFile, file_limit}
use Rattle.host_run.specs.Answer.{Answer, file_answer, usage, absent, too_large}
use Rattle.host_run.specs.Commands.{IsAnswer, imports_answer, native_answer, stubs_answer}
use Rattle.host_run.specs.Settled.{SettlesAs, SettlesFile}
use Rattle.host_run.specs.Called.{StoreChange, SinkChange, Tells, Finishes, Obeys}
use Rattle.host_run.proofs.Outcomes.{unreadable-never, store-quiet, finishes-settled, finishes-memory}

-- ---- some files

-- those that the store tells, or none
pub some-files : (held : Option Files) → (files : Files) × Tells held files
some-files None = ((λ name. None), λ name. tt)
some-files (Some files) = (files, refl)

long_list : ℕ → List ℕ
long_list zero = []
long_list (suc n) = 0 ∷ long_list n

long_list-length : (n : ℕ) → length (long_list n) ≡ n
unfolding long_list
long_list-length zero = refl
long_list-length (suc n) = ap suc (long_list-length n)

long_list-bytes : (n : ℕ) → IsBytes (long_list n)
unfolding long_list
long_list-bytes zero = All-nil (λ byte. byte < 256)
long_list-bytes (suc n) = All-cons (λ byte. byte < 256) 0 (long_list n) (omega arith) (long_list-bytes n)

large-list : (n : ℕ) → (bytes : List ℕ) × (n < length bytes) × IsBytes bytes
large-list n = (long_list (suc n), omega (arith, long_list-length (suc n)), long_list-bytes (suc n))

-- ---- an answer's file

module _ (answer_of : List ℕ → Answer) (name : List ℕ) where
  -- a file within the limit is answered by its bytes
  answer-of-whole : (bytes : List ℕ) → length bytes ≤ file_limit → file_answer answer_of name (Some bytes) ≡ answer_of bytes
  answer-of-whole bytes small =
      let e : nat_lt file_limit (length bytes) ≡ false = le-ltb file_limit (length bytes) small in
      ap (λ (b : Bool). if b then too_large name else answer_of bytes) e

  -- a file past the limit is too large
  answer-of-large : (bytes : List ℕ) → file_limit < length bytes → file_answer answer_of name (Some bytes) ≡ too_large name
  answer-of-large bytes large =
      let e : nat_lt file_limit (length bytes) ≡ true = lt-ltb file_limit (length bytes) large in
      ap (λ (b : Bool). if b then too_large name else answer_of bytes) e

  -- files under which the answer is this one
  AnsweredBy : Option Files → Answer → Type 0
  AnsweredBy held a = (files : Files) × Tells held files × (a ≡ file_answer answer_of name (files name))

  -- the file was read whole
  files-read : (held : Option Files) (bytes : List ℕ) → IsWhole (contents_under held name) (Ok bytes) → IsBytes bytes → length bytes ≤ file_limit → AnsweredBy held (answer_of bytes)
  unfolding AnsweredBy
  files-read None bytes w are small = ((λ _. Some bytes), (λ _. are), sym (answer-of-whole bytes small))
  files-read (Some files) bytes w are small = (files, refl, by_contents (files name) refl w)
    where
      by_contents : (c : Option (List ℕ)) → files name ≡ c → IsWhole (Some c) (Ok bytes) → answer_of bytes ≡ file_answer answer_of name (files name)
      by_contents None e h = absurd h
      by_contents (Some contents) e h =
          sym (ap (file_answer answer_of name) e ∙ ap (λ x. file_answer answer_of name (Some x)) (sym h.0) ∙ answer-of-whole bytes small)

  -- the file isn't held
  files-absent : (held : Option Files) → IsWhole (contents_under held name) (Err file.Absent) → AnsweredBy held (absent name)
  unfolding AnsweredBy
  files-absent None w = ((λ _. None), (λ _. tt), refl)
  files-absent (Some files) w = (files, refl, by_contents (files name) refl w)
    where
      by_contents : (c : Option (List ℕ)) → files name ≡ c → IsWhole (Some c) (Err file.Absent) → absent name ≡ file_answer answer_of name (files name)
      by_contents None e h = sym (ap (file_answer answer_of name) e)
      by_contents (Some contents) e h = absurd h

  -- the file is too large
  files-large : (held : Option Files) → IsWhole (contents_under held name) (Err file.TooLarge) → AnsweredBy held (too_large name)
  unfolding AnsweredBy
  files-large None w =
      let bytes = large-list file_limit in
      ((λ _. Some bytes.0), (λ _. bytes.2), sym (answer-of-large bytes.0 bytes.1))
  files-large (Some files) w = (files, refl, by_contents (files name) refl w)
    where
      by_contents : (c : Option (List ℕ)) → files name ≡ c → IsWhole (Some c) (Err file.TooLarge) → too_large name ≡ file_answer answer_of name (files name)
      by_contents None e h = absurd h
      by_contents (Some contents) e h = sym (ap (file_answer answer_of name) e ∙ answer-of-large contents h)

-- ---- a command that is settled or halted before anything is put

module _ (IsOne : Files → Answer → Type 0) (names : Files → List (List ℕ)) (files : Files) (a : Answer) (is_one : IsOne files a) (result : Result Settled Halt) (store : StoreChange) (out : SinkChange) where
  obeys-finished : Tells store.held files → store.after ≡ store.before → store.held_after ≡ store.held → Finishes a result out → Obeys IsOne names result store out
  obeys-finished told quiet kept f = record {
    files = files;
    told = told;
    answer = a;
    is_one = is_one;
    meets = f.meets;
    unreadable = unreadable-never (names files) result store f.no_read;
    store_counted = store-quiet result store quiet;
    sink_counted = f.counted;
    store_count = omega (arith, quiet);
    out_count = f.count;
    kept = kept;
  }

  pub obeys-settled : Tells store.held files → a.out ≡ [] → SettlesAs a result → store.after ≡ store.before → store.held_after ≡ store.held → out.new ≡ out.old → out.after ≡ out.before → Obeys IsOne names result store out
  obeys-settled told nothing settles quiet kept new count = obeys-finished told quiet kept (finishes-settled a result out nothing settles new count)

  pub obeys-memory : Tells store.held files → result ≡ Err Memory → store.after ≡ store.before → store.held_after ≡ store.held → out.new ≡ out.old → out.after ≡ out.before → Obeys IsOne names result store out
  obeys-memory told is quiet kept new count = obeys-finished told quiet kept (finishes-memory a result out is new count)

  pub obeys-unreadable : (name : List ℕ) → Tells store.held files → result ≡ Err (Unreadable name) → Contains (names files) name → Rose store.before store.after → store.before ≤ store.after → store.held_after ≡ store.held → out.new ≡ out.old → out.after ≡ out.before → Obeys IsOne names result store out
  obeys-unreadable name told is read rose count kept new quiet =
      let P : Result Settled Halt → Type 0 = λ r. Obeys IsOne names r store out in
      subst P (sym is)
      (record {
        files = files;
        told = told;
        answer = a;
        is_one = is_one;
        meets = new;
        unreadable = (read, rose);
        store_counted = tt;
        sink_counted = quiet;
        store_count = count;
        out_count = omega (arith, quiet);
        kept = kept;
      })

-- ---- a command on one file

module _ (answer_of : List ℕ → Answer) (name : List ℕ) (names : Files → List (List ℕ)) (result : Result Settled Halt) (store : StoreChange) (out : SinkChange) where
  abbrev IsOne : Files → Answer → Type 0
  IsOne files a = a ≡ file_answer answer_of name (files name)

  pub obeys-read : (bytes : List ℕ) → IsWhole (contents_under store.held name) (Ok bytes) → IsBytes bytes → length bytes ≤ file_limit → store.after ≡ store.before → store.held_after ≡ store.held
      → Finishes (answer_of bytes) result out → Obeys IsOne names result store out
  unfolding AnsweredBy
  obeys-read bytes w are small quiet kept f =
      let t = files-read answer_of name store.held bytes w are small in
      obeys-finished IsOne names t.0 (answer_of bytes) t.2 result store out t.1 quiet kept f

  pub obeys-unread : (error : FileError) → ((files : Files) → Contains (names files) name) → IsWhole (contents_under store.held name) (Err error) → (error ≡ file.Failed → Rose store.before store.after)
      → CountsFile (Err error) store.before store.after → store.before ≤ store.after → store.held_after ≡ store.held → SettlesFile name error result → out.new ≡ out.old → out.after ≡ out.before
      → Obeys IsOne names result store out
  unfolding AnsweredBy
  obeys-unread file.Absent read w rose counts count kept settles new quiet =
      let t = files-absent answer_of name store.held w in
      obeys-settled IsOne names t.0 (absent name) t.2 result store out t.1 refl settles counts kept new quiet
  obeys-unread file.Failed read w rose counts count kept settles new quiet =
      let t = some-files store.held in
      obeys-unreadable IsOne names t.0 (file_answer answer_of name (t.0 name)) refl result store out name t.1 settles (read t.0) (rose refl) count kept new quiet
  obeys-unread file.TooLarge read w rose counts count kept settles new quiet =
      let t = files-large answer_of name store.held w in
      obeys-settled IsOne names t.0 (too_large name) t.2 result store out t.1 refl settles counts kept new quiet
  obeys-unread file.Memory read w rose counts count kept settles new quiet =
      let t = some-files store.held in
      obeys-memory IsOne names t.0 (file_answer answer_of name (t.0 name)) refl result store out t.1 settles counts kept new quiet

pub contains-first : (x : List ℕ) (xs : List (List ℕ)) → Contains (x ∷ xs) x
contains-first x xs = (0, omega arith, refl)

-- the elements of a slice of bytes
pub bytes-of-slice : (xs : List ℕ) → ((i : ℕ) → get_or xs i 0 < 256) → IsBytes xs
bytes-of-slice xs small = All-from_get_or (λ byte. byte < 256) xs 0 (λ i _. small i)

-- ---- any command

-- each command has an answer
pub some-answer : (c : Option Command) (words : List (List ℕ)) (files : Files) → (a : Answer) × IsAnswer c words files a
some-answer None words files = (usage, refl)
some-answer (Some (Imports file)) words files = (imports_answer file (files file), refl)
some-answer (Some (Stubs file)) words files = (stubs_answer file (files file), refl)
some-answer (Some (Native lib symbol numbers)) words files = (native_answer lib symbol numbers (files lib), refl)
some-answer (Some (Run run)) words files = (usage, refl)
some-answer (Some (Drill number)) words files = (usage, refl)

-- what isn't built is answered by the usage line, whatever the files
pub obeys-usage : (c : Option Command) (words : List (List ℕ)) (names : Files → List (List ℕ)) (result : Result Settled Halt) (store : StoreChange) (out : SinkChange) → ((files : Files) → IsAnswer c words files usage) → SettlesAs usage result
    → store.after ≡ store.before → store.held_after ≡ store.held → out.new ≡ out.old → out.after ≡ out.before → Obeys (IsAnswer c words) names result store out
obeys-usage c words names result store out given settles quiet kept new count =
    let t = some-files store.held in
    obeys-settled (IsAnswer c words) names t.0 usage (given t.0) result store out t.1 refl settles quiet kept new count

-- and so is a command that equals one of these
pub usage-for : (c other : Option Command) (words : List (List ℕ)) (files : Files) → c ≡ other → IsAnswer other words files usage → IsAnswer c words files usage
usage-for c other words files e given = let P : Option Command → Type 0 = λ k. IsAnswer k words files usage in subst P (sym e) given

-- there is no memory for the words
pub obeys-without-memory : (c : Option Command) (words : List (List ℕ)) (names : Files → List (List ℕ)) (store : StoreChange) (out : SinkChange) → store.after ≡ store.before → store.held_after ≡ store.held
    → out.new ≡ out.old → out.after ≡ out.before → Obeys (IsAnswer c words) names (Err Memory) store out
obeys-without-memory c words names store out quiet kept new count =
    let t = some-files store.held in
    let a = some-answer c words t.0 in
    obeys-memory (IsAnswer c words) names t.0 a.0 a.1 (Err Memory) store out t.1 refl quiet kept new count
