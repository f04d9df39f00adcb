-- What a call came to, from what a command and the end of the call did.
use Rattle.std.proofs.Common.{◌≡◌, ◌⊎◌, inl, inr, sym, ap, ◌∙◌, subst, ℕ, ◌≤◌, List, [], Result, Ok, Err, arith}
use Rattle.std.specs.Prelude.{◌≢◌}
use Rattle.bound_base.specs.Outside.{Files, appended}
use Rattle.host_run.specs.declared.settled.Settled.{Settled}
use Rattle.host_run.specs.declared.settled.Halt.{Halt}
use Rattle.host_run.specs.declared.settled.Halt.TheVariants.{Unreadable, SinkFailed, Memory}
use Rattle.host_run.specs.Answer.{Answer}
use Rattle.host_run.specs.AnswerLaws.{IsNoFailure}
use Rattle.host_run.specs.Commands.{Answers}
use Rattle.host_run.specs.Readings.{names_read}
use Rattle.host_run.specs.Settled.{SettlesAs, halt_status, halt_line}
use Rattle.host_run.specs.Texts.{memory_line}
use Rattle.host_run.specs.Called.{StoreChange, SinkChange, GetsFront, Meets, IfUnreadable, ReadsNothing, CountsStore, CountsSink, Finishes, Obeys, IsPrinted, Closes, GivesAnswer, CouldNotRead, SaysUnreadable, CouldNotPut, HadNoMemory, Called, Counts}
use Rattle.host_run.proofs.Puts.{append-nil, appended-nil, front-none}
use Rattle.host_run.proofs.Answers.{answers_are_no_failures}

-- ---- a command after its files are read

-- a call that reads no file doesn't fail by one
pub unreadable-never : (names : List (List ℕ)) (result : Result Settled Halt) (store : StoreChange) → ReadsNothing result → IfUnreadable names result store
unreadable-never names (Ok settled) store h = tt
unreadable-never names (Err (Unreadable name)) store h = absurd h
unreadable-never names (Err SinkFailed) store h = tt
unreadable-never names (Err Memory) store h = tt

-- where no file was read, the store counted nothing
pub store-quiet : (result : Result Settled Halt) (store : StoreChange) → store.after ≡ store.before → CountsStore result store
store-quiet (Ok settled) store h = h
store-quiet (Err (Unreadable name)) store h = tt
store-quiet (Err SinkFailed) store h = h
store-quiet (Err Memory) store h = h

-- a call that is settled before anything is put on out
pub finishes-settled : (a : Answer) (result : Result Settled Halt) (out : SinkChange) → a.out ≡ [] → SettlesAs a result → out.new ≡ out.old → out.after ≡ out.before → Finishes a result out
finishes-settled a (Ok settled) out nothing settles new count =
    record { meets = (settles, new ∙ sym (ap (appended out.old) nothing ∙ appended-nil out.old)); no_read = tt; counted = count; count = omega (arith, count) }
finishes-settled a (Err (Unreadable name)) out nothing settles new count = absurd settles
finishes-settled a (Err SinkFailed) out nothing settles new count = absurd settles
finishes-settled a (Err Memory) out nothing settles new count =
    record { meets = front-none out.old out.new a.out new; no_read = tt; counted = count; count = omega (arith, count) }

-- there is no memory before anything is put
pub finishes-memory : (a : Answer) (result : Result Settled Halt) (out : SinkChange) → result ≡ Err Memory → out.new ≡ out.old → out.after ≡ out.before → Finishes a result out
finishes-memory a result out is new count =
    let P : Result Settled Halt → Type 0 = λ r. Finishes a r out in
    subst P (sym is) (record { meets = front-none out.old out.new a.out new; no_read = tt; counted = count; count = omega (arith, count) })

-- ---- out

-- out got a front of its part, however the call ended
front-of-answer : (a : Answer) (result : Result Settled Halt) (out : SinkChange) → Meets a result out → GetsFront out a.out
front-of-answer a (Ok settled) out m = (a.out, [], sym (append-nil a.out), m.1)
front-of-answer a (Err (Unreadable name)) out m = front-none out.old out.new a.out m
front-of-answer a (Err SinkFailed) out m = m
front-of-answer a (Err Memory) out m = m

-- ---- by the status

-- What a command and the end of the call did, and that the answer has the status of no failure.
module _ (a : Answer) (own : IsNoFailure a.status) (names : List (List ℕ)) (status : ℕ) (store : StoreChange) (out err : SinkChange) where
  printed-elsewhere : {X : Type 0} (halt : Halt) → IsPrinted halt status err → status ≢ halt_status halt → status ≢ 210 → status ≢ 211 → X
  printed-elsewhere halt (inl p) own_status no_put no_memory = absurd (own_status p.0)
  printed-elsewhere halt (inr (inl p)) own_status no_put no_memory = absurd (no_memory p.0)
  printed-elsewhere halt (inr (inr p)) own_status no_put no_memory = absurd (no_put p.0)

  answer-given : (result : Result Settled Halt) → Meets a result out → Closes result status err → status ≢ 203 → status ≢ 210 → status ≢ 211 → GivesAnswer a status out err
  answer-given (Ok settled) m (inl p) no_read no_put no_memory =
      record { is_status = p.0 ∙ m.0.status; is_out = m.1; is_err = p.1 ∙ ap (appended err.old) m.0.texts }
  answer-given (Ok settled) m (inr p) no_read no_put no_memory = absurd (no_put p.0)
  answer-given (Err (Unreadable name)) m s no_read no_put no_memory = printed-elsewhere (Unreadable name) s no_read no_put no_memory
  answer-given (Err SinkFailed) m s no_read no_put no_memory = absurd (no_put s.0)
  answer-given (Err Memory) m s no_read no_put no_memory = printed-elsewhere Memory s no_memory no_put no_memory

  could-not-read : (result : Result Settled Halt) → Meets a result out → IfUnreadable names result store → Closes result status err → status ≡ 203 → CouldNotRead names store out err
  could-not-read (Ok settled) m u (inl p) e = absurd (own.read (sym m.0.status ∙ sym p.0 ∙ e))
  could-not-read (Ok settled) m u (inr p) e = absurd (omega (arith, p.0, e))
  could-not-read (Err (Unreadable name)) m u (inl p) e =
      record { name = name; is_read = u.0; rose = u.1; quiet = m; said = p.1 }
  could-not-read (Err (Unreadable name)) m u (inr (inl p)) e = absurd (omega (arith, p.0, e))
  could-not-read (Err (Unreadable name)) m u (inr (inr p)) e = absurd (omega (arith, p.0, e))
  could-not-read (Err SinkFailed) m u s e = absurd (omega (arith, s.0, e))
  could-not-read (Err Memory) m u (inl p) e = absurd (omega (arith, p.0, e))
  could-not-read (Err Memory) m u (inr (inl p)) e = absurd (omega (arith, p.0, e))
  could-not-read (Err Memory) m u (inr (inr p)) e = absurd (omega (arith, p.0, e))

  no-memory : (result : Result Settled Halt) → Meets a result out → Closes result status err → status ≡ 211 → HadNoMemory a out err
  no-memory (Ok settled) m (inl p) e = absurd (own.memory (sym m.0.status ∙ sym p.0 ∙ e))
  no-memory (Ok settled) m (inr p) e = absurd (omega (arith, p.0, e))
  no-memory (Err (Unreadable name)) m (inl p) e = absurd (omega (arith, p.0, e))
  no-memory (Err (Unreadable name)) m (inr (inl p)) e =
      record { out_front = front-of-answer a (Err (Unreadable name)) out m; said = p.1 }
  no-memory (Err (Unreadable name)) m (inr (inr p)) e = absurd (omega (arith, p.0, e))
  no-memory (Err SinkFailed) m s e = absurd (omega (arith, s.0, e))
  no-memory (Err Memory) m (inl p) e = record { out_front = m; said = p.1 }
  no-memory (Err Memory) m (inr (inl p)) e = record { out_front = m; said = p.1 }
  no-memory (Err Memory) m (inr (inr p)) e = absurd (omega (arith, p.0, e))

  put-failed : (result : Result Settled Halt) → Meets a result out → IfUnreadable names result store → CountsSink result out → Closes result status err → status ≡ 210 → CouldNotPut a names store out err
  put-failed (Ok settled) m u c (inl p) e = absurd (own.put (sym m.0.status ∙ sym p.0 ∙ e))
  put-failed (Ok settled) m u c (inr p) e =
      let P : List ℕ → Type 0 = λ text. GetsFront err text in
      record { rose = inr p.1; out_front = front-of-answer a (Ok settled) out m; err_quiet = inr p.1; err_front = inl (subst P m.0.texts p.2) }
  put-failed (Err (Unreadable name)) m u c (inl p) e = absurd (omega (arith, p.0, e))
  put-failed (Err (Unreadable name)) m u c (inr (inl p)) e = absurd (omega (arith, p.0, e))
  put-failed (Err (Unreadable name)) m u c (inr (inr p)) e =
      record { rose = inr p.1; out_front = front-of-answer a (Err (Unreadable name)) out m; err_quiet = inr p.1; err_front = inr (of_file p.2) }
    where
      of_file : GetsFront err (halt_line (Unreadable name)) ⊎ GetsFront err memory_line → GetsFront err memory_line ⊎ SaysUnreadable names store err
      of_file (inl h) = inr (record { name = name; is_read = u.0; rose = u.1; said = h })
      of_file (inr h) = inl h
  put-failed (Err SinkFailed) m u c s e =
      record { rose = inl c; out_front = m; err_quiet = inl s.1; err_front = inl (front-none err.old err.new a.err s.1) }
  put-failed (Err Memory) m u c (inl p) e = absurd (omega (arith, p.0, e))
  put-failed (Err Memory) m u c (inr (inl p)) e = absurd (omega (arith, p.0, e))
  put-failed (Err Memory) m u c (inr (inr p)) e =
      record { rose = inr p.1; out_front = m; err_quiet = inr p.1; err_front = inr (inl (of_memory p.2)) }
    where
      of_memory : GetsFront err memory_line ⊎ GetsFront err memory_line → GetsFront err memory_line
      of_memory (inl h) = h
      of_memory (inr h) = h

-- ---- counts

module _ (status : ℕ) (store : StoreChange) (out err : SinkChange) where
  printed-uncounted : (halt : Halt) → IsPrinted halt status err → status ≢ 210 → err.after ≡ err.before
  printed-uncounted halt (inl p) no_put = p.2
  printed-uncounted halt (inr (inl p)) no_put = p.2
  printed-uncounted halt (inr (inr p)) no_put = absurd (no_put p.0)

  err-uncounted : (result : Result Settled Halt) → Closes result status err → status ≢ 210 → err.after ≡ err.before
  err-uncounted (Ok settled) (inl p) no_put = p.2
  err-uncounted (Ok settled) (inr p) no_put = absurd (no_put p.0)
  err-uncounted (Err (Unreadable name)) s no_put = printed-uncounted (Unreadable name) s no_put
  err-uncounted (Err SinkFailed) s no_put = s.2
  err-uncounted (Err Memory) s no_put = printed-uncounted Memory s no_put

  out-uncounted : (result : Result Settled Halt) → CountsSink result out → Closes result status err → status ≢ 210 → out.after ≡ out.before
  out-uncounted (Ok settled) c s no_put = c
  out-uncounted (Err (Unreadable name)) c s no_put = c
  out-uncounted (Err SinkFailed) c s no_put = absurd (no_put s.0)
  out-uncounted (Err Memory) c s no_put = c

  store-uncounted : (result : Result Settled Halt) → CountsStore result store → Closes result status err → status ≢ 203 → status ≢ 210 → status ≢ 211 → store.after ≡ store.before
  store-uncounted (Ok settled) c s no_read no_put no_memory = c
  store-uncounted (Err (Unreadable name)) c (inl p) no_read no_put no_memory = absurd (no_read p.0)
  store-uncounted (Err (Unreadable name)) c (inr (inl p)) no_read no_put no_memory = absurd (no_memory p.0)
  store-uncounted (Err (Unreadable name)) c (inr (inr p)) no_read no_put no_memory = absurd (no_put p.0)
  store-uncounted (Err SinkFailed) c s no_read no_put no_memory = c
  store-uncounted (Err Memory) c s no_read no_put no_memory = c

-- ---- the whole call

pub call-made : (words : List (List ℕ)) (result : Result Settled Halt) (status : ℕ) (store : StoreChange) (out err : SinkChange)
    → Obeys (Answers words) (names_read words) result store out → Closes result status err → Called words status store out err
call-made words result status store out err o s =
    let own = answers_are_no_failures words o.files o.answer o.is_one in
    let names = names_read words o.files in
    record {
      files = o.files;
      told = o.told;
      answer = o.answer;
      is_one = o.is_one;
      given = answer-given o.answer own names status store out err result o.meets s;
      unreadable = could-not-read o.answer own names status store out err result o.meets o.unreadable s;
      put_failed = put-failed o.answer own names status store out err result o.meets o.unreadable o.sink_counted s;
      no_memory = no-memory o.answer own names status store out err result o.meets s;
    }

pub call-counts : (IsOne : Files → Answer → Type 0) (names : Files → List (List ℕ)) (result : Result Settled Halt) (status : ℕ) (store : StoreChange) (out err : SinkChange)
    → Obeys IsOne names result store out → Closes result status err → err.before ≤ err.after → Counts status store out err
call-counts IsOne names result status store out err o s count = record {
  store_uncounted = store-uncounted status store out err result o.store_counted s;
  out_uncounted = out-uncounted status store out err result o.sink_counted s;
  err_uncounted = err-uncounted status store out err result s;
  store_count = o.store_count;
  out_count = o.out_count;
  err_count = count;
  kept = o.kept;
}
