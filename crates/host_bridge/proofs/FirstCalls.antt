-- A run begins with its first initializer, and goes on from what that left.
use Rattle.std.proofs.Common.{◌≡◌, ◌∙◌, ℕ, zero, suc, ◌+◌, ◌≤◌, List, [], ◌∷◌, ◌++◌, map, Some, None, Result, Ok, Err, add-zero, arith, refl, sym, ap, subst}
use Rattle.bound_base.specs.declared.ending.Ending.{Ending}
use Rattle.bound_base.specs.declared.limits.Lane.{Lane}
use Rattle.native_memory.specs.AddressSpace.{AddressSpace}
use Rattle.runs.specs.Machines.{Goes, Stops, Run}
use Rattle.runs.proofs.StepsLaws.{steps_go, steps_none, ended_runs_stay}
use Rattle.host_bridge.specs.SymbolRun.{Call, SymbolState, SymbolNext, symbol_step, symbol_machine, symbol_steps, Outcome, outcome, initializer, start, symbol_run}
use Rattle.host_bridge.specs.SymbolParts.{SymbolRan, SymbolEnds}
use Rattle.host_bridge.specs.Laws.{InitializersComeFirst}
use Rattle.host_bridge.proofs.Parts.{EndOf, end_of, ends_after, outcome_of}
use Rattle.host_bridge.proofs.Events.{Event, Begins, GoesOn, Ends as CallEnds, moves}
use Rattle.host_bridge.proofs.Halts.{Pending, InCall, Before, Halts, Finished, NoFuel, Strayed, halts}
use Rattle.host_bridge.proofs.Extensions.{extended, led_extended}
use Rattle.host_bridge.proofs.MoreFuel.{ends_extended}
use Rattle.host_bridge.proofs.AnswersApart.{Apart, ends_alike}

-- a run that gave something has no call left, and none goes on
record Done (run : SymbolState) : Type 0 where
  native : run.native ≡ None
  calls : run.calls ≡ []

done_of : (lane : Lane) (stack : ℕ) (run : SymbolState) (gives : Result ℕ Ending) (answer : ℕ) → gives ≡ Ok answer → Halts lane stack run gives → Done run
done_of lane stack run gives answer is (Finished native calls) = record { native = native; calls = calls }
done_of lane stack run gives answer is (NoFuel none pending) = absurd (cc)
done_of lane stack run gives answer is (Strayed regs pc left native strays) = absurd (cc)

-- a call takes at least its beginning and its end
not_begun : (lane : Lane) (stack : ℕ) (run new : SymbolState) → run.native ≡ None → new.native ≡ None → Event lane stack run new → ⊥
not_begun lane stack run new before after (Begins call rest native calls) = cc
not_begun lane stack run new before after (GoesOn regs regs' space native next) = let no : Some regs ≡ None = sym native ∙ before in cc
not_begun lane stack run new before after (CallEnds regs native next) = let no : Some regs ≡ None = sym native ∙ before in cc

-- the state after no event, after one, and where a run has ended
no_step : (lane : Lane) (stack : ℕ) (run : SymbolState) → symbol_steps lane stack 0 run ≡ run
no_step lane stack run = ap (λ (r : Run SymbolState ⊥ ⊥). r.state) (steps_none (symbol_machine lane stack) run)

one_step : (lane : Lane) (stack : ℕ) (run new : SymbolState) (output log : List ⊥) → symbol_step lane stack run ≡ Goes new output log → symbol_steps lane stack 1 run ≡ new
one_step lane stack run new output log is =
    ap (λ (r : Run SymbolState ⊥ ⊥). r.state) (steps_go (symbol_machine lane stack) 0 run new output log is) ∙ no_step lane stack new

no_further : (lane : Lane) (stack n : ℕ) (run : SymbolState) (answer : Result ℕ Ending) → symbol_step lane stack run ≡ Stops answer → symbol_steps lane stack n run ≡ run
no_further lane stack n run answer is = ap (λ (r : Run SymbolState ⊥ ⊥). r.state) (ended_runs_stay (symbol_machine lane stack) run answer n is)

not_one : (lane : Lane) (stack : ℕ) (run last : SymbolState) (next : SymbolNext) → symbol_step lane stack run ≡ next → run.native ≡ None → Done last
    → symbol_steps lane stack 1 run ≡ last → (run.calls ≡ [] → ⊥) → ⊥
not_one lane stack run last (Goes new output log) is before done to due =
    let same : new ≡ last = sym (one_step lane stack run new output log is) ∙ to in
    not_begun lane stack run new before (ap (λ (r : SymbolState). r.native) same ∙ done.native) (moves lane stack run new output log is).event
not_one lane stack run last (Stops answer) is before done to due =
    due (ap (λ (r : SymbolState). r.calls) (sym (no_further lane stack 1 run answer is) ∙ to) ∙ done.calls)

two_events : (lane : Lane) (stack n : ℕ) (run last : SymbolState) → run.native ≡ None → Done last → symbol_steps lane stack n run ≡ last → (run.calls ≡ [] → ⊥) → 2 ≤ n
two_events lane stack zero run last before done to due = absurd (due (ap (λ (r : SymbolState). r.calls) (sym (no_step lane stack run) ∙ to) ∙ done.calls))
two_events lane stack (suc zero) run last before done to due = absurd (not_one lane stack run last (symbol_step lane stack run) refl before done to due)
two_events lane stack (suc (suc n)) run last before done to due = omega arith

-- the first initializer alone, and with the rest of the run after it
abbrev alone : ℕ → ℕ → AddressSpace → SymbolState
alone init fuel space = start [] init [] fuel space

due : (inits : List ℕ) (function : Call) (run : SymbolState) → run.native ≡ None → run.calls ≡ map initializer inits ++ function ∷ [] → Pending run
due [] function run native calls = Before function [] native calls
due (init ∷ inits) function run native calls = Before (initializer init) (map initializer inits ++ function ∷ []) native calls

between : (rest : List Call) (more : ℕ) (last next : SymbolState) → last.calls ++ rest ≡ next.calls → last.native ≡ next.native → last.space ≡ next.space
    → extended rest more last ≡ record next { answer = last.answer; fuel = last.fuel + more }
between rest more last next calls native space = cc

-- the run from the end of the first initializer on
goes_on : (lane : Lane) (stack init : ℕ) (inits : List ℕ) (at : ℕ) (words : List ℕ) (fuel more : ℕ) (space after : AddressSpace) (last : SymbolState)
    → SymbolRan lane stack (alone init fuel space) last → Done last → last.space ≡ after
    → outcome lane stack (start (init ∷ inits) at words (fuel + more) space) ≡ outcome lane stack (start inits at words (last.fuel + more) after)
goes_on lane stack init inits at words fuel more space after last ran done left =
    let function : Call = record { at = at; words = words } in
    let rest : List Call = map initializer inits ++ function ∷ [] in
    let first : SymbolState = alone init fuel space in
    let next : SymbolState = start inits at words (last.fuel + more) after in
    let end : EndOf lane stack next = end_of lane stack next in
    let waits : last.calls ++ rest ≡ rest = ap (λ (calls : List Call). calls ++ rest) done.calls in
    let there : extended rest more last ≡ record next { answer = last.answer } = between rest more last next waits done.native left in
    let along : SymbolEnds lane stack (record next { answer = last.answer }) end.answer end.space =
    ends_alike lane stack next (record next { answer = last.answer }) end.answer end.space (Apart last.answer (due inits function next refl refl)) end.ends in
    let from : SymbolEnds lane stack (extended rest more last) end.answer end.space =
    subst (λ (r : SymbolState). SymbolEnds lane stack r end.answer end.space) (sym there) along in
    outcome_of lane stack (extended rest more first) end.answer end.space
    (ends_after lane stack (extended rest more first) (extended rest more last) end.answer end.space (led_extended lane stack rest more first last ran) from)
    ∙ sym (outcome_of lane stack next end.answer end.space end.ends)

err_halts : (lane : Lane) (stack : ℕ) (extra : List Call) (run : SymbolState) (gives : Result ℕ Ending) (ending : Ending) → gives ≡ Err ending → Halts lane stack run gives
    → Halts lane stack (extended extra 0 run) gives
err_halts lane stack extra run gives ending is (Finished native calls) = absurd (cc)
err_halts lane stack extra run gives ending is (NoFuel none (InCall regs native)) = NoFuel (omega arith) (InCall regs native)
err_halts lane stack extra run gives ending is (NoFuel none (Before call rest native calls)) =
    NoFuel (omega arith) (Before call (rest ++ extra) native (ap (λ (waits : List Call). waits ++ extra) calls))
err_halts lane stack extra run gives ending is (Strayed regs pc left native strays) = Strayed regs pc (omega arith) native strays

-- what an end says of the outcome
same_answer : (lane : Lane) (stack : ℕ) (run : SymbolState) (end : EndOf lane stack run) (answer : Result ℕ Ending) (after : AddressSpace)
    → outcome lane stack run ≡ record { answer = answer; space = after } → end.answer ≡ answer
same_answer lane stack run end answer after is = ap (λ (o : Outcome). o.answer) (sym (outcome_of lane stack run end.answer end.space end.ends) ∙ is)

same_space : (lane : Lane) (stack : ℕ) (run : SymbolState) (end : EndOf lane stack run) (answer : Result ℕ Ending) (after : AddressSpace)
    → outcome lane stack run ≡ record { answer = answer; space = after } → end.space ≡ after
same_space lane stack run end answer after is = ap (λ (o : Outcome). o.space) (sym (outcome_of lane stack run end.answer end.space end.ends) ∙ is)

gives : (lane : Lane) (stack init : ℕ) (inits : List ℕ) (at : ℕ) (words : List ℕ) (fuel : ℕ) (space : AddressSpace) (answer : ℕ) (after : AddressSpace)
    → symbol_run lane stack [] init [] fuel space ≡ record { answer = Ok answer; space = after }
    → (left : ℕ) × (left + 2 ≤ fuel) × ((more : ℕ) → symbol_run lane stack (init ∷ inits) at words (fuel + more) space ≡ symbol_run lane stack inits at words (left + more) after)
gives lane stack init inits at words fuel space answer after is =
    let first : SymbolState = alone init fuel space in
    let end : EndOf lane stack first = end_of lane stack first in
    let last : SymbolState = end.ends.last in
    let done : Done last =
    done_of lane stack last end.answer answer (same_answer lane stack first end (Ok answer) after is) (halts lane stack last end.answer end.ends.ends.stops) in
    let to : symbol_steps lane stack end.ends.ends.ran.n first ≡ last = ap (λ (r : Run SymbolState ⊥ ⊥). r.state) end.ends.ends.ran.steps in
    let two : 2 ≤ end.ends.ends.ran.n = two_events lane stack end.ends.ends.ran.n first last refl done to (λ e. cc) in
    let fuels : fuel ≡ last.fuel + end.ends.ends.ran.n = end.ends.ends.ran.fuel in (
      last.fuel,
      omega arith,
      λ more.
          goes_on lane stack init inits at words fuel more space after last end.ends.ends.ran done
          (end.ends.at_end ∙ same_space lane stack first end (Ok answer) after is),
    )

ends : (lane : Lane) (stack init : ℕ) (inits : List ℕ) (at : ℕ) (words : List ℕ) (fuel : ℕ) (space : AddressSpace) (ending : Ending) (after : AddressSpace)
    → symbol_run lane stack [] init [] fuel space ≡ record { answer = Err ending; space = after }
    → symbol_run lane stack (init ∷ inits) at words fuel space ≡ record { answer = Err ending; space = after }
ends lane stack init inits at words fuel space ending after is =
    let function : Call = record { at = at; words = words } in
    let rest : List Call = map initializer inits ++ function ∷ [] in
    let first : SymbolState = alone init fuel space in
    let end : EndOf lane stack first = end_of lane stack first in
    let last : SymbolState = end.ends.last in
    let gives_err : end.answer ≡ Err ending = same_answer lane stack first end (Err ending) after is in
    let there : SymbolEnds lane stack (extended rest 0 first) end.answer end.space =
    ends_extended lane stack rest 0 first end.answer end.space end.ends
    (err_halts lane stack rest last end.answer ending gives_err (halts lane stack last end.answer end.ends.ends.stops)) in
    let whole : outcome lane stack (start (init ∷ inits) at words (fuel + 0) space) ≡ record { answer = end.answer; space = end.space } =
    outcome_of lane stack (extended rest 0 first) end.answer end.space there in
    subst (λ (n : ℕ). outcome lane stack (start (init ∷ inits) at words n space) ≡ record { answer = Err ending; space = after }) (add-zero fuel)
    (whole ∙ sym (outcome_of lane stack first end.answer end.space end.ends) ∙ is)

pub initializers_come_first : InitializersComeFirst
initializers_come_first lane stack init inits at words fuel space = record {
  gives = gives lane stack init inits at words fuel space;
  ends = ends lane stack init inits at words fuel space;
}
