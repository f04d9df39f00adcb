-- Runs of a symbol as runs of any machine.
use Rattle.std.proofs.Common.{◌≡◌, ◌∙◌, ℕ, List, [], Result, refl, ap, subst}
use Rattle.bound_base.specs.declared.ending.Ending.{Ending}
use Rattle.bound_base.specs.declared.limits.Lane.{Lane}
use Rattle.native_memory.specs.AddressSpace.{AddressSpace}
use Rattle.runs.specs.Machines.{Run, Stops}
use Rattle.runs.specs.Runs.{Ends}
use Rattle.runs.proofs.StepsLaws as steps
use Rattle.runs.proofs.Parts as parts
use Rattle.runs.proofs.RunEnds as ends
use Rattle.host_bridge.specs.SymbolRun.{SymbolState, goes, symbol_step, symbol_machine, symbol_steps, Outcome, ending_of, outcome}
use Rattle.host_bridge.specs.SymbolParts.{SymbolRan, SymbolEnds, SymbolPasses}
use Rattle.host_bridge.specs.Laws.{RunsEnd, EndedRunsStay}
use Rattle.host_bridge.proofs.Events.{takes_fuel, no_pieces}

pub ran_none : (lane : Lane) (stack : ℕ) (run : SymbolState) → SymbolRan lane stack run run
ran_none lane stack run = parts.ran_none (symbol_machine lane stack) run

pub ran_one : (lane : Lane) (stack : ℕ) (old new : SymbolState) → symbol_step lane stack old ≡ goes new → SymbolRan lane stack old new
ran_one lane stack old new is = parts.ran_one (symbol_machine lane stack) old new [] [] is (takes_fuel lane stack old new [] [] is)

pub ran_more : (lane : Lane) (stack : ℕ) (old mid new : SymbolState) → SymbolRan lane stack old mid → SymbolRan lane stack mid new → SymbolRan lane stack old new
ran_more lane stack old mid new a b = parts.ran_more (symbol_machine lane stack) old mid new [] [] [] [] a b

pub ends_here : (lane : Lane) (stack : ℕ) (run : SymbolState) (answer : Result ℕ Ending) → symbol_step lane stack run ≡ Stops answer → SymbolEnds lane stack run answer run.space
ends_here lane stack run answer stops = record { last = run; ends = parts.ends_here (symbol_machine lane stack) run answer stops; at_end = refl }

pub ends_after : (lane : Lane) (stack : ℕ) (old mid : SymbolState) (answer : Result ℕ Ending) (space : AddressSpace) → SymbolRan lane stack old mid
    → SymbolEnds lane stack mid answer space → SymbolEnds lane stack old answer space
ends_after lane stack old mid answer space a b = record {
  last = b.last;
  ends = parts.ends_after (symbol_machine lane stack) old mid b.last [] [] [] [] answer a b.ends;
  at_end = b.at_end;
}

pub passes_after : (lane : Lane) (stack : ℕ) (old mid : SymbolState) (space : AddressSpace) → SymbolRan lane stack old mid → SymbolPasses lane stack mid space
    → SymbolPasses lane stack old space
passes_after lane stack old mid space a b = record {
  between = b.between;
  ran = ran_more lane stack old mid b.between a b.ran;
  regs = b.regs;
  in_call = b.in_call;
  wants = b.wants;
  next = b.next;
  would_go = b.would_go;
  at_end = b.at_end;
}

-- the outcome is that of the last state
at_last : (lane : Lane) (stack : ℕ) (run last : SymbolState) (answer : Result ℕ Ending) → symbol_steps lane stack run.fuel run ≡ last → symbol_step lane stack last ≡ Stops answer
    → outcome lane stack run ≡ record { answer = answer; space = last.space }
unfolding outcome
at_last lane stack run last answer is stops =
    ap (λ (s : SymbolState). let o : Outcome = record { answer = ending_of (symbol_step lane stack s); space = s.space } in o) is
    ∙ ap (λ next. let o : Outcome = record { answer = ending_of next; space = last.space } in o) stops

-- as many events as there is fuel lead to the end of a run
pub to_last : (lane : Lane) (stack : ℕ) (run last : SymbolState) (output log : List ⊥) (answer : Result ℕ Ending) → Ends (symbol_machine lane stack) run last output log answer
    → symbol_steps lane stack run.fuel run ≡ last
to_last lane stack run last output log answer ends =
    ap (λ (r : Run SymbolState ⊥ ⊥). r.state) (parts.fuel_leads_to_ends (symbol_machine lane stack) run last output log answer ends)

pub outcome_of : (lane : Lane) (stack : ℕ) (run : SymbolState) (answer : Result ℕ Ending) (space : AddressSpace) → SymbolEnds lane stack run answer space
    → outcome lane stack run ≡ record { answer = answer; space = space }
outcome_of lane stack run answer space it =
    at_last lane stack run it.last answer (to_last lane stack run it.last [] [] answer it.ends) it.ends.stops
    ∙ ap (λ m. let o : Outcome = record { answer = answer; space = m } in o) it.at_end

-- a run's end
pub record EndOf (lane : Lane) (stack : ℕ) (run : SymbolState) : Type 0 where
  pub answer : Result ℕ Ending
  pub space : AddressSpace
  pub ends : SymbolEnds lane stack run answer space

-- of pieces of which there are none
quiet_end : (lane : Lane) (stack : ℕ) (run last : SymbolState) (output log : List ⊥) (answer : Result ℕ Ending) → output ≡ [] → log ≡ []
    → Ends (symbol_machine lane stack) run last output log answer → Ends (symbol_machine lane stack) run last [] [] answer
quiet_end lane stack run last output log answer none no_entries ends =
    subst (λ (out : List ⊥). Ends (symbol_machine lane stack) run last out [] answer) none
    (subst (λ (entries : List ⊥). Ends (symbol_machine lane stack) run last output entries answer) no_entries ends)

pub end_of : (lane : Lane) (stack : ℕ) (run : SymbolState) → EndOf lane stack run
end_of lane stack run =
    let it = ends.runs_end (symbol_machine lane stack) (takes_fuel lane stack) run in record {
      answer = it.ending;
      space = it.last.space;
      ends = record {
        last = it.last;
        ends = quiet_end lane stack run it.last it.output it.log it.ending (no_pieces it.output) (no_pieces it.log) it.ends;
        at_end = refl;
      };
    }

pub runs_end : RunsEnd
runs_end lane stack run =
    let end = end_of lane stack run in
    let last : SymbolState = end.ends.last in
    (end.answer, ap (symbol_step lane stack) (to_last lane stack run last [] [] end.answer end.ends.ends) ∙ end.ends.ends.stops)

pub ended_runs_stay : EndedRunsStay
ended_runs_stay lane stack run answer n stops =
    ap (λ (r : Run SymbolState ⊥ ⊥). r.state) (steps.ended_runs_stay (symbol_machine lane stack) run answer n stops)
