-- A run that its fuel doesn't end is the same with more fuel.
use Rattle.std.proofs.Common.{◌≡◌, ◌≢◌, ◌∙◌, ℕ, ◌+◌, List, [], ◌∷◌, ◌++◌, map, append-nil, Result, Err, arith, refl, sym, ap, subst}
use Rattle.bound_base.specs.declared.ending.Ending.{Ending}
use Rattle.bound_base.specs.declared.ending.Ending.TheVariants.{Spent}
use Rattle.bound_base.specs.declared.limits.Lane.{Lane}
use Rattle.native_memory.specs.AddressSpace.{AddressSpace}
use Rattle.host_bridge.specs.SymbolRun.{Call, SymbolState, Outcome, outcome, initializer, start}
use Rattle.host_bridge.specs.SymbolParts.{SymbolEnds}
use Rattle.host_bridge.specs.Laws.{MoreFuelIsTheSame}
use Rattle.host_bridge.proofs.Parts.{EndOf, end_of, outcome_of}
use Rattle.host_bridge.proofs.Halts.{Halts, Finished, NoFuel, Strayed, halts, stops}
use Rattle.host_bridge.proofs.Extensions.{extended, led_extended}

-- an end, where the run is extended and stops there too
pub ends_extended : (lane : Lane) (stack : ℕ) (extra : List Call) (more : ℕ) (run : SymbolState) (answer : Result ℕ Ending) (space : AddressSpace)
    → (ends : SymbolEnds lane stack run answer space) → Halts lane stack (extended extra more ends.last) answer → SymbolEnds lane stack (extended extra more run) answer space
ends_extended lane stack extra more run answer space it halts_there =
    let there : SymbolState = extended extra more it.last in
    record {
      last = there;
      ends = record { ran = led_extended lane stack extra more run it.last it.ends.ran; stops = stops lane stack there answer halts_there };
      at_end = it.at_end;
    }

fueled_halts : (lane : Lane) (stack more : ℕ) (run : SymbolState) (answer : Result ℕ Ending) → answer ≢ Err Spent → Halts lane stack run answer
    → Halts lane stack (extended [] more run) answer
fueled_halts lane stack more run answer other (Finished native calls) = Finished native (ap (λ (waits : List Call). waits ++ []) calls)
fueled_halts lane stack more run answer other (NoFuel none pending) = absurd (other refl)
fueled_halts lane stack more run answer other (Strayed regs pc left native strays) = Strayed regs pc (omega arith) native strays

more_fuel : (lane : Lane) (stack : ℕ) (inits : List ℕ) (at : ℕ) (words : List ℕ) (fuel more : ℕ) (space : AddressSpace)
    → (end : EndOf lane stack (start inits at words fuel space)) → end.answer ≢ Err Spent
    → outcome lane stack (start inits at words (fuel + more) space) ≡ record { answer = end.answer; space = end.space }
more_fuel lane stack inits at words fuel more space end other =
    let run : SymbolState = start inits at words fuel space in
    let last : SymbolState = end.ends.last in
    let ends : SymbolEnds lane stack (extended [] more run) end.answer end.space =
    ends_extended lane stack [] more run end.answer end.space end.ends
    (fueled_halts lane stack more last end.answer other (halts lane stack last end.answer end.ends.ends.stops)) in
    let function : Call = record { at = at; words = words } in
    let same : (map initializer inits ++ function ∷ []) ++ [] ≡ map initializer inits ++ function ∷ [] = append-nil _ in
    subst (λ (calls : List Call). outcome lane stack (record (start inits at words (fuel + more) space) { calls = calls }) ≡ record { answer = end.answer; space = end.space }) same
    (outcome_of lane stack (extended [] more run) end.answer end.space ends)

pub more_fuel_is_the_same : MoreFuelIsTheSame
more_fuel_is_the_same lane stack inits at words fuel more space other =
    let run : SymbolState = start inits at words fuel space in
    let end : EndOf lane stack run = end_of lane stack run in
    let is : outcome lane stack run ≡ record { answer = end.answer; space = end.space } = outcome_of lane stack run end.answer end.space end.ends in
    more_fuel lane stack inits at words fuel more space end (λ spent. other (ap (λ (o : Outcome). o.answer) is ∙ spent)) ∙ sym is
