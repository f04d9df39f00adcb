-- Two runs that differ at most in what the last call gave end in one way, where an event is due.
use Rattle.std.proofs.Common.{◌≡◌, ◌∙◌, ℕ, ◌-◌, ◌<◌, [], ◌∷◌, Some, None, Result, refl, sym, subst}
use Rattle.bound_base.specs.declared.ending.Ending.{Ending}
use Rattle.bound_base.specs.declared.limits.Lane.{Lane}
use Rattle.native_memory.specs.AddressSpace.{AddressSpace}
use Rattle.host_bridge.specs.SymbolRun.{SymbolState, begun, call_ended}
use Rattle.host_bridge.specs.SymbolParts.{SymbolRan, SymbolEnds}
use Rattle.host_bridge.proofs.Events.{Event, Begins, GoesOn, Ends as CallEnds, Moves}
use Rattle.host_bridge.proofs.Halts.{Pending, InCall, Before, Halts, Finished, NoFuel, Strayed, halts, stops}
use Rattle.host_bridge.proofs.Extensions.{led_along}

abbrev with_answer : SymbolState → ℕ → SymbolState
with_answer run answer = record run { answer = answer }

pub data Alike (run : SymbolState) : SymbolState → Type 0 where
  Same : Alike run run
  Apart : (answer : ℕ) → Pending run → Alike run (record run { answer = answer })

-- an event of a run, with one of another that is alike afterwards
abbrev Follows : Lane → ℕ → SymbolState → SymbolState → Type 0
Follows lane stack other new = (other' : SymbolState) × Moves lane stack other other' × Alike new other'

follows_apart : (lane : Lane) (stack : ℕ) (run new : SymbolState) (answer : ℕ) → 0 < run.fuel → Event lane stack run new → Follows lane stack (with_answer run answer) new
follows_apart lane stack run new answer left (Begins call rest native calls) =
    (with_answer (begun lane stack run call rest) answer, record { left = left; event = Begins call rest native calls }, Apart answer (InCall _ refl))
follows_apart lane stack run new answer left (GoesOn regs regs' space native next) =
    (with_answer (record run { native = Some regs'; space = space; fuel = run.fuel - 1 }) answer, record { left = left; event = GoesOn regs regs' space native next }, Apart answer (InCall regs' refl))
follows_apart lane stack run new answer left (CallEnds regs native next) =
    (call_ended run regs, record { left = left; event = CallEnds regs native next }, Same)

follows : (lane : Lane) (stack : ℕ) (run new other : SymbolState) → Alike run other → Moves lane stack run new → Follows lane stack other new
follows lane stack run new other Same it = (new, it, Same)
follows lane stack run new other (Apart answer pending) it = follows_apart lane stack run new answer it.left it.event

pending_apart : (run : SymbolState) (answer : ℕ) → Pending run → Pending (with_answer run answer)
pending_apart run answer (InCall regs is) = InCall regs is
pending_apart run answer (Before call rest native calls) = Before call rest native calls

not_finished : (run : SymbolState) → Pending run → run.native ≡ None → run.calls ≡ [] → ⊥
not_finished run (InCall regs is) native calls = let no : Some regs ≡ None = sym is ∙ native in cc
not_finished run (Before call rest is waits) native calls = let no : call ∷ rest ≡ [] = sym waits ∙ calls in cc

halts_apart : (lane : Lane) (stack : ℕ) (run : SymbolState) (answer : ℕ) (gives : Result ℕ Ending) → Pending run → Halts lane stack run gives
    → Halts lane stack (with_answer run answer) gives
halts_apart lane stack run answer gives pending (Finished native calls) = absurd (not_finished run pending native calls)
halts_apart lane stack run answer gives pending (NoFuel none due) = NoFuel none (pending_apart run answer due)
halts_apart lane stack run answer gives pending (Strayed regs pc left native strays) = Strayed regs pc left native strays

-- the end of a run, and of one that is alike
ends_at : (lane : Lane) (stack : ℕ) (run last other : SymbolState) (gives : Result ℕ Ending) → SymbolRan lane stack run other → Alike last other → Halts lane stack last gives
    → SymbolEnds lane stack run gives last.space
ends_at lane stack run last other gives ran Same halting =
    record { last = last; ends = record { ran = ran; stops = stops lane stack last gives halting }; at_end = refl }
ends_at lane stack run last other gives ran (Apart answer pending) halting = record {
  last = with_answer last answer;
  ends = record { ran = ran; stops = stops lane stack (with_answer last answer) gives (halts_apart lane stack last answer gives pending halting) };
  at_end = refl;
}

pub ends_alike : (lane : Lane) (stack : ℕ) (run other : SymbolState) (gives : Result ℕ Ending) (space : AddressSpace) → Alike run other → SymbolEnds lane stack run gives space
    → SymbolEnds lane stack other gives space
ends_alike lane stack run other gives space is ends =
    let last : SymbolState = ends.last in
    let it = led_along lane stack Alike (follows lane stack) run last other is ends.ends.ran in
    subst (λ (m : AddressSpace). SymbolEnds lane stack other gives m) ends.at_end
    (ends_at lane stack other last it.other' gives it.ran it.beside (halts lane stack last gives ends.ends.stops))
