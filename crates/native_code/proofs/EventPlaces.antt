-- A fault of native code names its pc, and so does an arrival.
use Rattle.std.proofs.Common.{◌≡◌, ◌∙◌, ℕ, List, Option, Some, None, refl, sym, ap}
use Rattle.native_memory.specs.AddressSpace.{AddressSpace}
use Rattle.native_heap.specs.Calls.{called}
use Rattle.rv_machine.specs.declared.outcome.Step.{Step}
use Rattle.rv_machine.specs.declared.outcome.Step.TheVariants.{Went, At, Fault}
use Rattle.rv_machine.specs.Machine.{State, state_of, rv_step}
use Rattle.rv_machine.proofs.Changes.{faults_change_nothing, steps_stop_below_lowest}
use Rattle.host_functions.specs.HostFunctions.{number_at}
use Rattle.native_code.specs.Events.{Arrives, Faults, after_call, at_place, after_step, native_next}
use Rattle.native_code.specs.Laws.{FaultsNameTheirPlace, IsArrival, ArrivalsNameTheirPlace}

fault_of_call : (place pc : ℕ) (came : Option (List ℕ × AddressSpace)) → after_call place came ≡ Faults pc → pc ≡ place
fault_of_call place pc (Some (x, memory)) e = cc
fault_of_call place pc None e = cc

fault_at : (errno place pc : ℕ) (x : List ℕ) (memory : AddressSpace) (k : Option ℕ) → at_place errno place x memory k ≡ Faults pc → pc ≡ place
fault_at errno place pc x memory (Some k) e = fault_of_call place pc (called k x memory errno) e
fault_at errno place pc x memory None e = cc

fault_of_step : (errno pc : ℕ) (s : State) (came : Step) → (rv_step s).0 ≡ came → after_step errno came (rv_step s).1 ≡ Faults pc → pc ≡ s.pc
fault_of_step errno pc s Went is e = cc
fault_of_step errno pc s (At place) is e =
    fault_at errno place pc (rv_step s).1.x (rv_step s).1.memory (number_at place) e ∙ ((steps_stop_below_lowest s).only place is).0
fault_of_step errno pc s (Fault fault) is e =
    let named : (rv_step s).1.pc ≡ pc = cc in
    sym named ∙ ap (λ (t : State). t.pc) (faults_change_nothing s (λ went. let no : Fault fault ≡ Went = sym is ∙ went in cc))

pub faults_name_their_place : FaultsNameTheirPlace
unfolding native_next
faults_name_their_place errno regs memory pc e = fault_of_step errno pc (state_of regs memory) (rv_step (state_of regs memory)).0 refl e

arrival_of_call : (place to : ℕ) (came : Option (List ℕ × AddressSpace)) → after_call place came ≡ Arrives to → ⊥
arrival_of_call place to (Some (x, memory)) e = cc
arrival_of_call place to None e = cc

-- at a place where a step stopped
arrival_at : (errno place to : ℕ) (x : List ℕ) (memory : AddressSpace) (k : Option ℕ) → at_place errno place x memory k ≡ Arrives to → (to ≡ place) × (k ≡ None)
arrival_at errno place to x memory (Some k) e = absurd (arrival_of_call place to (called k x memory errno) e)
arrival_at errno place to x memory None e = (cc, refl)

arrival_of_step : (errno to : ℕ) (s : State) (came : Step) → (rv_step s).0 ≡ came → after_step errno came (rv_step s).1 ≡ Arrives to → IsArrival s.pc to
arrival_of_step errno to s Went is e = absurd (cc)
arrival_of_step errno to s (At place) is e =
    let there = arrival_at errno place to (rv_step s).1.x (rv_step s).1.memory (number_at place) e in
    let stopped = (steps_stop_below_lowest s).only place is in
    record { same = there.0 ∙ stopped.0; low = stopped.1; free = ap (λ p. number_at p) (sym stopped.0) ∙ there.1 }
arrival_of_step errno to s (Fault fault) is e = absurd (cc)

pub arrivals_name_their_place : ArrivalsNameTheirPlace
unfolding native_next
arrivals_name_their_place errno regs memory place e =
    arrival_of_step errno place (state_of regs memory) (rv_step (state_of regs memory)).0 refl e
