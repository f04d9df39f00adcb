-- Where memory may be wanting for an event, native code would go on.
use Rattle.std.proofs.Common.{◌≡◌, ◌∙◌, ℕ, Bool, true, List, Option, Some, None, sym, ap, subst}
use Rattle.std.specs.Prelude.{IsSome}
use Rattle.native_memory.specs.AddressSpace.{AddressSpace}
use Rattle.native_heap.specs.declared.refusal.HeapBad.{HeapBad}
use Rattle.native_heap.specs.declared.refusal.HeapBad.TheVariants.{Memory}
use Rattle.native_heap.specs.Outcome.{FailsBy}
use Rattle.native_heap.specs.Calls.{called, wants_memory}
use Rattle.native_heap.proofs.Defined.{wants_done}
use Rattle.rv_machine.specs.declared.outcome.Step.TheVariants.{At}
use Rattle.rv_machine.specs.Machine.{State, rv_step}
use Rattle.rv_machine.proofs.Changes.{steps_stop_below_lowest}
use Rattle.host_functions.specs.HostFunctions.{number_at}
use Rattle.rv_machine.specs.declared.registers.Regs.{Regs}
use Rattle.native_code.specs.Events.{after_call, at_place, wants_at, event_wants}
use Rattle.native_code.specs.EventAnswers.{GoesOn}

defined_goes_on : (place : ℕ) (came : Option (List ℕ × AddressSpace)) → IsSome came → GoesOn (after_call place came)
defined_goes_on place (Some (x, memory)) some = tt
defined_goes_on place None some = absurd (cc)

pub wanting_goes_on : (errno place k : ℕ) (x : List ℕ) (space : AddressSpace) (found : Option ℕ) → Some k ≡ found → wants_memory k x space ≡ true
    → GoesOn (at_place errno place x space found)
wanting_goes_on errno place k x space found is wants =
    subst (λ (at : Option ℕ). GoesOn (at_place errno place x space at)) is (defined_goes_on place (called k x space errno) (wants_done k errno x space wants))

-- the place where a step stopped is pc
pub stopped_at : (s : State) (place : ℕ) → At place ≡ (rv_step s).0 → place ≡ s.pc
stopped_at s place is = ((steps_stop_below_lowest s).only place (sym is)).0

-- what is said after a step that stopped is said before it
pub wants_before : (regs regs' : Regs) (space space' : AddressSpace) (place : ℕ) → regs' ≡ regs → space' ≡ space → place ≡ regs.pc
    → wants_at regs'.x space' (number_at place) ≡ true → event_wants regs space ≡ true
wants_before regs regs' space space' place same_regs same_space at_pc wants =
    sym
    (ap (λ (r : Regs). wants_at r.x space' (number_at place)) same_regs
    ∙ ap (λ (m : AddressSpace). wants_at regs.x m (number_at place)) same_space
    ∙ ap (λ (p : ℕ). wants_at regs.x space (number_at p)) at_pc)
    ∙ wants

-- why a call that wants memory failed
pub wanting : (bad : HeapBad) (came : Option (List ℕ × AddressSpace)) (takes : Bool) → bad ≡ Memory → FailsBy bad came takes → takes ≡ true
wanting bad came takes is fails = subst (λ (b : HeapBad). FailsBy b came takes) is fails
