-- What an event of native code does to memory.
use Rattle.std.proofs.Common.{◌≡◌, ◌∙◌, ℕ, List, Option, Some, None, refl, sym, ap, subst}
use Rattle.host_functions.specs.HostFunctions.{number_at}
use Rattle.native_memory.specs.AddressSpace.{AddressSpace}
use Rattle.native_memory.specs.Changes.{OnlyHeapChanges}
use Rattle.native_memory.specs.Sound.{IsSound}
use Rattle.native_heap.specs.Calls.{called}
use Rattle.native_heap.proofs.CallsKeep.{call_changes}
use Rattle.rv_machine.specs.declared.outcome.Step.{Step}
use Rattle.rv_machine.specs.declared.outcome.Step.TheVariants.{Went, At, Fault}
use Rattle.rv_machine.specs.declared.registers.Regs.{Regs}
use Rattle.rv_machine.specs.Machine.{State, state_of, rv_step}
use Rattle.rv_machine.proofs.Changes.{faults_change_nothing, step_changes}
use Rattle.native_code.specs.Events.{Continues, after_call, at_place, after_step, native_next}
use Rattle.native_code.specs.Laws.{EventsKeepOthers}

of_call : (k errno place : ℕ) (x : List ℕ) (regs' : Regs) (old new : AddressSpace) (came : Option (List ℕ × AddressSpace)) → IsSound old
    → called k x old errno ≡ came → after_call place came ≡ Continues regs' new → OnlyHeapChanges old new
of_call k errno place x regs' old new (Some (x', mid)) sound is e =
    let same : mid ≡ new = cc in
    subst (λ (space : AddressSpace). OnlyHeapChanges old space) same (call_changes k errno x x' old mid sound is)
of_call k errno place x regs' old new None sound is e = absurd (cc)

of_place : (errno place : ℕ) (x : List ℕ) (regs' : Regs) (old new : AddressSpace) (k : Option ℕ) → IsSound old → at_place errno place x old k ≡ Continues regs' new
    → OnlyHeapChanges old new
of_place errno place x regs' old new (Some k) sound e = of_call k errno place x regs' old new (called k x old errno) sound refl e
of_place errno place x regs' old new None sound e = absurd (cc)

of_step : (errno : ℕ) (s : State) (regs' : Regs) (new : AddressSpace) (came : Step) → IsSound s.memory → (rv_step s).0 ≡ came
    → after_step errno came (rv_step s).1 ≡ Continues regs' new → OnlyHeapChanges s.memory new
of_step errno s regs' new Went sound is e =
    let same : (rv_step s).1.memory ≡ new = cc in
    subst (λ (space : AddressSpace). OnlyHeapChanges s.memory space) same (step_changes s sound)
of_step errno s regs' new (At place) sound is e =
    let stays : (rv_step s).1 ≡ s = faults_change_nothing s (λ went. let no : At place ≡ Went = sym is ∙ went in cc) in
    let there : at_place errno place s.x s.memory (number_at place) ≡ Continues regs' new =
    ap (λ (t : State). at_place errno place t.x t.memory (number_at place)) (sym stays) ∙ e in
    of_place errno place s.x regs' s.memory new (number_at place) sound there
of_step errno s regs' new (Fault fault) sound is e = absurd (cc)

pub events_keep_others : EventsKeepOthers
unfolding native_next
events_keep_others errno regs regs' old new sound e = of_step errno (state_of regs old) regs' new (rv_step (state_of regs old)).0 sound refl e
