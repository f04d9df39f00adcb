-- How runs of a symbol end, and where they fault.
use Rattle.std.proofs.Common.{◌≡◌, ◌∙◌, ℕ, Some, Result, Err, refl, sym, ap, subst}
use Rattle.bound_base.specs.declared.ending.Ending.{Ending}
use Rattle.bound_base.specs.declared.ending.Ending.TheVariants.{InitFault}
use Rattle.bound_base.specs.declared.limits.Lane.{Lane}
use Rattle.native_memory.specs.AddressSpace.{AddressSpace}
use Rattle.rv_machine.specs.declared.registers.Regs.{Regs}
use Rattle.native_code.specs.Events.{NativeNext, native_next}
use Rattle.native_code.proofs.EventPlaces as places
use Rattle.host_bridge.specs.SymbolRun.{SymbolState, Outcome, start, IsSymbolEnding}
use Rattle.host_bridge.specs.Laws.{FaultsNameTheirPlace, RunsEndInThreeWays}
use Rattle.host_bridge.proofs.Halts.{Strays, Faulted, Lost, Halts, Finished, NoFuel, Strayed, halts}
use Rattle.host_bridge.proofs.Parts.{EndOf, end_of, outcome_of}

ending_of_halt : (lane : Lane) (stack : ℕ) (run : SymbolState) (answer : Result ℕ Ending) → Halts lane stack run answer → IsSymbolEnding answer
ending_of_halt lane stack run answer (Finished native calls) = tt
ending_of_halt lane stack run answer (NoFuel none pending) = tt
ending_of_halt lane stack run answer (Strayed regs pc left native strays) = tt

pub symbol_runs_end : RunsEndInThreeWays
symbol_runs_end lane stack inits at words fuel space =
    let run : SymbolState = start inits at words fuel space in
    let end : EndOf lane stack run = end_of lane stack run in
    let it : IsSymbolEnding end.answer = ending_of_halt lane stack end.ends.last end.answer (halts lane stack end.ends.last end.answer end.ends.ends.stops) in
    subst (λ (answer : Result ℕ Ending). IsSymbolEnding answer) (sym (ap (λ (o : Outcome). o.answer) (outcome_of lane stack run end.answer end.space end.ends))) it

-- where native code strays, it names its pc
strays_at : (errno : ℕ) (regs : Regs) (space : AddressSpace) (next : NativeNext) (pc : ℕ) → native_next errno regs space ≡ next → Strays next pc → pc ≡ regs.pc
strays_at errno regs space next pc is (Faulted pc') = places.faults_name_their_place errno regs space pc is
strays_at errno regs space next pc is (Lost place other) = (places.arrivals_name_their_place errno regs space pc is).same

-- the pc of the call that goes on
record NamesPc (run : SymbolState) (pc : ℕ) : Type 0 where
  regs : Regs
  native : run.native ≡ Some regs
  is : pc ≡ regs.pc

fault_at : (lane : Lane) (stack : ℕ) (run : SymbolState) (answer : Result ℕ Ending) (pc : ℕ) → answer ≡ Err (InitFault pc) → Halts lane stack run answer → NamesPc run pc
fault_at lane stack run answer pc is (Finished native calls) = absurd (cc)
fault_at lane stack run answer pc is (NoFuel none pending) = absurd (cc)
fault_at lane stack run answer pc is (Strayed regs pc' left native strays) =
    let same : pc' ≡ pc = cc in
    record { regs = regs; native = native; is = sym same ∙ strays_at lane.errno regs run.space _ pc' refl strays }

pub faults_name_their_place : FaultsNameTheirPlace
faults_name_their_place lane stack run pc e =
    let it = fault_at lane stack run (Err (InitFault pc)) pc refl (halts lane stack run (Err (InitFault pc)) e) in
    (it.regs, it.native, it.is)
