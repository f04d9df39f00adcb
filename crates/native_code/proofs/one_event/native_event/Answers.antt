use Rattle.std.proofs.Common.{ap}
use Rattle.native_memory.specs.AddressSpace.{NativeMemory}
use Rattle.rv_machine.specs.Machine.{state_of}
use Rattle.native_code.proofs.EventWants.{wants_before, stopped_at}
use Rattle.native_code.proofs.one_event.native_event.Goals as goal

pub returns-in-At-clause-wants : goal.returns-in-At-clause-wants
returns-in-At-clause-wants c = λ wants.
    let place = c.in-At.place in
    wants_before c.args.regs.now c.step.new.regs c.args.memory.now.space c.step.new.memory.space place
    (c.in-At.ensures.registers (λ e. cc)) (ap (λ (m : NativeMemory). m.space) (c.in-At.ensures.memory (λ e. cc)))
    (stopped_at (state_of c.args.regs.now c.args.memory.now.space) place c.in-At.ensures.outcome) (c.arrive.ensures.wants wants)
