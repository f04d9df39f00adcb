use Rattle.std.proofs.Common.{◌≡◌, arith, refl, ap}
use Rattle.native_memory.specs.AddressSpace.{NativeMemory}
use Rattle.host_bridge.proofs.Parts.{ran_none, ran_more, ends_after, passes_after}
use Rattle.host_bridge.proofs.CallTurns.{goes_on, call_returns, call_faults, call_is_lost, wants_memory, spent_running}
use Rattle.host_bridge.proofs.calls.run_to_return.Goals as goal

same_space : {old new : NativeMemory} → new ≡ old → new.space ≡ old.space
same_space e = ap (λ (m : NativeMemory). m.space) e

pub loop-fuel-init : goal.loop-fuel-init
loop-fuel-init c = λ stack rest before. ran_none c.args.lane stack _

pub loop-fuel-preserved : goal.loop-fuel-preserved
loop-fuel-preserved c = λ stack rest before.
    ran_more c.args.lane stack _ _ _ (c.loop-fuel.invariant stack rest before)
    (goes_on c.args.lane stack c.loop-fuel.regs c.native_event.new.regs rest before c.loop-fuel.memory.space c.native_event.new.memory.space c.loop-fuel.fuel (omega arith)
    c.in-Went.ensures.next)

pub returns-in-Arrived : goal.returns-in-Arrived
returns-in-Arrived c = λ stack rest before.
    ran_more c.args.lane stack _ _ _ (c.loop-fuel.invariant stack rest before)
    (call_returns c.args.lane stack c.loop-fuel.regs c.native_event.new.regs rest before c.in-Arrived.place c.loop-fuel.memory.space c.native_event.new.memory.space
    c.loop-fuel.fuel (omega arith) c.in-Arrived.ensures.next c.if-place-ne-RETURN.false (c.in-Arrived.ensures.registers (λ e. cc))
    (same_space (c.in-Arrived.ensures.memory (λ e. cc))))

pub returns-then-place-ne-RETURN : goal.returns-then-place-ne-RETURN
returns-then-place-ne-RETURN c = λ stack rest before.
    ends_after c.args.lane stack _ _ _ _ (c.loop-fuel.invariant stack rest before)
    (call_is_lost c.args.lane stack c.loop-fuel.regs rest before c.loop-fuel.memory.space c.native_event.new.memory.space c.loop-fuel.fuel c.in-Arrived.place (omega arith)
    c.in-Arrived.ensures.next c.if-place-ne-RETURN.true (same_space (c.in-Arrived.ensures.memory (λ e. cc))))

pub returns-in-Faulted : goal.returns-in-Faulted
returns-in-Faulted c = λ stack rest before.
    ends_after c.args.lane stack _ _ _ _ (c.loop-fuel.invariant stack rest before)
    (call_faults c.args.lane stack c.loop-fuel.regs rest before c.loop-fuel.memory.space c.native_event.new.memory.space c.loop-fuel.fuel c.in-Faulted.pc (omega arith)
    c.in-Faulted.ensures.next (same_space (c.in-Faulted.ensures.memory (λ e. cc))))

pub returns-in-Memory : goal.returns-in-Memory
returns-in-Memory c = λ stack rest before.
    passes_after c.args.lane stack _ _ _ (c.loop-fuel.invariant stack rest before)
    (wants_memory c.args.lane stack c.loop-fuel.regs rest before c.loop-fuel.memory.space c.native_event.new.memory.space c.loop-fuel.fuel (omega arith)
    (c.in-Memory.ensures.wants refl) c.in-Memory.ensures.next (same_space (c.in-Memory.ensures.memory (λ e. cc))))

pub returns : goal.returns
returns c = λ stack rest before.
    ends_after c.args.lane stack _ _ _ _ (c.loop-fuel.invariant stack rest before)
    (spent_running c.args.lane stack c.loop-fuel.regs rest before c.loop-fuel.memory.space c.loop-fuel.fuel (omega arith))
