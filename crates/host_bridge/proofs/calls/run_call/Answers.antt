use Rattle.std.proofs.Common.{◌∙◌, arith, ap}
use Rattle.native_code.specs.Entry.{entry_registers}
use Rattle.host_bridge.specs.SymbolRun.{Call}
use Rattle.host_bridge.proofs.CallTurns.{begins, comes_after, spent_waiting}
use Rattle.host_bridge.proofs.calls.run_call.Goals as goal

pub returns-then-fuel-eq0 : goal.returns-then-fuel-eq0
returns-then-fuel-eq0 c = λ rest before. spent_waiting c.args.lane c.args.stack _ rest before _ _ c.if-fuel-eq0.true

pub returns : goal.returns
returns c = λ rest before.
    let call : Call = record { at = c.args.at; words = c.args.words.now } in
    comes_after c.args.lane c.args.stack c.run_to_return.result _ _ _
    (begins c.args.lane c.args.stack call c.entry_registers-regs.result rest before c.args.memory.now.space c.args.fuel.now (omega arith)
    (c.entry_registers-regs.ensures ∙ ap (λ sp. entry_registers call.at sp call.words) c.first_sp.ensures))
    (c.run_to_return.ensures c.args.stack rest before)
