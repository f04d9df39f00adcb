use Rattle.std.proofs.Common.{◌+◌, [], ◌∷◌, ◌++◌, map, drop}
use Rattle.std.proofs.lemmas.Result.{err_from_is_err_and}
use Rattle.host_bridge.specs.SymbolRun.{Call, initializer}
use Rattle.host_bridge.proofs.Parts.{ran_none, ran_more}
use Rattle.host_bridge.proofs.WholeRuns.{initializers_from, initializers_end, waits_at, ends_in, last_ok, last_err}
use Rattle.host_bridge.proofs.calls.run_calls.Goals as goal

pub loop-init-init : goal.loop-init-init
loop-init-init c = (0, ran_none c.args.lane c.args.stack _)

pub loop-init-preserved : goal.loop-init-preserved
loop-init-preserved c =
    let inits = c.args.inits.now in
    let i = c.loop-init.init-index in
    let function : Call = record { at = c.args.at; words = c.args.words.now } in
    let before = c.loop-init.invariant.0 in (
      c.in_ok-run_call.field-0,
      ran_more c.args.lane c.args.stack _ _ _
          (waits_at c.args.lane c.args.stack _ _ _ before c.loop-init.memory.space c.loop-init.left (initializers_from inits i function c.loop-init-test.true)
          c.loop-init.invariant.1)
          (c.in_ok-run_call.ensures (map initializer (drop (i + 1) inits) ++ function ∷ []) before),
    )

pub returns-in_err-run_call-clause-err : goal.returns-in_err-run_call-clause-err
returns-in_err-run_call-clause-err c =
    let inits = c.args.inits.now in
    let i = c.loop-init.init-index in
    let function : Call = record { at = c.args.at; words = c.args.words.now } in
    let before = c.loop-init.invariant.0 in
    let p = err_from_is_err_and c.from_residual.result c.from_residual.ensures.1 in
    rw (p.1, p.2)
    (ends_in c.args.lane c.args.stack _ _ _ _
    (waits_at c.args.lane c.args.stack _ _ _ before c.loop-init.memory.space c.loop-init.left (initializers_from inits i function c.loop-init-test.true) c.loop-init.invariant.1)
    (c.in_err-run_call.ensures (map initializer (drop (i + 1) inits) ++ function ∷ []) before))

pub returns-clause-ok : goal.returns-clause-ok
returns-clause-ok c =
    let inits = c.args.inits.now in
    let function : Call = record { at = c.args.at; words = c.args.words.now } in
    let before = c.loop-init.invariant.0 in
    last_ok c.args.lane c.args.stack c.run_call-2.result _ _ c.run_call-2.new.memory.space c.run_call-2.new.fuel
    (waits_at c.args.lane c.args.stack _ _ _ before c.loop-init.memory.space c.loop-init.left (initializers_end inits c.loop-init.init-index function c.loop-init-test.false)
    c.loop-init.invariant.1)
    (c.run_call-2.ensures [] before)

pub returns-clause-err : goal.returns-clause-err
returns-clause-err c =
    let inits = c.args.inits.now in
    let function : Call = record { at = c.args.at; words = c.args.words.now } in
    let before = c.loop-init.invariant.0 in
    last_err c.args.lane c.args.stack c.run_call-2.result _ _ _
    (waits_at c.args.lane c.args.stack _ _ _ before c.loop-init.memory.space c.loop-init.left (initializers_end inits c.loop-init.init-index function c.loop-init-test.false)
    c.loop-init.invariant.1)
    (c.run_call-2.ensures [] before)
