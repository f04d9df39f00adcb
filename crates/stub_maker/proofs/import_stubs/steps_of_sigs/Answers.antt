use Rattle.std.proofs.Common.{Ok, ap, sym, arith, rules, ◌∙◌}
use Rattle.stub_maker.specs.Rules.{step_of}
use Rattle.stub_maker.proofs.SigSteps.{sig_fails, sig_taken, sigs_ended}
use Rattle.stub_maker.proofs.import_stubs.steps_of_sigs.Goals as goal

pub returns-in_err-step : goal.returns-in_err-step
returns-in_err-step g c =
    let h = sig_fails (step_of (g.K.KnownTypes.known c.args.known.now) c.args.unicode) c.args.types.now c.args.method c.args.sigs.now
    c.loop-index.index c.index-sigs-index.result c.loop-index.steps _ c.loop-index-test.true c.index-sigs-index.is c.loop-index.invariant c.in_err-step.ensures in
    search rules

pub loop-index-preserved : goal.loop-index-preserved
loop-index-preserved g c =
    sig_taken (step_of (g.K.KnownTypes.known c.args.known.now) c.args.unicode) c.args.types.now c.args.method c.args.sigs.now
    c.loop-index.index c.index-sigs-index.result c.loop-index.steps c.in_ok-step.step c.loop-index-test.true c.index-sigs-index.is c.loop-index.invariant c.in_ok-step.ensures
    ∙ ap Ok (sym c.in_ok-push.ensures.ok)

pub returns : goal.returns
returns g c =
    sigs_ended (step_of (g.K.KnownTypes.known c.args.known.now) c.args.unicode) c.args.types.now c.args.method c.args.sigs.now
    c.loop-index.index c.loop-index.steps (omega arith) c.loop-index.invariant
