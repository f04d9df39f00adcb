use Rattle.std.proofs.Common.{Ok, ap, rules, sym, ◌∙◌}
use Rattle.stub_maker.specs.Rules.{step_of}
use Rattle.stub_maker.proofs.Stepping.{step_fails, step_taken}
use Rattle.stub_maker.proofs.steps.steps_of.Goals as goal

pub returns-in_err-step_at : goal.returns-in_err-step_at
returns-in_err-step_at g c =
    let h = step_fails (step_of (g.K.KnownTypes.known c.args.known.now) c.args.unicode) c.args.params.now c.loop-index.index _ c.loop-index.steps _
    c.loop-index-test.true c.loop-index.invariant c.in_err-step_at.ensures in
    search rules

pub loop-index-preserved : goal.loop-index-preserved
loop-index-preserved g c =
    step_taken (step_of (g.K.KnownTypes.known c.args.known.now) c.args.unicode) c.args.params.now c.loop-index.index _ c.loop-index.steps c.in_ok-step_at.field-0
    c.loop-index-test.true c.loop-index.invariant c.in_ok-step_at.ensures
    ∙ ap Ok (sym c.in_ok-push.ensures.ok)
