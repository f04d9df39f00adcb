use Rattle.std.proofs.Common.{refl, ap}
use Rattle.bound_base.specs.Limits.{standard}
use Rattle.host_bridge.specs.Places.{first_lane}
use Rattle.host_bridge.specs.SymbolRun.{Outcome, start}
use Rattle.host_run.specs.Native.{native_fuel, run_answer}
use Rattle.host_run.specs.Answer.{done}
use Rattle.host_run.specs.Texts.{number_line}
use Rattle.host_run.proofs.NativeCalls.{native-ending, finishes-ended}
use Rattle.host_run.proofs.Images.{finishes-same}
use Rattle.host_run.proofs.native.call.Goals as goal

pub ended-requires : goal.ended-requires
ended-requires g c =
    native-ending first_lane standard.stack (start c.args.bound.now.inits c.args.at c.args.numbers.now native_fuel c.args.memory.now.space) _ c.in-Err.ending c.in-Err.ensures.err

pub returns-in-Err : goal.returns-in-Err
returns-in-Err g c =
    finishes-ended first_lane standard.stack (start c.args.bound.now.inits c.args.at c.args.numbers.now native_fuel c.args.memory.now.space) _ c.in-Err.ending c.ended.result _ c.in-Err.ensures.err c.ended.ensures refl refl

pub returns-in-Ok : goal.returns-in-Ok
returns-in-Ok g c =
    finishes-same (done (number_line c.in-Ok.number)) _ _ _ (ap (λ (run : Outcome). run_answer run.answer) c.in-Ok.ensures.ok) c.put_result.ensures
