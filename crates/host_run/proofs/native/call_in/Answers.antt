use Rattle.std.proofs.Common.{rules, refl}
use Rattle.host_run.specs.Answer.{no_symbol}
use Rattle.host_run.specs.Native.{native_of}
use Rattle.host_run.proofs.Outcomes.{finishes-settled}
use Rattle.host_run.proofs.Images.{finishes-same}
use Rattle.host_run.proofs.native.call_in.Goals as goal

pub returns-in-Ok : goal.returns-in-Ok
returns-in-Ok g c =
    finishes-same (no_symbol c.args.symbol.now) (native_of c.args.lib.now c.args.symbol.now c.args.numbers.now c.args.bytes.now) _ _ (search rules) (finishes-settled (no_symbol c.args.symbol.now) c.no_symbol.result _ refl c.no_symbol.ensures refl refl)
