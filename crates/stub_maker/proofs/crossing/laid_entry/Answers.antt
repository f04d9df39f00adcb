use Rattle.stub_maker.specs.Rules.{entry_in}
use Rattle.stub_maker.proofs.Marking.{laid_err, laid_not, laid_ok}
use Rattle.stub_maker.proofs.crossing.laid_entry.Goals as goal

pub returns-in-Err : goal.returns-in-Err
returns-in-Err g c =
    laid_err (g.K.KnownTypes.known c.args.known.now) c.in-Err.why
    (entry_in (g.K.KnownTypes.known c.args.known.now) c.args.unicode c.args.column c.args.passed) c.in-Err.ensures

pub returns-then-found : goal.returns-then-found
returns-then-found g c =
    laid_ok (g.K.KnownTypes.known c.args.known.now) c.in-Ok.found
    (entry_in (g.K.KnownTypes.known c.args.known.now) c.args.unicode c.args.column c.args.passed) c.in-Ok.ensures c.if-found.true

pub returns-else-found : goal.returns-else-found
returns-else-found g c =
    laid_not (g.K.KnownTypes.known c.args.known.now) c.in-Ok.found
    (entry_in (g.K.KnownTypes.known c.args.known.now) c.args.unicode c.args.column c.args.passed) c.in-Ok.ensures c.if-found.false
