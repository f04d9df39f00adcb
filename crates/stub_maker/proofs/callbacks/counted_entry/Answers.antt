use Rattle.std.proofs.Common.{false, sym}
use Rattle.stub_maker.specs.Rules.{entry_in}
use Rattle.stub_maker.proofs.Calling.{counted_err, counted_not, counted_ok}
use Rattle.stub_maker.proofs.callbacks.counted_entry.Goals as goal

pub returns-in-Err : goal.returns-in-Err
returns-in-Err g c =
    counted_err (g.K.KnownTypes.known c.args.known.now) c.args.params.now c.args.passed c.in-Err.why
    (entry_in (g.K.KnownTypes.known c.args.known.now) false c.args.column c.args.passed) c.in-Err.ensures

pub returns-then-length_is_there : goal.returns-then-length_is_there
returns-then-length_is_there g c =
    counted_ok (g.K.KnownTypes.known c.args.known.now) c.args.params.now c.args.passed c.in-Ok.found
    (entry_in (g.K.KnownTypes.known c.args.known.now) false c.args.column c.args.passed) c.in-Ok.ensures (sym c.if-length_is_there.ensures)

pub returns-else-length_is_there : goal.returns-else-length_is_there
returns-else-length_is_there g c =
    counted_not (g.K.KnownTypes.known c.args.known.now) c.args.params.now c.args.passed c.in-Ok.found
    (entry_in (g.K.KnownTypes.known c.args.known.now) false c.args.column c.args.passed) c.in-Ok.ensures (sym c.if-length_is_there.ensures)
