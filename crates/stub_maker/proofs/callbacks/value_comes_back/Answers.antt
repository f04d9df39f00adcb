use Rattle.std.proofs.Common.{false, ◌∙◌}
use Rattle.stub_maker.specs.declared.table.Column.TheVariants as col
use Rattle.stub_maker.specs.Answers.{and_then}
use Rattle.stub_maker.specs.Rules.{entry_in, laid, returned_by}
use Rattle.stub_maker.proofs.Calling.{laid_is_ok, mapped_is_ok}
use Rattle.stub_maker.proofs.callbacks.value_comes_back.Goals as goal

pub returns : goal.returns
returns g c =
    c.is_ok.ensures.value
    ∙ (laid_is_ok (g.K.KnownTypes.known c.args.known.now) c.laid_entry.result
    (and_then (λ e. laid e.shape e) (entry_in (g.K.KnownTypes.known c.args.known.now) false col.CallbackReturned c.args.passed)) c.laid_entry.ensures
    ∙ mapped_is_ok returned_by (and_then (λ e. laid e.shape e) (entry_in (g.K.KnownTypes.known c.args.known.now) false col.CallbackReturned c.args.passed)))
