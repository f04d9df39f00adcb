use Rattle.stub_maker.specs.Described.{passed_params}
use Rattle.stub_maker.proofs.Sizes.{steps_sized}
use Rattle.stub_maker.proofs.import_stubs.stub_of_sig.Goals as goal

pub stub_with-requires : goal.stub_with-requires
stub_with-requires g c =
    steps_sized (g.K.KnownTypes.known c.args.known.now) (g.met.K.KnownTypes.in_order c.args.known.now) c.is_unicode_import-unicode.result 0
    (passed_params c.args.types.now c.args.import.now.method c.as_slice.result.now) c.in_ok-steps.steps c.in_ok-steps.ensures
