use Rattle.std.proofs.Common.{Option, is_ok, ◌∙◌, ap}
use Rattle.type_model.specs.Module.{Module}
use Rattle.stub_maker.specs.declared.signature.Signature.{Signature}
use Rattle.stub_maker.specs.Callbacks.{back_of}
use Rattle.stub_maker.specs.Described.{facts_of, invoke_signature}
use Rattle.stub_maker.specs.Learned.{known_so_far}
use Rattle.stub_maker.proofs.learning.callable_found.Goals as goal

pub returns : goal.returns
unfolding facts_of
returns c =
    c.crosses.ensures
    ∙ ap (λ (o : Option Signature). is_ok (back_of (known_so_far c.args.known.now) o))
    (c.in_ok-invoke.ensures ∙ ap (λ (m : Module). invoke_signature m c.args.t) c.types.ensures)
