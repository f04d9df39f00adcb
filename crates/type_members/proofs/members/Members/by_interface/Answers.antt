use Rattle.std.proofs.Common.{◌≡◌, ◌∷◌, Option, Some, sym, ap, ◌∙◌}
use Rattle.std.specs.Prelude.{option_and_then}
use Rattle.std.proofs.lemmas.Result.{IfOk-weaker}
use Rattle.type_model.specs.Module.{Module}
use Rattle.type_model.specs.Types.{bases}
use Rattle.type_members.specs.declared.member.Member.{Member}
use Rattle.type_members.specs.Chosen.{by_class, entry}
use Rattle.type_members.proofs.members.Members.by_interface.Goals as goal

pub returns-in-Some : goal.returns-in-Some
returns-in-Some c =
    let m : Module = c.args.self.now in
    let found : entry m c.args.x (c.args.receiver ∷ bases m c.args.receiver) ≡ Some c.in-Some.y =
    sym (ap (entry m c.args.x) (c.as_slice.ensures ∙ c.in_ok-chain.ensures)) ∙ sym c.in_ok-y.ensures ∙ c.in-Some.is in
    IfOk-weaker _ (λ (answer : Option Member). answer ≡ by_class m c.args.receiver c.in-Some.y)
    (λ (answer : Option Member). answer ≡ option_and_then (by_class m c.args.receiver) (entry m c.args.x (c.args.receiver ∷ bases m c.args.receiver)))
    (λ answer is. is ∙ sym (ap (option_and_then (by_class m c.args.receiver)) found))
    c.by_class.ensures
