use Rattle.std.proofs.Common.{◌≡◌, Option, Some, None, IfOk, sym, ◌∙◌, ap, subst}
use Rattle.std.specs.Option.{option_and_then}
use Rattle.type_model.specs.Module.{Module}
use Rattle.stub_maker.specs.declared.facts.StructFacts.{StructFacts}
use Rattle.stub_maker.specs.Described.{facts_of, struct_facts}
use Rattle.stub_maker.specs.Facts.{struct_shape}
use Rattle.stub_maker.specs.Learned.{known_so_far, outline_of}
use Rattle.stub_maker.proofs.learning.outline_found.Goals as goal

pub returns-in-Some-clause-value : goal.returns-in-Some-clause-value
unfolding facts_of
returns-in-Some-clause-value c =
    let is : struct_facts c.args.known.now.image c.args.t ≡ Some c.in-Some.facts =
    ap (λ (m : Module). struct_facts m c.args.t) (sym c.types.ensures) ∙ (sym c.in_ok-facts.ensures ∙ c.in-Some.is) in
    subst (λ (o : Option StructFacts). IfOk c.outline_by.result (λ found. found ≡ outline_of (option_and_then (struct_shape (known_so_far c.args.known.now)) o)))
    (sym is) c.outline_by.ensures.value

pub returns-in-None-clause-value : goal.returns-in-None-clause-value
unfolding facts_of
returns-in-None-clause-value c =
    let is : struct_facts c.args.known.now.image c.args.t ≡ None =
    ap (λ (m : Module). struct_facts m c.args.t) (sym c.types.ensures) ∙ (sym c.in_ok-facts.ensures ∙ c.in-None.is) in
    ap (λ (o : Option StructFacts). outline_of (option_and_then (struct_shape (known_so_far c.args.known.now)) o)) (sym is)
