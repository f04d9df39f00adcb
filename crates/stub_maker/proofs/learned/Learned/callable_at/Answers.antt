use Rattle.std.proofs.Common.{Some, None, false, sym, ◌∙◌, ap}
use Rattle.stub_maker.specs.Learned.{Learned, callable_at, known_so_far}
use Rattle.stub_maker.proofs.Findings.{got_or, so_far_callable}
use Rattle.stub_maker.proofs.learned.Learned.callable_at.Goals as goal

pub returns-in-Some-clause-known : goal.returns-in-Some-clause-known
returns-in-Some-clause-known c =
    let l : Learned = record { image = c.self.inside.types.now; outlines = c.self.inside.outlines; callable = c.self.inside.callable } in
    got_or c.self.inside.callable c.args.t (Some c.in-Some.callable.now) false (sym c.in-Some.ensures.value)
    ∙ (sym (so_far_callable l c.args.t) ∙ ap (λ (m : Learned). (known_so_far m).is_callable c.args.t) c.self.view_is)

pub returns-in-None-clause-value : goal.returns-in-None-clause-value
returns-in-None-clause-value c =
    got_or c.self.inside.callable c.args.t None false (sym c.in-None.ensures.value) ∙ ap (λ (m : Learned). callable_at m c.args.t) c.self.view_is

pub returns-in-None-clause-known : goal.returns-in-None-clause-known
returns-in-None-clause-known c =
    let l : Learned = record { image = c.self.inside.types.now; outlines = c.self.inside.outlines; callable = c.self.inside.callable } in
    got_or c.self.inside.callable c.args.t None false (sym c.in-None.ensures.value)
    ∙ (sym (so_far_callable l c.args.t) ∙ ap (λ (m : Learned). (known_so_far m).is_callable c.args.t) c.self.view_is)
