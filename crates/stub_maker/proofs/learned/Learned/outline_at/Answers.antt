use Rattle.std.proofs.Common.{Some, None, sym, ◌∙◌, ap}
use Rattle.stub_maker.specs.Learned.{Learned, known_so_far, outline_at, outline_of}
use Rattle.stub_maker.proofs.Findings.{got_or, so_far_outline, sound_at}
use Rattle.stub_maker.proofs.learned.Learned.outline_at.Goals as goal

pub returns-in-Some-clause-shape : goal.returns-in-Some-clause-shape
returns-in-Some-clause-shape c =
    let l : Learned = record { image = c.self.inside.types.now; outlines = c.self.inside.outlines; callable = c.self.inside.callable } in
    got_or c.self.inside.outlines c.args.t (Some c.in-Some.outline.now) None (sym c.in-Some.ensures.value)
    ∙ (sym (so_far_outline l c.self.invariant.1 c.args.t) ∙ ap (λ (m : Learned). outline_of ((known_so_far m).struct_of c.args.t)) c.self.view_is)

pub returns-in-Some-clause-sound : goal.returns-in-Some-clause-sound
returns-in-Some-clause-sound c =
    sound_at _ c.self.invariant.1 c.args.t c.in-Some.outline.now (sym c.in-Some.ensures.value)

pub returns-in-None-clause-value : goal.returns-in-None-clause-value
returns-in-None-clause-value c =
    got_or c.self.inside.outlines c.args.t None None (sym c.in-None.ensures.value) ∙ ap (λ (m : Learned). outline_at m c.args.t) c.self.view_is

pub returns-in-None-clause-shape : goal.returns-in-None-clause-shape
returns-in-None-clause-shape c =
    let l : Learned = record { image = c.self.inside.types.now; outlines = c.self.inside.outlines; callable = c.self.inside.callable } in
    got_or c.self.inside.outlines c.args.t None None (sym c.in-None.ensures.value)
    ∙ (sym (so_far_outline l c.self.invariant.1 c.args.t) ∙ ap (λ (m : Learned). outline_of ((known_so_far m).struct_of c.args.t)) c.self.view_is)
