use Rattle.std.proofs.Common.{◌<◌, Bool, List, Option, arith, sym, subst}
use Rattle.native_layout.specs.declared.outlines.Outline.{Outline}
use Rattle.stub_maker.specs.declared.finding.Finding.{Finding}
use Rattle.stub_maker.specs.declared.finding.Finding.TheVariants.{Callable, Outlined}
use Rattle.stub_maker.specs.Described.{facts_of}
use Rattle.stub_maker.specs.Learned.{IsNew, IsRight, Learned, room}
use Rattle.stub_maker.proofs.Findings.{put_callable, put_outline, put_room}
use Rattle.stub_maker.proofs.Rising.{rises}
use Rattle.stub_maker.proofs.learned.Learned.put.Goals as goal

pub invariant_of-self : goal.invariant_of-self
invariant_of-self c =
    let l : Learned = record { image = c.self.inside.types.now; outlines = c.self.inside.outlines; callable = c.self.inside.callable } in
    let asked = subst (λ (f : Finding). IsNew c.args.self.now f) c.in-Outlined.is c.requires in
    let new : IsNew l (Outlined c.in-Outlined.t c.in-Outlined.outline) = subst (λ (m : Learned). IsNew m (Outlined c.in-Outlined.t c.in-Outlined.outline)) (sym c.self.view_is) asked in
    let right = c.self.invariant.1 in
    let put = put_outline l (rises (facts_of l.image)) right c.in-Outlined.t c.in-Outlined.outline (omega (arith, new.within, right.many)) new.new new.found new.sound in (
      c.self.invariant.0,
      subst (λ (os : List (Option Outline)). IsRight (record { image = c.self.inside.types.now; outlines = os; callable = c.self.inside.callable })) (sym c.set.ensures) put,
    )

pub invariant_of-self-in-Callable : goal.invariant_of-self-in-Callable
invariant_of-self-in-Callable c =
    let l : Learned = record { image = c.self.inside.types.now; outlines = c.self.inside.outlines; callable = c.self.inside.callable } in
    let asked = subst (λ (f : Finding). IsNew c.args.self.now f) c.in-Callable.is c.requires in
    let new : IsNew l (Callable c.in-Callable.t) = subst (λ (m : Learned). IsNew m (Callable c.in-Callable.t)) (sym c.self.view_is) asked in
    let right = c.self.invariant.1 in
    let put = put_callable l (rises (facts_of l.image)) right c.in-Callable.t (omega (arith, new.within, right.many_callable)) new.new new.found in (
      c.self.invariant.0,
      subst (λ (bs : List Bool). IsRight (record { image = c.self.inside.types.now; outlines = c.self.inside.outlines; callable = bs })) (sym c.set-in-Callable.ensures) put,
    )

pub returns-in-Outlined-clause-fewer : goal.returns-in-Outlined-clause-fewer
returns-in-Outlined-clause-fewer c =
    let l : Learned = record { image = c.self.inside.types.now; outlines = c.self.inside.outlines; callable = c.self.inside.callable } in
    let asked = subst (λ (f : Finding). IsNew c.args.self.now f) c.in-Outlined.is c.requires in
    let new : IsNew l (Outlined c.in-Outlined.t c.in-Outlined.outline) = subst (λ (m : Learned). IsNew m (Outlined c.in-Outlined.t c.in-Outlined.outline)) (sym c.self.view_is) asked in
    let fewer = put_room l c.self.invariant.1 (Outlined c.in-Outlined.t c.in-Outlined.outline) new in
    let set = subst (λ (os : List (Option Outline)). room (record { image = c.self.inside.types.now; outlines = os; callable = c.self.inside.callable }) < room l) (sym c.set.ensures) fewer in
    subst (λ (m : Learned). room (record { image = c.self.inside.types.now; outlines = c.set.new.self; callable = c.self.inside.callable }) < room m) c.self.view_is set

pub returns-in-Callable-clause-fewer : goal.returns-in-Callable-clause-fewer
returns-in-Callable-clause-fewer c =
    let l : Learned = record { image = c.self.inside.types.now; outlines = c.self.inside.outlines; callable = c.self.inside.callable } in
    let asked = subst (λ (f : Finding). IsNew c.args.self.now f) c.in-Callable.is c.requires in
    let new : IsNew l (Callable c.in-Callable.t) = subst (λ (m : Learned). IsNew m (Callable c.in-Callable.t)) (sym c.self.view_is) asked in
    let fewer = put_room l c.self.invariant.1 (Callable c.in-Callable.t) new in
    let set = subst (λ (bs : List Bool). room (record { image = c.self.inside.types.now; outlines = c.self.inside.outlines; callable = bs }) < room l) (sym c.set-in-Callable.ensures) fewer in
    subst (λ (m : Learned). room (record { image = c.self.inside.types.now; outlines = c.self.inside.outlines; callable = c.set-in-Callable.new.self }) < room m) c.self.view_is set
