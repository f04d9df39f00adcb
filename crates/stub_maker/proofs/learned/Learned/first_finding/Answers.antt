use Rattle.std.proofs.Common.{◌≡◌, ℕ, ◌<◌, ◌+◌, arith, sym, ◌∙◌, ap, subst}
use Rattle.type_model.specs.Module.{Module, row_count}
use Rattle.type_model.specs.Rows as Rows
use Rattle.stub_maker.specs.Described.{facts_of, known_of}
use Rattle.stub_maker.specs.Learned.{Agree, IsClosedAt, Learned, known_so_far}
use Rattle.stub_maker.proofs.Findings.{closed_is_known}
use Rattle.stub_maker.proofs.Rising.{rises}
use Rattle.stub_maker.proofs.learned.Learned.first_finding.Goals as goal

pub finding_at-requires : goal.finding_at-requires
unfolding facts_of
finding_at-requires c =
    let rows : c.row_count-t-end.result ≡ row_count c.args.self.now.image Rows.type_defs =
    c.row_count-t-end.ensures ∙ (ap (λ (m : Module). row_count m Rows.type_defs) c.image.ensures ∙ ap (λ (m : Learned). row_count m.image Rows.type_defs) c.self.view_is) in
    omega (arith, rows, c.loop-t-test.true)

pub returns-clause-whole : goal.returns-clause-whole
unfolding facts_of
returns-clause-whole c =
    let l : Learned = record { image = c.self.inside.types.now; outlines = c.self.inside.outlines; callable = c.self.inside.callable } in
    let rows : c.row_count-t-end.result ≡ row_count l.image Rows.type_defs = c.row_count-t-end.ensures ∙ ap (λ (m : Module). row_count m Rows.type_defs) c.image.ensures in
    let closed : (t : ℕ) → t < row_count l.image Rows.type_defs → IsClosedAt l (t + 1) = λ t h.
    subst (λ (m : Learned). IsClosedAt m (t + 1)) (sym c.self.view_is) (c.loop-t.invariant t (omega (arith, rows, h, c.loop-t-test.false))) in
    subst (λ (m : Learned). Agree (known_so_far m) (known_of m.image)) c.self.view_is (closed_is_known l (rises (facts_of l.image)) c.self.invariant.1 closed)
