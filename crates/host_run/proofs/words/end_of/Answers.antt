use Rattle.std.proofs.Common.{sym, ◌∙◌, ap, ◌≡◌, length, arith, below_more}
use Rattle.host_run.specs.Grammar.{is_end}
use Rattle.host_run.proofs.Lines.{text_at, end_at, whole_line}
use Rattle.host_run.proofs.words.end_of.Goals as goal

pub returns-then-eq-clause-value : goal.returns-then-eq-clause-value
returns-then-eq-clause-value c =
    end_at c.args.words.now _ (omega arith) c.loop-place.invariant
    (λ _. ap is_end (text_at c.args.words.now c.loop-place.place c.index-words-place.result (omega arith) c.index-words-place.is ∙ sym c.as_str.ensures.value) ∙ sym c.eq.ensures ∙ c.if-eq.true)

pub loop-place-preserved : goal.loop-place-preserved
loop-place-preserved c =
    below_more _ _ c.loop-place.invariant
    (ap is_end (text_at c.args.words.now c.loop-place.place c.index-words-place.result (omega arith) c.index-words-place.is ∙ sym c.as_str.ensures.value) ∙ sym c.eq.ensures ∙ c.if-eq.false)

pub returns-clause-value : goal.returns-clause-value
returns-clause-value c =
    let whole : c.loop-place.place ≡ length c.args.words.now = omega arith in
    whole_line c.args.words.now _ whole c.loop-place.invariant
