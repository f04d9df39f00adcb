use Rattle.std.proofs.Common.{sym, ◌∙◌, ap, arith, subst, ◌≡◌, List, ℕ, ◌++◌, ◌+◌, drop}
use Rattle.std.specs.Prelude.{option_map}
use Rattle.host_run.specs.Grammar.{word_value, texts, values}
use Rattle.host_run.proofs.Lines.{texts_left, values_more, values_stop}
use Rattle.host_run.proofs.words.values.Goals as goal

pub returns-in-None : goal.returns-in-None
returns-in-None c =
    values_stop _ _ _ _ _ c.loop-word.invariant (texts_left c.args.words.now c.loop-word.word-index c.word-item.result (omega arith) c.word-item.is)
    (c.in-None.ensures ∙ ap word_value c.as_str.ensures.value)

pub loop-word-preserved : goal.loop-word-preserved
loop-word-preserved c =
    let more =
    values_more _ _ _ _ _ _ c.loop-word.invariant (texts_left c.args.words.now c.loop-word.word-index c.word-item.result (omega arith) c.word-item.is)
    (c.in-Some.ensures ∙ ap word_value c.as_str.ensures.value)
    in
    subst (λ (front : List ℕ). option_map (λ rest. front ++ rest) (values (drop (c.loop-word.word-index + 1) (texts c.args.words.now))) ≡ values (texts c.args.words.now)) (sym c.in_ok-push-in-Some.ensures.ok) more
