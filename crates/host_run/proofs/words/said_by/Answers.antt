use Rattle.std.proofs.Common.{sym, ◌∙◌, ap, arith}
use Rattle.host_run.specs.Grammar.{with_word}
use Rattle.host_run.proofs.Lines.{texts_left, said_more, said_stops}
use Rattle.host_run.proofs.words.said_by.Goals as goal

pub returns-in-None : goal.returns-in-None
returns-in-None c =
    said_stops _ _ _ _ _ c.loop-word.invariant (texts_left c.args.words.now c.loop-word.word-index c.word-item.result (omega arith) c.word-item.is)
    (sym c.in-None.is ∙ c.in_ok-next.ensures ∙ ap (with_word c.loop-word.said) c.as_str.ensures.value)

pub loop-word-preserved : goal.loop-word-preserved
loop-word-preserved c =
    said_more _ _ _ _ _ _ c.loop-word.invariant (texts_left c.args.words.now c.loop-word.word-index c.word-item.result (omega arith) c.word-item.is)
    (sym c.in-Some.is ∙ c.in_ok-next.ensures ∙ ap (with_word c.loop-word.said) c.as_str.ensures.value)
