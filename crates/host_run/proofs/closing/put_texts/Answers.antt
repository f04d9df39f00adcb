use Rattle.std.proofs.Common.{◌≡◌, ◌∙◌, sym, ap, ℕ, List, Some, take, arith}
use Rattle.std.specs.Prelude.{slice_get}
use Rattle.std.proofs.lemmas.Option.{slice_get-get_or}
use Rattle.std.proofs.lemmas.Result.{err_from_is_err_and}
use Rattle.host_run.specs.Settled.{joined}
use Rattle.host_run.proofs.Puts.{front-append, front-after, texts-split, lines-more}
use Rattle.host_run.proofs.closing.put_texts.Goals as goal

pub returns-in_err-put-clause-err : goal.returns-in_err-put-clause-err
returns-in_err-put-clause-err g c =
    let p = err_from_is_err_and c.from_residual.result c.from_residual.ensures.1 in
    let texts = c.args.texts.now in
    let text : List ℕ = c.text-item.result in
    let at : slice_get texts c.loop-text.text-index ≡ Some text =
    slice_get-get_or texts c.loop-text.text-index text (omega arith) ∙ ap Some (sym c.text-item.is)
    in
    rw (p.1, texts-split (λ text. text) texts c.loop-text.text-index text at)
    (front-after _ _ _ (joined (take c.loop-text.text-index texts)) _ c.loop-text.invariant.put (front-append _ _ _ _ (rw c.as_slice.ensures at c.in_err-put.ensures.err)))

pub loop-text-preserved : goal.loop-text-preserved
loop-text-preserved g c =
    let texts = c.args.texts.now in
    let text : List ℕ = c.text-item.result in
    let at : slice_get texts c.loop-text.text-index ≡ Some text =
    slice_get-get_or texts c.loop-text.text-index text (omega arith) ∙ ap Some (sym c.text-item.is)
    in
    record {
      put = lines-more (λ text. text) _ _ _ texts c.loop-text.text-index text c.loop-text.invariant.put at (rw c.as_slice.ensures at c.in_ok-put.ensures.ok);
      count = c.in_ok-put.ensures.uncounted ∙ c.loop-text.invariant.count;
    }
