use Rattle.std.proofs.Common.{◌≡◌, ◌+◌, ◌++◌, ◌∷◌, [], ap, ◌∙◌, arith, refl, Ok}
use Rattle.std.specs.Prelude.{◌==◌}
use Rattle.std.proofs.lemmas.List.{length_push}
use Rattle.std.proofs.lemmas.Result.{err_from_is_err_and}
use Rattle.std.proofs.lemmas.List.FromFn.{map-range_with_len_more}
use Rattle.body_reader.specs.Code.{first_from, is_first, first_after}
use Rattle.body_reader.specs.Refusals.{refusal}
use Rattle.body_reader.proofs.Places.{from_start_ok}
use Rattle.body_reader.proofs.Starts.{first_none, first_more, starts_refused}
use Rattle.body_reader.proofs.code.read_starts.Goals as goal

pub loop-at-init : goal.loop-at-init
loop-at-init c = record { next = first_none c.args.code.now; starts = c.new-starts.ensures; size = rw c.new-starts.ensures refl }

pub returns-in_err-next : goal.returns-in_err-next
returns-in_err-next c =
    let p = err_from_is_err_and c.from_residual-in_err-next.result c.from_residual-in_err-next.ensures.1 in
    rw (p.1, p.2) (record { starts = starts_refused (refusal c.in_err-next.field-0.0) c.args.start c.args.code.now c.loop-at.at c.loop-at.next c.loop-at.invariant.next c.loop-at-test.true c.in_err-next.ensures; size = tt })

pub loop-at-preserved : goal.loop-at-preserved
loop-at-preserved c =
    let mark : is_first c.loop-at.at (first_from c.args.code.now c.loop-at.at) ≡ (c.loop-at.next == c.loop-at.at) = rw c.loop-at.invariant.next refl in
    record {
      next = first_more c.args.code.now c.loop-at.at c.loop-at.next (Ok c.in_ok-next.next) c.loop-at.invariant.next (from_start_ok c.args.start (first_after c.args.code.now c.loop-at.at c.loop-at.next) c.in_ok-next.next c.in_ok-next.ensures);
      starts = c.in_ok-push.ensures.ok ∙ rw (map-range_with_len_more (λ at. is_first at (first_from c.args.code.now at)) 0 c.loop-at.at c.loop-at.at (omega arith), mark) (ap (λ xs. xs ++ (c.loop-at.next == c.loop-at.at) ∷ []) c.loop-at.invariant.starts);
      size = rw c.in_ok-push.ensures.ok (length_push c.loop-at.starts (c.loop-at.next == c.loop-at.at) ∙ ap (λ n. n + 1) c.loop-at.invariant.size);
    }
