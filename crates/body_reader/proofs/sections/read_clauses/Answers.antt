use Rattle.std.proofs.Common.{◌+◌, ◌-◌, ◌*◌, ◌/◌, ◌<◌, ℕ, Bool, List, Result}
use Rattle.std.proofs.lemmas.Result.{err_from_is_err_and}
use Rattle.byte_view.proofs.Reading.{listed_none, listed_more}
use Rattle.byte_view.proofs.Refusals.{listed_refused}
use Rattle.body_reader.specs.declared.clause.Clause.{Clause}
use Rattle.body_reader.specs.Clauses.{clause_at, clause_size}
use Rattle.body_reader.specs.Refusals.{refusal}
use Rattle.body_reader.proofs.sections.read_clauses.Goals as goal

abbrev one : Bool → List ℕ → List Bool → ℕ → ℕ → Result Clause ℕ
one is_fat bytes starts at k = clause_at is_fat bytes starts (at + 4 + clause_size is_fat * k)

pub loop-k-init : goal.loop-k-init
loop-k-init c = rw c.new-clauses.ensures (listed_none (one c.args.section.is_fat c.args.b.now c.args.starts.now c.args.at))

pub returns-in_err-clause : goal.returns-in_err-clause
returns-in_err-clause c =
    let p = err_from_is_err_and c.from_residual.result c.from_residual.ensures.1 in
    let here = rw c.clause_size-size.ensures.size at c.in_err-clause.ensures.clause in
    let more : c.loop-k.k < (c.args.section.size - 4) / clause_size c.args.section.is_fat = rw (← c.clause_size-size.ensures.size) c.loop-k-test.true in
    rw (p.1, p.2) (listed_refused refusal c.in_err-clause.field-0.0 (one c.args.section.is_fat c.args.b.now c.args.starts.now c.args.at) c.loop-k.k ((c.args.section.size - 4) / clause_size c.args.section.is_fat) c.loop-k.clauses c.loop-k.invariant more here)

pub loop-k-preserved : goal.loop-k-preserved
loop-k-preserved c =
    let here = rw c.clause_size-size.ensures.size at c.in_ok-clause.ensures.clause in
    rw c.in_ok-push.ensures.ok (listed_more (one c.args.section.is_fat c.args.b.now c.args.starts.now c.args.at) c.loop-k.k c.loop-k.clauses c.in_ok-clause.clause c.loop-k.invariant here)
