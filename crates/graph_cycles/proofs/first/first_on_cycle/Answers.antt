use Rattle.std.proofs.Common.{ℕ}
use Rattle.std.specs.Prelude.{IfSome, IfNone, Option}
use Rattle.std.proofs.lemmas.Result.{IfOk-weaker}
use Rattle.graph_cycles.specs.Cycles.{IsFirstOnCycle, HasNoCycle}
use Rattle.graph_cycles.proofs.Closing.{some_moved, none_moved}
use Rattle.graph_cycles.proofs.first.first_on_cycle.Goals as goal

pub returns-clause-found : goal.returns-clause-found
returns-clause-found c =
    IfOk-weaker _ (λ (first : Option ℕ). IfSome first (IsFirstOnCycle c.in_ok-new.field-0.edges.items))
    (λ (first : Option ℕ). IfSome first (IsFirstOnCycle c.args.edges.now))
    (some_moved _ _ c.in_ok-new.ensures) c.first_in.ensures.found

pub returns-clause-none : goal.returns-clause-none
returns-clause-none c =
    IfOk-weaker _ (λ (first : Option ℕ). IfNone first (HasNoCycle c.in_ok-new.field-0.edges.items))
    (λ (first : Option ℕ). IfNone first (HasNoCycle c.args.edges.now))
    (none_moved _ _ c.in_ok-new.ensures) c.first_in.ensures.none
