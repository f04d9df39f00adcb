use Rattle.std.proofs.Common.{refl, sym, ◌∙◌, arith}
use Rattle.cil_unwind.proofs.Search.{handler_passes, handler_found, handler_past}
use Rattle.cil_unwind.proofs.handlers.next_handler.Goals as goal

pub loop-k-init : goal.loop-k-init
loop-k-init g c = λ matches decides. refl

pub returns-then-is_handler : goal.returns-then-is_handler
returns-then-is_handler g c = λ matches decides.
    c.handled_by.ensures ∙ sym (c.loop-k.invariant matches decides ∙ handler_found matches c.args.body.now.clauses c.args.at c.loop-k.k c.clause-clause.result c.clause-clause.ensures (sym (c.is_handler.ensures matches decides) ∙ c.if-is_handler.true))

pub loop-k-preserved : goal.loop-k-preserved
loop-k-preserved g c = λ matches decides.
    c.loop-k.invariant matches decides ∙ handler_passes matches c.args.body.now.clauses c.args.at c.loop-k.k c.clause-clause.result c.clause-clause.ensures (sym (c.is_handler.ensures matches decides) ∙ c.if-is_handler.false)

pub returns : goal.returns
returns g c = λ matches decides.
    sym (c.loop-k.invariant matches decides ∙ handler_past matches c.args.body.now.clauses c.args.at c.loop-k.k (omega (arith, c.clause_count-k-end.ensures, c.loop-k-test.false)))
