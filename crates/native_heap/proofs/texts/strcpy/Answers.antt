use Rattle.std.proofs.Common.{rules, sym}
use Rattle.native_heap.proofs.Refusals.{refused}
use Rattle.native_heap.proofs.Writing.{strcpy_done, strcpy_refused}
use Rattle.native_heap.proofs.texts.strcpy.Goals as goal

pub returns-then-not-holds-clause-err : goal.returns-then-not-holds-clause-err
returns-then-not-holds-clause-err c = strcpy_refused _ _ _ c.in-Some.text.now (sym c.in-Some.ensures) (search rules)

pub returns-in_err-bytes-clause-err : goal.returns-in_err-bytes-clause-err
returns-in_err-bytes-clause-err c = refused _ _ _ c.from_residual.ensures.1 (strcpy_done _ _ _ c.in-Some.text.now (sym c.in-Some.ensures) (search rules))
