use Rattle.std.proofs.Common.{rules}
use Rattle.native_heap.proofs.Refusals.{refused}
use Rattle.native_heap.proofs.Writing.{memset_done, memset_refused}
use Rattle.native_heap.proofs.bytes.memset.Goals as goal

pub returns-then-not-holds-clause-err : goal.returns-then-not-holds-clause-err
returns-then-not-holds-clause-err c = memset_refused _ _ _ _ (search rules)

pub returns-in_err-bytes-clause-err : goal.returns-in_err-bytes-clause-err
returns-in_err-bytes-clause-err c = refused _ _ _ c.from_residual.ensures.1 (memset_done _ _ _ _ (search rules))
