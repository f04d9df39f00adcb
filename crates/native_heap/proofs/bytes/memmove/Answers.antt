use Rattle.std.proofs.Common.{rules, sym}
use Rattle.native_heap.proofs.Refusals.{refused}
use Rattle.native_heap.proofs.Writing.{memmove_done}
use Rattle.native_heap.proofs.bytes.memmove.Goals as goal

pub returns-in_err-bytes-clause-err : goal.returns-in_err-bytes-clause-err
returns-in_err-bytes-clause-err c =
    refused _ _ _ c.from_residual.ensures.1 (memmove_done _ _ _ _ c.in-Some.bytes.now (sym c.in-Some.ensures.value) c.in-Some.ensures.len (search rules))
