use Rattle.std.proofs.Common.{arith}
use Rattle.host_run.proofs.Contents.{bytes-of-slice}
use Rattle.host_run.proofs.files.append.Goals as goal

pub returns-clause-of_bytes : goal.returns-clause-of_bytes
returns-clause-of_bytes c = bytes-of-slice c.args.piece.now (λ i. let fits = c.type_inv.piece i in omega arith)
