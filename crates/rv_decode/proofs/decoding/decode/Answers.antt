-- the law at this word
use Rattle.std.proofs.Common.{arith}
use Rattle.rv_decode.proofs.Exact.{decoded_is_encoded}
use Rattle.rv_decode.proofs.decoding.decode.Goals as goal

pub returns-clause-encoded : goal.returns-clause-encoded
returns-clause-encoded c = λ i. rw c.by_opcode.ensures (decoded_is_encoded c.args.word (omega arith) i)
