-- the mask of `width` ones leaves the remainder
use Rattle.std.proofs.Common.{◌≡◌, ◌*◌, ◌/◌, ◌%◌, ◌^◌, arith}
use Rattle.std.proofs.lemmas.Nat.{one_shl, and_mask}
use Rattle.rv_decode.proofs.fields.field.Goals as goal

pub returns : goal.returns
returns c =
    let shifted : 1 * 2 ^ c.args.width % 4294967296 ≡ 2 ^ c.args.width = one_shl c.args.width 32 (omega arith) in
    rw shifted (and_mask (c.args.word / 2 ^ c.args.low) c.args.width)
