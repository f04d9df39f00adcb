use Rattle.std.proofs.Common.{◌+◌, sym, arith}
use Rattle.elf_reader.proofs.Bisected.{no_bytes}
use Rattle.elf_reader.proofs.loads.range_from.Goals as goal

pub returns-in_err-first-clause-bytes : goal.returns-in_err-first-clause-bytes
returns-in_err-first-clause-bytes c =
    rw c.from_residual.ensures (sym (no_bytes (c.args.addr + c.args.offset) c.args.bytes.now c.args.loads.now c.requires (omega (arith, c.in_err-first.ensures))))
