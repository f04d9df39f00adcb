use Rattle.std.proofs.Common.{◌+◌, ◌≤◌, ◌^◌, arith}
use Rattle.elf_reader.specs.Elf.{dynamic_entry}
use Rattle.elf_reader.specs.Refusals.{part_place}
use Rattle.elf_reader.proofs.Bisected.{no_table}
use Rattle.elf_reader.proofs.loads.table_place.Goals as goal

pub returns-in_default-clause-place : goal.returns-in_default-clause-place
returns-in_default-clause-place c =
    let high : 2 ^ 32 ≤ c.args.entry.value + c.args.offset + c.args.len = omega (arith, c.in_default.ensures) in
    rw c.broken.ensures (no_table (part_place c.args.part) (c.args.entry.value + c.args.offset) c.args.len c.args.size c.args.loads.now (dynamic_entry c.args.entry) c.requires (omega (arith, c.if-len-eq0.false)) high)
