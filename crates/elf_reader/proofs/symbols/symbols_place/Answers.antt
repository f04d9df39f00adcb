use Rattle.std.proofs.Common.{◌*◌, ◌≤◌, ◌^◌, arith}
use Rattle.byte_view.specs.ElfParts as parts
use Rattle.elf_reader.specs.Elf.{dynamic_entry}
use Rattle.elf_reader.proofs.Bisected.{no_table}
use Rattle.elf_reader.proofs.symbols.symbols_place.Goals as goal

pub returns-in-None-clause-place : goal.returns-in-None-clause-place
returns-in-None-clause-place c =
    let high : 2 ^ 64 ≤ 24 * c.args.count = omega (arith, c.in-None.ensures) in
    rw c.broken.ensures (no_table parts.symbols c.args.entry.value (24 * c.args.count) c.args.size c.args.loads.now (dynamic_entry c.args.entry) c.requires (omega arith) (omega arith))
