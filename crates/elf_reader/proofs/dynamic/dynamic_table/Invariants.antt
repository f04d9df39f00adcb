use Rattle.std.proofs.Common.{◌≡◌, take, map, Ok}
use Rattle.byte_view.specs.ElfDynamic.{entries, check_entries}
use Rattle.elf_reader.specs.Elf.{dynamic_entry}
use Rattle.elf_reader.proofs.Entries.{Going}
use Rattle.elf_reader.proofs.dynamic.dynamic_table.Given as goal

abbrev pub invariant-loop-k : goal.invariant-loop-k
invariant-loop-k l = record {
  table : map dynamic_entry l.table ≡ take l.k (entries l.bytes l.header);
  going : Going l.bytes l.header l.k;
  checked : check_entries (take l.k (entries l.bytes l.header)) ≡ Ok 0;
}
