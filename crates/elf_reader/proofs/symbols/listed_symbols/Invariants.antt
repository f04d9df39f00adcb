use Rattle.std.proofs.Common.{◌≡◌, ◌+◌, ◌*◌, map, Ok}
use Rattle.byte_view.specs.Reading.{listed}
use Rattle.byte_view.specs.ElfSymbols.{symbol_at}
use Rattle.elf_reader.specs.Elf.{load_of, symbol_of}
use Rattle.elf_reader.proofs.symbols.listed_symbols.Given as goal

abbrev pub invariant-loop-k : goal.invariant-loop-k
invariant-loop-k l = listed (λ k. symbol_at l.bytes (map load_of l.loads) l.table.strings (l.table.at + 24 * k)) l.k ≡ Ok (map symbol_of l.symbols)
