use Rattle.std.proofs.Common.{◌≡◌, ◌+◌, ◌*◌, map}
use Rattle.std.specs.List.{range_with_len}
use Rattle.byte_view.specs.ElfRelocations.{relocation_at}
use Rattle.elf_reader.specs.Elf.{relocation_of}
use Rattle.elf_reader.proofs.relocations.listed_relocations.Given as goal

abbrev pub invariant-loop-k : goal.invariant-loop-k
invariant-loop-k l = map relocation_of l.relocations ≡ map (λ k. relocation_at l.bytes (l.at + 24 * k)) (range_with_len 0 l.k)
