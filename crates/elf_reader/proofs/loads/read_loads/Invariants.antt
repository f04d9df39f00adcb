use Rattle.std.proofs.Common.{◌≡◌, ◌≤◌, length, map, Ok}
use Rattle.std.specs.Prelude.{All}
use Rattle.byte_view.specs.ElfLoads.{loads, last_end}
use Rattle.elf_reader.specs.Elf.{load_of}
use Rattle.elf_reader.specs.Loads.{AreSound, file_end}
use Rattle.elf_reader.proofs.loads.read_loads.Given as goal

abbrev pub invariant-loop-k : goal.invariant-loop-k
invariant-loop-k l = record {
  read : loads l.bytes l.headers.start l.k ≡ Ok (map load_of l.loads);
  last : l.end ≡ last_end (map load_of l.loads);
  before : All (λ load. file_end load ≤ l.end) l.loads;
  sound : AreSound (length l.bytes) l.loads;
}
