use Rattle.std.proofs.Common.{◌≡◌, ◌<◌}
use Rattle.std.specs.Prelude.{IsOk}
use Rattle.elf_binder.specs.Loading.{place_load, first_of}
use Rattle.elf_binder.specs.Sources.{source_of}
use Rattle.elf_reader.specs.Elf.{load_of}
use Rattle.std.proofs.Common.{map}
use Rattle.elf_binder.proofs.StepByStep.{Came}
use Rattle.elf_binder.proofs.LoadPlaces.{Behind}
use Rattle.elf_binder.proofs.loading.place_loads.Given as goal

abbrev pub invariant-loop-load : goal.invariant-loop-load
invariant-loop-load l = record {
  came : Came (place_load (source_of l.source) l.base) l.initial.memory.space (map load_of l.source.elf.now.loads) l.memory.space l.load-index;
  start : l.load-index ≡ 0 → l.memory.space ≡ l.initial.memory.space;
  begun : 0 < l.load-index → IsOk (first_of (source_of l.source) l.base l.initial.memory.space);
  behind : Behind (map load_of l.source.elf.now.loads) l.base l.memory.space.edge l.load-index;
}
