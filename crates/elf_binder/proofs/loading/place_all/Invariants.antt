use Rattle.std.proofs.Common.{◌≡◌, ◌<◌, ◌≤◌, ◌^◌, [], length, All}
use Rattle.std.specs.Prelude.{IsOk}
use Rattle.elf_binder.specs.Loading.{place_library, first_load}
use Rattle.elf_binder.proofs.StepByStep.{Came}
use Rattle.elf_binder.proofs.loading.place_all.Given as goal

abbrev pub invariant-loop-number : goal.invariant-loop-number
invariant-loop-number l = record {
  came : Came place_library (record { bases = []; space = l.initial.memory.space }) l.sources (record { bases = l.bases; space = l.memory.space }) l.number;
  count : length l.bases ≡ l.number;
  start : l.number ≡ 0 → l.memory.space ≡ l.initial.memory.space;
  begun : 0 < l.number → IsOk (first_load l.initial.memory.space l.sources);
  low : All (λ base. base ≤ 2 ^ 46) l.bases;
}
