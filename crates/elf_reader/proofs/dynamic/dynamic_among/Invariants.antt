use Rattle.std.proofs.Common.{◌≡◌, ◌+◌, ◌≤◌, length, Ok}
use Rattle.std.specs.Prelude.{IfSome}
use Rattle.byte_view.specs.ElfDynamic.{dynamic_among}
use Rattle.elf_reader.proofs.dynamic.dynamic_among.Given as goal

abbrev pub invariant-loop-k : goal.invariant-loop-k
invariant-loop-k l = record {
  found : dynamic_among l.bytes l.headers.start l.k ≡ Ok l.found;
  within : IfSome l.found (λ at. at + 56 ≤ length l.bytes);
}
