use Rattle.std.proofs.Common.{◌≡◌, take, length}
use Rattle.elf_binder.specs.Refusals.{AreRead}
use Rattle.binder_cases.proofs.bindings.read_all.Given as goal

abbrev pub invariant-loop-file : goal.invariant-loop-file
invariant-loop-file l = record {
  read : AreRead l.elfs (take l.file-index l.files);
  count : length l.elfs ≡ l.file-index;
}
