use Rattle.std.proofs.Common.{◌≡◌, ◌-◌, ◌^◌, take}
use Rattle.std.specs.Prelude.{min}
use Rattle.image_kit.specs.LibraryFile.{code_size}
use Rattle.image_kit.proofs.library_plan.code_size.Given as goal

abbrev pub invariant-loop-instr : goal.invariant-loop-instr
invariant-loop-instr l = l.size ≡ min (code_size (take l.instr-index l.code)) (2 ^ 64 - 1)
