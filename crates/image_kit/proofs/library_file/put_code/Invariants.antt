use Rattle.std.proofs.Common.{◌≡◌, ◌++◌, take}
use Rattle.image_kit.specs.LibraryFile.{code_bytes}
use Rattle.image_kit.proofs.library_file.put_code.Given as goal

abbrev pub invariant-loop-instr : goal.invariant-loop-instr
invariant-loop-instr l = l.out ≡ l.fn.out ++ code_bytes (take l.instr-index l.code)
