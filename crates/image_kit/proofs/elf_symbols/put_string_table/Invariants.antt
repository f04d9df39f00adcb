use Rattle.std.proofs.Common.{◌≡◌, ◌++◌, take}
use Rattle.image_kit.specs.LibraryFile.{string_table}
use Rattle.image_kit.proofs.elf_symbols.put_string_table.Given as goal

abbrev pub invariant-loop-place : goal.invariant-loop-place
invariant-loop-place l = l.out ≡ l.fn.out ++ string_table (take l.place-index l.names)
