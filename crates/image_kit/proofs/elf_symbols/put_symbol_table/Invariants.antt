use Rattle.std.proofs.Common.{◌≡◌, ◌++◌, length, take}
use Rattle.image_kit.specs.LibraryFile.{symbol_table, string_table}
use Rattle.image_kit.proofs.elf_symbols.put_symbol_table.Given as goal

abbrev pub invariant-loop-place : goal.invariant-loop-place
invariant-loop-place l =
    (l.out ≡ l.fn.out ++ symbol_table l.code (take l.place-index l.names)) × (l.name ≡ length (string_table (take l.place-index l.names)))
