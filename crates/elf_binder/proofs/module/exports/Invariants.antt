use Rattle.std.proofs.Common.{◌≡◌, map, take}
use Rattle.elf_reader.specs.Elf.{symbol_of}
use Rattle.elf_binder.specs.Modules.{exports_of}
use Rattle.elf_binder.proofs.module.exports.Given as goal

abbrev pub invariant-loop-symbol : goal.invariant-loop-symbol
invariant-loop-symbol l = l.exports ≡ exports_of l.fn.base (map symbol_of (take l.symbol-index l.symbols))
