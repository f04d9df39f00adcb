use Rattle.std.proofs.Common.{◌≡◌, drop}
use Rattle.elf_binder.specs.Modules.{address_of}
use Rattle.elf_binder.proofs.scope.address_of.Given as goal

abbrev pub invariant-loop-module : goal.invariant-loop-module
invariant-loop-module l = address_of (drop l.module-index l.modules) l.name ≡ address_of l.modules l.name
