use Rattle.elf_binder.proofs.Exports.{export_nothing}
use Rattle.elf_binder.proofs.laws.inner_symbols_export_nothing.Goals as goal

pub returns : goal.returns
returns c = export_nothing
