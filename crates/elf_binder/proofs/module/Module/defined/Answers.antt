use Rattle.std.proofs.Common.{◌≡◌, ◌∙◌, ap, subst}
use Rattle.std.specs.Prelude.{option_map}
use Rattle.elf_binder.specs.declared.module.Export.{Export}
use Rattle.elf_binder.specs.Modules.{Module, defined_in}
use Rattle.elf_binder.proofs.module.Module.defined.Goals as goal

pub returns : goal.returns
unfolding defined_in
returns c =
    subst (λ (m : Module). c.address_by.result ≡ defined_in c.args.name.now m) c.self.view_is
    (c.address_by.ensures ∙ ap (option_map (λ (export : Export). export.address)) (c.self.invariant.0.finds c.args.name.now))
