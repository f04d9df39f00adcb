use Rattle.std.proofs.Common.{◌++◌, sym, ap, ◌∙◌, subst}
use Rattle.image_kit.specs.AssemblyFile.{assembly_file}
use Rattle.image_kit.specs.AssemblyReads.{ReadsBack}
use Rattle.image_kit.proofs.AssemblyLaw.{assemblies_read_back}
use Rattle.image_kit.proofs.assembly_file.assembly.Goals as goal

pub returns-clause-read : goal.returns-clause-read
returns-clause-read c =
    let file = c.in_ok-put_assembly.ensures ∙ ap (λ xs. xs ++ assembly_file c.args.p.now) c.new-out.ensures in
    subst (ReadsBack c.args.p.now) (sym file) (assemblies_read_back c.args.p.now c.requires)
