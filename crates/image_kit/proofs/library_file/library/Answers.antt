use Rattle.std.proofs.Common.{◌++◌, sym, ap, ◌∙◌, subst}
use Rattle.image_kit.specs.LibraryFile.{library_file}
use Rattle.image_kit.specs.LibraryReads.{ReadsBack}
use Rattle.image_kit.proofs.LibraryLaw.{libraries_read_back}
use Rattle.image_kit.proofs.library_file.library.Goals as goal

pub returns-clause-read : goal.returns-clause-read
returns-clause-read c =
    let file = c.in_ok-put_library.ensures ∙ ap (λ xs. xs ++ library_file c.args.p.now) c.new-out.ensures in
    subst (ReadsBack c.args.p.now) (sym file) (libraries_read_back c.args.p.now c.requires)
