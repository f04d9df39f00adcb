use Rattle.std.proofs.Common.{◌≡◌, Some, option_map, map, refl, ap, ◌∙◌, arith}
use Rattle.std.specs.Prelude.{slice_get}
use Rattle.std.proofs.lemmas.Option.{slice_get_read, slice_get-map}
use Rattle.elf_reader.specs.Elf.{library_of}
use Rattle.elf_binder.proofs.SourceLists.{source_is}
use Rattle.elf_binder.proofs.source.source_at.Goals as goal

pub returns : goal.returns
returns c =
    let file = slice_get_read c.args.files.now _ c.args.number c.index-files-number.result refl c.requires.file c.index-files-number.is in
    let name = slice_get_read c.args.names.now _ c.args.number c.index-names-number.result refl c.requires.name c.index-names-number.is in
    let elf = slice_get_read c.args.elfs.now _ c.args.number c.index-elfs-number.result refl c.requires.elf c.index-elfs-number.is in
    let read : slice_get (map library_of c.args.elfs.now) c.args.number ≡ Some (library_of c.index-elfs-number.result) =
    slice_get-map library_of c.args.elfs.now c.args.number ∙ ap (option_map library_of) elf in
    rw (c.as_slice-file.ensures, c.as_slice-name.ensures)
    (source_is 0 (map library_of c.args.elfs.now) c.args.files.now c.args.names.now c.args.number c.args.number
    (library_of c.index-elfs-number.result) c.index-files-number.result c.index-names-number.result (omega arith) read file name)
