use Rattle.std.proofs.Common.{◌∙◌, map, sym}
use Rattle.byte_view.specs.ElfLaws.{LoadsLieApart}
use Rattle.byte_view.proofs.Loads.{loads_of_libraries_lie_apart}
use Rattle.elf_reader.specs.Elf.{load_of}
use Rattle.elf_binder.specs.Sources.{source_of}
use Rattle.elf_binder.proofs.LoadPlaces.{no_load}
use Rattle.elf_binder.proofs.TargetLoads.{ends_rise, it_decides, none_has_it}
use Rattle.elf_binder.proofs.targets.is_writable.Goals as goal

pub count_ending_by-requires : goal.count_ending_by-requires
count_ending_by-requires c =
    let apart : LoadsLieApart c.args.source.now.file.now (map load_of c.as_slice-loads.result.now) =
    rw c.as_slice-loads.ensures (loads_of_libraries_lie_apart c.args.source.now.file.now (source_of c.args.source.now).library c.requires.read) in
    ends_rise c.args.source.now.file.now c.as_slice-loads.result.now apart

pub returns-in-Some : goal.returns-in-Some
returns-in-Some c =
    let apart : LoadsLieApart c.args.source.now.file.now (map load_of c.as_slice-loads.result.now) =
    rw c.as_slice-loads.ensures (loads_of_libraries_lie_apart c.args.source.now.file.now (source_of c.args.source.now).library c.requires.read) in
    let decides = it_decides c.args.source.now.file.now c.as_slice-loads.result.now c.args.at c.args.len c.count_ending_by.result c.in-Some.load.now apart c.requires.some c.count_ending_by.ensures c.in-Some.ensures.lookup.3.0 in
    rw (← c.as_slice-loads.ensures) (rw c.in-Some.ensures.lookup.1 at c.is_target.ensures ∙ sym decides)

pub returns-in-None : goal.returns-in-None
returns-in-None c =
    rw (← c.as_slice-loads.ensures)
    (sym (none_has_it c.args.source.now.file.now c.as_slice-loads.result.now c.args.at c.args.len c.count_ending_by.result no_load c.requires.some c.count_ending_by.ensures c.in-None.ensures.lookup.3))
