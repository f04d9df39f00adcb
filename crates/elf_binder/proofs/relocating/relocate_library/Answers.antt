use Rattle.std.proofs.Common.{◌≤◌, map, length, get_or}
use Rattle.std.proofs.lemmas.List.{length-map}
use Rattle.std.proofs.lemmas.Result.{err_from_is_err_and}
use Rattle.elf_reader.specs.Elf.{relocation_of}
use Rattle.elf_binder.specs.Relocating.{relocate, relocate_library}
use Rattle.elf_binder.specs.Sources.{source_of}
use Rattle.byte_view.proofs.Refusals.{refuses_as}
use Rattle.elf_binder.specs.Refusals.{refusal}
use Rattle.elf_binder.proofs.StepByStep.{one_more, it_fails, all_done}
use Rattle.elf_binder.proofs.LoadPlaces.{no_relocation, relocation_is, entry_stands}
use Rattle.elf_binder.proofs.relocating.relocate_library.Goals as goal

pub relocate-requires-clause-entry : goal.relocate-requires-clause-entry
relocate-requires-clause-entry c =
    let r = relocation_of (get_or c.as_slice-r-items.result.now c.loop-r.r-index no_relocation) in
    let is = relocation_is c.as_slice-r-items.result.now c.args.source.now.elf.now.relocs c.loop-r.r-index c.as_slice-r-items.ensures c.loop-r-test.true in
    entry_stands (source_of c.args.source.now) c.loop-r.r-index r c.requires.read is

pub returns-in_err-relocate : goal.returns-in_err-relocate
unfolding relocate_library
returns-in_err-relocate c =
    let p = err_from_is_err_and c.from_residual.result c.from_residual.ensures.1 in
    let r = relocation_of (get_or c.as_slice-r-items.result.now c.loop-r.r-index no_relocation) in
    let is = relocation_is c.as_slice-r-items.result.now c.args.source.now.elf.now.relocs c.loop-r.r-index c.as_slice-r-items.ensures c.loop-r-test.true in
    rw (p.1, p.2)
    (refuses_as refusal c.in_err-relocate.field-0.0 _ _ (λ d fails. it_fails (relocate c.args.modules.now (source_of c.args.source.now) c.args.base) c.args.memory.now.space (map relocation_of c.args.source.now.elf.now.relocs) c.loop-r.memory.space
    c.loop-r.r-index r d c.loop-r.invariant is fails) c.in_err-relocate.ensures)

pub loop-r-preserved : goal.loop-r-preserved
loop-r-preserved c =
    let r = relocation_of (get_or c.as_slice-r-items.result.now c.loop-r.r-index no_relocation) in
    let is = relocation_is c.as_slice-r-items.result.now c.args.source.now.elf.now.relocs c.loop-r.r-index c.as_slice-r-items.ensures c.loop-r-test.true in
    one_more (relocate c.args.modules.now (source_of c.args.source.now) c.args.base) c.args.memory.now.space (map relocation_of c.args.source.now.elf.now.relocs) c.loop-r.memory.space c.loop-r.r-index r c.relocate.new.memory.space
    c.loop-r.invariant is c.in_ok-relocate.ensures

pub returns : goal.returns
unfolding relocate_library
returns c =
    let all : length (map relocation_of c.args.source.now.elf.now.relocs) ≤ c.loop-r.r-index = rw (length-map, ← c.as_slice-r-items.ensures) c.loop-r-test.false in
    all_done (relocate c.args.modules.now (source_of c.args.source.now) c.args.base) c.args.memory.now.space (map relocation_of c.args.source.now.elf.now.relocs) c.loop-r.memory.space c.loop-r.r-index c.loop-r.invariant all
