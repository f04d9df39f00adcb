use Rattle.std.proofs.Common.{◌≤◌, length, get_or, arith}
use Rattle.std.specs.Prelude.{zip}
use Rattle.std.proofs.lemmas.Result.{err_from_is_err_and}
use Rattle.byte_view.proofs.Refusals.{refuses_as}
use Rattle.elf_binder.specs.Relocating.{relocate_library}
use Rattle.elf_binder.specs.Refusals.{refusal}
use Rattle.elf_binder.specs.Sources.{source_of, IsRead}
use Rattle.elf_binder.proofs.SourceLists.{all_at}
use Rattle.elf_binder.proofs.PlacedLists.{placed_is, length-placed}
use Rattle.elf_binder.proofs.StepByStep.{one_more, it_fails, all_done}
use Rattle.elf_binder.proofs.binding.relocate_all.Goals as goal

pub relocate_library-requires-clause-read : goal.relocate_library-requires-clause-read
relocate_library-requires-clause-read c =
    all_at IsRead c.args.sources.now c.loop-number.number (source_of c.at-source.result) c.requires.read c.at-source.ensures

pub relocate_library-requires-clause-low : goal.relocate_library-requires-clause-low
relocate_library-requires-clause-low c = c.requires.low c.loop-number.number 0 (omega (arith, c.len-count.ensures.count))

pub returns-in_err-relocate_library : goal.returns-in_err-relocate_library
returns-in_err-relocate_library c =
    let p = err_from_is_err_and c.from_residual.result c.from_residual.ensures.1 in
    let base = get_or c.args.bases.now c.loop-number.number 0 in
    let is = placed_is c.args.sources.now c.args.bases.now c.loop-number.number (source_of c.at-source.result) c.at-source.ensures (omega (arith, c.len-count.ensures.count)) in
    rw (p.1, p.2)
    (refuses_as refusal c.in_err-relocate_library.field-0.0 _ _ (λ d fails. it_fails (relocate_library c.args.modules.now) c.args.memory.now.space
    (zip c.args.sources.now c.args.bases.now) c.loop-number.memory.space c.loop-number.number (source_of c.at-source.result, base) d
    c.loop-number.invariant is fails) c.in_err-relocate_library.ensures)

pub loop-number-preserved : goal.loop-number-preserved
loop-number-preserved c =
    let base = get_or c.args.bases.now c.loop-number.number 0 in
    let is = placed_is c.args.sources.now c.args.bases.now c.loop-number.number (source_of c.at-source.result) c.at-source.ensures (omega (arith, c.len-count.ensures.count)) in
    one_more (relocate_library c.args.modules.now) c.args.memory.now.space (zip c.args.sources.now c.args.bases.now) c.loop-number.memory.space
    c.loop-number.number (source_of c.at-source.result, base) c.relocate_library.new.memory.space c.loop-number.invariant is
    c.in_ok-relocate_library.ensures

pub returns : goal.returns
returns c =
    let of_zip = length-placed c.args.sources.now c.args.bases.now (omega (arith, c.requires.bases)) in
    let all : length (zip c.args.sources.now c.args.bases.now) ≤ c.loop-number.number =
    omega (arith, of_zip, c.requires.bases, c.len-count.ensures.count) in
    all_done (relocate_library c.args.modules.now) c.args.memory.now.space (zip c.args.sources.now c.args.bases.now) c.loop-number.memory.space
    c.loop-number.number c.loop-number.invariant all
