use Rattle.std.proofs.Common.{◌≤◌, [], length, get_or, arith}
use Rattle.std.specs.Prelude.{zip}
use Rattle.std.proofs.lemmas.Result.{err_from_is_err_and}
use Rattle.byte_view.proofs.Refusals.{refuses_as}
use Rattle.elf_binder.specs.Binding.{and_initializers}
use Rattle.elf_binder.specs.Refusals.{refusal}
use Rattle.elf_binder.specs.Sources.{source_of, IsRead}
use Rattle.elf_binder.proofs.SourceLists.{all_at}
use Rattle.elf_binder.proofs.PlacedLists.{placed_is, length-placed}
use Rattle.elf_binder.proofs.StepByStep.{one_more, it_fails, all_done}
use Rattle.elf_binder.proofs.binding.initializers.Goals as goal

pub add_initializers-requires : goal.add_initializers-requires
add_initializers-requires c =
    all_at IsRead c.args.sources.now c.loop-number.number (source_of c.at-source.result) c.requires.read c.at-source.ensures

pub returns-in_err-add_initializers : goal.returns-in_err-add_initializers
returns-in_err-add_initializers c =
    let p = err_from_is_err_and c.from_residual.result c.from_residual.ensures.1 in
    let base = get_or c.args.bases.now c.loop-number.number 0 in
    let is = placed_is c.args.sources.now c.args.bases.now c.loop-number.number (source_of c.at-source.result) c.at-source.ensures (omega (arith, c.len-count.ensures.count)) in
    rw (p.1, p.2)
    (refuses_as refusal c.in_err-add_initializers.field-0.0 _ _ (λ d fails. it_fails (and_initializers c.args.memory.now.space) []
    (zip c.args.sources.now c.args.bases.now) c.loop-number.inits c.loop-number.number (source_of c.at-source.result, base) d
    c.loop-number.invariant is fails) c.in_err-add_initializers.ensures)

pub loop-number-preserved : goal.loop-number-preserved
loop-number-preserved c =
    let base = get_or c.args.bases.now c.loop-number.number 0 in
    let is = placed_is c.args.sources.now c.args.bases.now c.loop-number.number (source_of c.at-source.result) c.at-source.ensures (omega (arith, c.len-count.ensures.count)) in
    one_more (and_initializers c.args.memory.now.space) [] (zip c.args.sources.now c.args.bases.now) c.loop-number.inits
    c.loop-number.number (source_of c.at-source.result, base) c.add_initializers.new.inits c.loop-number.invariant is
    c.in_ok-add_initializers.ensures

pub returns : goal.returns
returns c =
    let of_zip = length-placed c.args.sources.now c.args.bases.now (omega (arith, c.requires.bases)) in
    let all : length (zip c.args.sources.now c.args.bases.now) ≤ c.loop-number.number =
    omega (arith, of_zip, c.requires.bases, c.len-count.ensures.count) in
    all_done (and_initializers c.args.memory.now.space) [] (zip c.args.sources.now c.args.bases.now) c.loop-number.inits
    c.loop-number.number c.loop-number.invariant all
