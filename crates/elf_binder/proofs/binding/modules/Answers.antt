use Rattle.std.proofs.Common.{◌≤◌, length, get_or, arith}
use Rattle.std.specs.Prelude.{zip}
use Rattle.elf_binder.specs.Sources.{source_of}
use Rattle.elf_binder.proofs.PlacedLists.{placed_is, length-placed, one_named, all_named}
use Rattle.elf_binder.proofs.binding.modules.Goals as goal

pub loop-number-preserved : goal.loop-number-preserved
loop-number-preserved c =
    let base = get_or c.args.bases.now c.loop-number.number 0 in
    let is = placed_is c.args.sources.now c.args.bases.now c.loop-number.number (source_of c.at-source.result) c.at-source.ensures (omega (arith, c.len-count.ensures.count)) in
    let m = rw c.as_slice-symbols.ensures at c.in_ok-new.ensures in
    one_named (zip c.args.sources.now c.args.bases.now) c.loop-number.modules c.loop-number.number (source_of c.at-source.result, base)
    c.in_ok-new.field-0 c.push.new.self c.loop-number.invariant is m c.in_ok-push.ensures.ok

pub returns-clause-all : goal.returns-clause-all
returns-clause-all c =
    let of_zip = length-placed c.args.sources.now c.args.bases.now (omega (arith, c.requires)) in
    let all : length (zip c.args.sources.now c.args.bases.now) ≤ c.loop-number.number =
    omega (arith, of_zip, c.requires, c.len-count.ensures.count) in
    all_named (zip c.args.sources.now c.args.bases.now) c.loop-number.modules c.loop-number.number c.loop-number.invariant all
