use Rattle.std.proofs.Common.{◌++◌, ap, ◌∙◌}
use Rattle.image_kit.proofs.Pieces.{strings_grown}
use Rattle.image_kit.proofs.elf_symbols.put_string_table.Goals as goal

pub loop-place-preserved : goal.loop-place-preserved
loop-place-preserved c =
    let name_put = c.in_ok-extend_from_slice.ensures.ok ∙ ap (λ xs. c.loop-place.out ++ xs) c.as_slice.ensures in
    strings_grown c.args.out.now c.loop-place.out c.extend_from_slice.new.self c.push-in-loop-place.new.self c.args.names.now c.loop-place.place-index c.place-item.result c.loop-place-test.true c.place-item.is c.loop-place.invariant name_put c.in_ok-push-2.ensures.ok
