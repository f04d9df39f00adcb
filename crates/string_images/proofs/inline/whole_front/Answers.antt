use Rattle.std.proofs.Common.{sym, arith}
use Rattle.string_images.proofs.Places.{cut_here, cut_before, true_unless_false}
use Rattle.string_images.specs.Inline.{parts_no_pair}
use Rattle.string_images.proofs.inline.whole_front.Goals as goal

pub returns-then-is_in_pair : goal.returns-then-is_in_pair
returns-then-is_in_pair c =
    let parted = c.is_in_pair.ensures.0 c.if-is_in_pair.true in
    sym (cut_before c.args.units.now c.args.most c.min-end.result (omega arith) parted)

pub returns-else-is_in_pair : goal.returns-else-is_in_pair
returns-else-is_in_pair c =
    let whole = true_unless_false c.is_in_pair.result (parts_no_pair c.args.units.now c.min-end.result) c.if-is_in_pair.false c.is_in_pair.ensures.1 in
    sym (cut_here c.args.units.now c.args.most c.min-end.result (omega arith) whole)
