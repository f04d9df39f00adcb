use Rattle.std.proofs.Common.{◌≡◌, length, ap}
use Rattle.body_reader.specs.Bodies.{MethodBody}
use Rattle.body_reader.proofs.Branches.{switch_room_of}
use Rattle.body_reader.proofs.body.switch_target.Goals as goal

pub switch_target_in-requires-clause-within : goal.switch_target_in-requires-clause-within
switch_target_in-requires-clause-within c =
    let same : length c.body.inside.code ≡ length c.args.body.now.code = ap (λ (b : MethodBody). length b.code) c.body.view_is in
    rw (c.as_slice.ensures, same) (switch_room_of c.args.body.now c.args.at c.in-Switch-default.count c.in-Switch-default.first c.in_ok-count.field-0 c.in_ok-count.ensures.instruction c.in-Switch-default.is-0)
