use Rattle.managed_value.proofs.Ranges.{range_room, range_done}
use Rattle.managed_value.proofs.putting.+put_within.Goals as goal

pub put_bytes-requires : goal.put_bytes-requires
put_bytes-requires t c =
    range_room c.args.v.now c.args.new _ c.in-Some.rest.now c.in-Some.step.now c.in-Range.field-0 c.in-Range.field-1 _
    c.in-Some.ensures.cases.0 c.in-Range.is c.requires c.bytes_of.ensures

pub returns-in-Range : goal.returns-in-Range
returns-in-Range t c =
    range_done c.args.v.now c.args.new _ _ c.in-Some.rest.now c.in-Some.step.now c.in-Range.field-0 c.in-Range.field-1 _
    c.in-Some.ensures.cases.0 c.in-Range.is c.requires c.bytes_of.ensures c.put_bytes.ensures
