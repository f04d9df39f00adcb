use Rattle.std.proofs.Common.{refl}
use Rattle.native_layout.specs.Struct.{largest}
use Rattle.native_layout.proofs.Numbers.{passes_next}
use Rattle.native_layout.proofs.placing.in_sequence.Goals as goal

pub returns-then-e-start : goal.returns-then-e-start
returns-then-e-start c = record {
  first = refl;
  beyond = passes_next largest _ c.args.pack c.loop-e.end c.loop-e.e-index _ _ c.args.extents.now _ c.loop-e-test.true c.loop-e.invariant.end c.field_align.ensures.value c.aligned-start.ensures c.if-e-start.true;
}
