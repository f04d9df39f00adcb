use Rattle.meta_tables.proofs.Numbers.{units_more}
use Rattle.meta_tables.proofs.heaps.units.Goals as goal

pub loop-at-preserved : goal.loop-at-preserved
loop-at-preserved c =
    units_more c.args.bytes.now c.loop-at.at c.loop-at.units c.push.new.self c.number16.result c.loop-at.invariant c.in_ok-push.ensures.ok c.number16.ensures
