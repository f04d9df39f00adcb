use Rattle.native_code.proofs.EventWants.{wanting_goes_on, wanting}
use Rattle.native_code.proofs.one_event.arrive.Goals as goal

pub returns-in-Err-Memory-clause-next : goal.returns-in-Err-Memory-clause-next
returns-in-Err-Memory-clause-next c =
    wanting_goes_on c.args.errno c.args.place c.in-Some.k c.args.regs.now.x c.args.memory.now.space _ c.in-Some.ensures
    (wanting c.in-Err-Memory.field-0 _ _ c.in-Err-Memory.field-0-is c.in-Err-Memory.ensures.err)
