use Rattle.std.proofs.Common.{◌≡◌}
use Rattle.native_heap.proofs.Moved.{new_is_written, still_placed, still_written, ends, does_end, moved_is, moved_done}
use Rattle.native_heap.proofs.allocation.replace.Goals as goal

pub returns-in_err-write-in-Ok-clause-unchanged : goal.returns-in_err-write-in-Ok-clause-unchanged
returns-in_err-write-in-Ok-clause-unchanged c =
    let held = new_is_written c.args.memory.now.space c.place.new.self.space c.args.size c.args.front.now c.requires.sound c.in-Ok.ensures.ok c.requires.fits in
    let base : c.in-Ok.base ≡ c.args.memory.now.space.next = c.in-Ok.ensures.base in
    let never = rw (← base, c.in_err-write-in-Ok.ensures.err) at held in
    cc

pub returns-in_ok-write-in-Ok-clause-ok : goal.returns-in_ok-write-in-Ok-clause-ok
returns-in_ok-write-in-Ok-clause-ok c =
    let base : c.in-Ok.base ≡ c.args.memory.now.space.next = c.in-Ok.ensures.base in
    let live = still_written c.place.new.self.space c.write.new.self.space c.in-Ok.base c.args.front.now c.args.p c.in_ok-write-in-Ok.ensures.ok
    (still_placed c.args.memory.now.space c.place.new.self.space c.args.size c.args.p c.in-Ok.ensures.ok c.requires.live) in
    let ended = does_end c.end.result _ c.write.new.self.space c.end.new.self.space c.end.ensures.done (ends c.write.new.self.space c.args.p live) in
    rw base (moved_is c.args.memory.now.space c.place.new.self.space c.write.new.self.space c.end.new.self.space c.args.p c.args.size c.args.front.now c.in-Ok.ensures.ok
    (rw (← base) c.in_ok-write-in-Ok.ensures.ok) ended)

pub returns-in-Err-Memory-clause-err : goal.returns-in-Err-Memory-clause-err
returns-in-Err-Memory-clause-err c = moved_done c.args.memory.now.space c.args.p c.args.size c.args.front.now c.requires.sound c.requires.live c.requires.fits
