use Rattle.std.proofs.Common.{refl, sym, ◌∙◌}
use Rattle.std.proofs.lemmas.Result.{err_from_is_err_and}
use Rattle.native_memory.proofs.Room.{refuses_memory, placed_at_above, placed_at_over, placed_at_is}
use Rattle.native_memory.proofs.memory.Memory.place_at.Goals as goal

pub returns-in_default-clause-err : goal.returns-in_default-clause-err
returns-in_default-clause-err c =
    placed_at_above c.args.self.now.space c.args.base c.args.bytes.now c.args.size c.args.rights (sym c.next_behind.ensures ∙ c.in_default.is)

pub returns-then-size-self-clause-err : goal.returns-then-size-self-clause-err
returns-then-size-self-clause-err c =
    rw (← c.self.view_is) (placed_at_over _ c.args.base c.args.bytes.now c.args.size c.args.rights (rw (← c.self.invariant.live) c.if-size-self.true) c.self.invariant.sound.room)

pub returns-clause-ok : goal.returns-clause-ok
returns-clause-ok c =
    let is = placed_at_is c.args.self.now.space c.args.base c.args.bytes.now c.args.size c.args.rights c.in-Some.next (sym c.next_behind.ensures ∙ c.in-Some.is)
    (rw (← c.self.view_is, ← c.self.invariant.live) c.if-size-self.false) (rw (← c.self.view_is) c.self.invariant.sound.room) in
    rw (is, c.in_ok-push.ensures.ok, c.in_ok-contents.ensures) refl

pub returns-in_err-contents-clause-err : goal.returns-in_err-contents-clause-err
returns-in_err-contents-clause-err c =
    let is = placed_at_is c.args.self.now.space c.args.base c.args.bytes.now c.args.size c.args.rights c.in-Some.next (sym c.next_behind.ensures ∙ c.in-Some.is)
    (rw (← c.self.view_is, ← c.self.invariant.live) c.if-size-self.false) (rw (← c.self.view_is) c.self.invariant.sound.room) in
    let p = err_from_is_err_and c.from_residual.result c.from_residual.ensures.1 in
    rw p.1 (refuses_memory p.0 _ _ p.2 is)

pub returns-in_err-push-clause-err : goal.returns-in_err-push-clause-err
returns-in_err-push-clause-err c =
    let is = placed_at_is c.args.self.now.space c.args.base c.args.bytes.now c.args.size c.args.rights c.in-Some.next (sym c.next_behind.ensures ∙ c.in-Some.is)
    (rw (← c.self.view_is, ← c.self.invariant.live) c.if-size-self.false) (rw (← c.self.view_is) c.self.invariant.sound.room) in
    let p = err_from_is_err_and c.from_residual-in_err-push.result c.from_residual-in_err-push.ensures.1 in
    rw p.1 (refuses_memory p.0 _ _ (p.2 ∙ c.in_err-push.ensures.memory) is)
