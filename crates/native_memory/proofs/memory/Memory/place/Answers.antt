use Rattle.std.proofs.Common.{refl, sym, ◌∙◌}
use Rattle.std.proofs.lemmas.Result.{err_from_is_err_and}
use Rattle.native_memory.proofs.Room.{refuses_memory, placed_above, placed_over, placed_is}
use Rattle.native_memory.proofs.memory.Memory.place.Goals as goal

pub returns-in_default-clause-err : goal.returns-in_default-clause-err
returns-in_default-clause-err c =
    rw (← c.self.view_is) (placed_above _ c.args.size c.args.rights c.args.kind (sym c.next_after.ensures ∙ c.in_default.is))

pub returns-then-size-self-clause-err : goal.returns-then-size-self-clause-err
returns-then-size-self-clause-err c =
    rw (← c.self.view_is) (placed_over _ c.args.size c.args.rights c.args.kind (rw (← c.self.invariant.live) c.if-size-self.true) c.self.invariant.sound.room)

pub returns-clause-ok : goal.returns-clause-ok
returns-clause-ok c =
    let is = placed_is c.args.self.now.space c.args.size c.args.rights c.args.kind c.in-Some.next
    (rw (← c.self.view_is) (sym c.next_after.ensures ∙ c.in-Some.is))
    (rw (← c.self.view_is, ← c.self.invariant.live) c.if-size-self.false) (rw (← c.self.view_is) c.self.invariant.sound.room) in
    rw (is, c.in_ok-push.ensures.ok, c.in_ok-contents.ensures, ← c.self.view_is) refl

pub returns-in_err-contents-clause-err : goal.returns-in_err-contents-clause-err
returns-in_err-contents-clause-err c =
    let is = placed_is c.args.self.now.space c.args.size c.args.rights c.args.kind c.in-Some.next (rw (← c.self.view_is) (sym c.next_after.ensures ∙ c.in-Some.is))
    (rw (← c.self.view_is, ← c.self.invariant.live) c.if-size-self.false) (rw (← c.self.view_is) c.self.invariant.sound.room) in
    let p = err_from_is_err_and c.from_residual.result c.from_residual.ensures.1 in
    rw p.1 (refuses_memory p.0 _ _ p.2 is)

pub returns-in_err-push-clause-err : goal.returns-in_err-push-clause-err
returns-in_err-push-clause-err c =
    let is = placed_is c.args.self.now.space c.args.size c.args.rights c.args.kind c.in-Some.next (rw (← c.self.view_is) (sym c.next_after.ensures ∙ c.in-Some.is))
    (rw (← c.self.view_is, ← c.self.invariant.live) c.if-size-self.false) (rw (← c.self.view_is) c.self.invariant.sound.room) in
    let p = err_from_is_err_and c.from_residual-in_err-push.result c.from_residual-in_err-push.ensures.1 in
    rw p.1 (refuses_memory p.0 _ _ (p.2 ∙ c.in_err-push.ensures.memory) is)
