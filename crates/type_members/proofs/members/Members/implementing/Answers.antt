use Rattle.std.proofs.Common.{List, sym, ap, ◌∙◌}
use Rattle.std.specs.Prelude.{filter, find}
use Rattle.type_members.specs.declared.member.Member.{Member}
use Rattle.type_members.specs.Akin.{like}
use Rattle.type_members.specs.Chosen.{may_implement, implementing}
use Rattle.type_members.proofs.Entries.{find_here, find_on}
use Rattle.type_members.proofs.members.Members.implementing.Goals as goal

pub returns-then-is_some : goal.returns-then-is_some
returns-then-is_some c =
    let is = c.implementing_among-found.ensures
    ∙ ap (λ (ys : List Member). find (like c.args.self.now c.args.x) (filter (may_implement c.args.self.now) ys)) (c.as_slice.ensures ∙ c.in_ok-methods.ensures) in
    sym (c.loop-id.invariant
    ∙ find_here (like c.args.self.now c.args.x) (implementing c.args.self.now) c.args.ids.now c.loop-id.id-index _ c.implementing_among-found.result
    c.loop-id-test.true is (sym c.is_some.ensures ∙ c.if-is_some.true))

pub loop-id-preserved : goal.loop-id-preserved
loop-id-preserved c =
    let is = c.implementing_among-found.ensures
    ∙ ap (λ (ys : List Member). find (like c.args.self.now c.args.x) (filter (may_implement c.args.self.now) ys)) (c.as_slice.ensures ∙ c.in_ok-methods.ensures) in
    c.loop-id.invariant
    ∙ find_on (like c.args.self.now c.args.x) (implementing c.args.self.now) c.args.ids.now c.loop-id.id-index _ c.implementing_among-found.result
    c.loop-id-test.true is (sym c.is_some.ensures ∙ c.if-is_some.false)
