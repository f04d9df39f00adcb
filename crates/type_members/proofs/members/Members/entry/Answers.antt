use Rattle.std.proofs.Common.{sym, ◌∙◌}
use Rattle.type_members.proofs.Entries.{entry_here, entry_on}
use Rattle.type_members.proofs.members.Members.entry.Goals as goal

pub returns-then-is_some : goal.returns-then-is_some
returns-then-is_some c =
    sym (c.loop-id.invariant
    ∙ entry_here c.args.self.now c.args.x c.args.ids.now c.loop-id.id-index _ c.in_ok-found.found c.loop-id-test.true
    c.in_ok-found.ensures (sym c.is_some.ensures ∙ c.if-is_some.true))

pub loop-id-preserved : goal.loop-id-preserved
loop-id-preserved c =
    c.loop-id.invariant
    ∙ entry_on c.args.self.now c.args.x c.args.ids.now c.loop-id.id-index _ c.in_ok-found.found c.loop-id-test.true
    c.in_ok-found.ensures (sym c.is_some.ensures ∙ c.if-is_some.false)
