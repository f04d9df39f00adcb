use Rattle.std.proofs.Common.{ℕ, Bool, arith}
use Rattle.type_members.specs.CoreMembers.{core_member_at}
use Rattle.type_members.specs.Chosen.{is_owned}
use Rattle.type_members.proofs.MethodLists.{owned_more, all_owned}
use Rattle.type_members.proofs.methods.core_methods.Goals as goal

pub loop-place-preserved : goal.loop-place-preserved
loop-place-preserved c =
    let p : ℕ → Bool = λ (k : ℕ). is_owned c.args.owner (core_member_at k) in
    owned_more p c.loop-place.place c.loop-place.members _ c.loop-place.invariant c.in_ok-push_owned.ensures

pub returns : goal.returns
returns c =
    let p : ℕ → Bool = λ (k : ℕ). is_owned c.args.owner (core_member_at k) in
    all_owned p c.loop-place.place 179 c.loop-place.members (omega arith) c.loop-place.invariant
