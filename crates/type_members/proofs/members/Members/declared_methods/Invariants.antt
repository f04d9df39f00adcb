use Rattle.std.proofs.Common.{◌≡◌, map}
use Rattle.type_model.specs.Types.{run}
use Rattle.type_members.specs.declared.member.Member.TheVariants.{Method}
use Rattle.type_members.proofs.members.Members.declared_methods.Given as goal

abbrev pub invariant-loop-n : goal.invariant-loop-n
invariant-loop-n l = l.methods ≡ map Method (run l.initial.n l.n)
