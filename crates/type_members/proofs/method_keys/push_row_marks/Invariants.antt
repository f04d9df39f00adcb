use Rattle.std.proofs.Common.{◌≡◌, ◌++◌, map}
use Rattle.std.specs.List.{range_with_len}
use Rattle.type_members.specs.declared.member.Member.TheVariants.{Method}
use Rattle.type_members.specs.Akin.{mark}
use Rattle.type_members.proofs.method_keys.push_row_marks.Given as goal

abbrev pub invariant-loop-before : goal.invariant-loop-before
invariant-loop-before l = l.marks ≡ l.fn.marks ++ map (λ n. mark l.types (Method n)) (range_with_len 1 l.before)
