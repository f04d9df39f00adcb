use Rattle.std.proofs.Common.{◌≡◌, ◌+◌, ◌*◌, Ok}
use Rattle.byte_view.specs.Reading.{each, must}
use Rattle.body_reader.specs.Code.{is_target}
use Rattle.body_reader.specs.Instructions.{switch_target_at}
use Rattle.body_reader.proofs.targets.check_switch.Given as goal

abbrev pub invariant-loop-k : goal.invariant-loop-k
invariant-loop-k l = each (λ k. must (is_target l.starts (switch_target_at l.code l.count l.at k)) (l.at + 4 * k)) l.k ≡ Ok 0
