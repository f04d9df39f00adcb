use Rattle.std.proofs.Common.{◌≡◌, ◌++◌, filter}
use Rattle.type_model.specs.Types.{is_instance, run}
use Rattle.type_model.proofs.model.Types.push_declared.Given as goal

abbrev pub invariant-loop-field : goal.invariant-loop-field
invariant-loop-field l = l.fields ≡ l.initial.fields ++ filter (is_instance l.self) (run l.first l.field)
