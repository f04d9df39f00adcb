use Rattle.std.proofs.Common.{◌≡◌, ◌++◌}
use Rattle.type_model.specs.Module.{row_count}
use Rattle.type_model.specs.Rows.{type_defs}
use Rattle.type_model.specs.NameChains.{chain_within}
use Rattle.type_model.proofs.NameChains.{around}
use Rattle.type_model.proofs.model.Types.enclosers.Given as goal

abbrev pub invariant-loop-left : goal.invariant-loop-left
invariant-loop-left l = l.chain.items ++ around l.self l.left l.at ≡ chain_within (row_count l.self type_defs) l.self l.fn.t

abbrev pub decreases-loop-left : goal.decreases-loop-left
decreases-loop-left l = l.left
