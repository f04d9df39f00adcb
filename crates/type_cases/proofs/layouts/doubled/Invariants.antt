use Rattle.native_layout.specs.Outlines.{IsSound}
use Rattle.type_cases.proofs.layouts.doubled.Given as goal

abbrev pub invariant-loop : goal.invariant-loop
invariant-loop l = IsSound l.outline
