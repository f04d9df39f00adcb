use Rattle.std.proofs.Common.{◌≡◌, ◌-◌, ◌^◌, take}
use Rattle.std.specs.Prelude.{min}
use Rattle.image_kit.specs.AssemblyFile.{bodies_size}
use Rattle.image_kit.proofs.plan_tables.bodies_size.Given as goal

abbrev pub invariant-loop-body : goal.invariant-loop-body
invariant-loop-body l = l.size ≡ min (bodies_size (take l.body-index l.bodies)) (2 ^ 64 - 1)
