use Rattle.std.proofs.Common.{◌≡◌, ◌++◌, take}
use Rattle.image_kit.specs.AssemblyFile.{bodies_bytes}
use Rattle.image_kit.proofs.metadata_root.put_bodies.Given as goal

abbrev pub invariant-loop-body : goal.invariant-loop-body
invariant-loop-body l = l.out ≡ l.fn.out ++ bodies_bytes (take l.body-index l.bodies)
