use Rattle.std.proofs.Common.{◌≡◌, ◌+◌, drop}
use Rattle.image_kit.specs.AssemblyFile.{bodies_rva, body_rva, bodies_size}
use Rattle.image_kit.proofs.plan_tables.body_address.Given as goal

abbrev pub invariant-loop-body : goal.invariant-loop-body
invariant-loop-body l = record {
  found : body_rva l.at (drop l.body-index l.bodies) l.method ≡ body_rva bodies_rva l.bodies l.method;
  left : l.at + bodies_size (drop l.body-index l.bodies) ≡ bodies_rva + bodies_size l.bodies;
}
