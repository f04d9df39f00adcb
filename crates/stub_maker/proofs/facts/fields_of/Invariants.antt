use Rattle.std.proofs.Common.{◌≡◌, map, take}
use Rattle.stub_maker.specs.Described.{field_facts}
use Rattle.stub_maker.proofs.facts.fields_of.Given as goal

abbrev pub invariant-loop-row : goal.invariant-loop-row
invariant-loop-row l = l.fields ≡ map (field_facts l.types) (take l.row-index l.row-items)
