use Rattle.std.proofs.Common.{◌≡◌, map}
use Rattle.std.specs.List.{range_with_len}
use Rattle.stub_maker.specs.Described.{file_kind}
use Rattle.stub_maker.proofs.kinds_of_types.kinds_of.Given as goal

abbrev pub invariant-loop-t : goal.invariant-loop-t
invariant-loop-t l = l.kinds ≡ map (file_kind l.types) (range_with_len 1 l.t)
