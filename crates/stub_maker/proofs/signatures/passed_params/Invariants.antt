use Rattle.std.proofs.Common.{◌≡◌, map, take}
use Rattle.std.specs.List.{enumerate_from}
use Rattle.stub_maker.specs.Described.{passed_at}
use Rattle.stub_maker.proofs.signatures.passed_params.Given as goal

abbrev pub invariant-loop-index : goal.invariant-loop-index
invariant-loop-index l = l.params ≡ map (λ numbered. passed_at l.types l.method numbered.0 numbered.1) (enumerate_from 1 (take l.index l.sigs))
