use Rattle.std.proofs.Common.{◌≡◌, length, false}
use Rattle.sig_reader.specs.Reading.{prefixes_in}
use Rattle.sig_reader.proofs.prefixes.prefixes.Given as goal

abbrev pub invariant-loop-pins : goal.invariant-loop-pins
invariant-loop-pins l =
    prefixes_in l.constrained (length l.rest) l.pinned l.rest ≡ prefixes_in l.constrained (length l.b) false l.b

abbrev pub decreases-loop-pins : goal.decreases-loop-pins
decreases-loop-pins l = length l.rest
