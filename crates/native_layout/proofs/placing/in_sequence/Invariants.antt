use Rattle.std.proofs.Common.{◌≡◌, ◌++◌, ◌≤◌, drop}
use Rattle.native_layout.specs.Struct.{in_sequence, largest}
use Rattle.native_layout.specs.Placed.{starts, greatest_end}
use Rattle.native_layout.proofs.placing.in_sequence.Given as goal

abbrev pub invariant-loop-e : goal.invariant-loop-e
invariant-loop-e l = record {
  offsets : starts (in_sequence l.pack 0 l.extents)
      ≡ l.offsets ++ starts (in_sequence l.pack l.end (drop l.e-index l.extents));
  end : greatest_end 0 (in_sequence l.pack 0 l.extents)
      ≡ greatest_end l.end (in_sequence l.pack l.end (drop l.e-index l.extents));
  within : l.end ≤ largest;
}
