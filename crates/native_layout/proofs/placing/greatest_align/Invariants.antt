use Rattle.std.proofs.Common.{◌≡◌, IsTrue, map, drop}
use Rattle.native_layout.specs.Struct.{field_align as field_align_of, greatest, is_align}
use Rattle.native_layout.proofs.placing.greatest_align.Given as goal

abbrev pub invariant-loop-e : goal.invariant-loop-e
invariant-loop-e l = record {
  value : greatest 1 (map (field_align_of l.pack) l.extents)
      ≡ greatest l.greatest (map (field_align_of l.pack) (drop l.e-index l.extents));
  align : IsTrue (is_align l.greatest);
}
