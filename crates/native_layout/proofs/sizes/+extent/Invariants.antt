use Rattle.std.proofs.Common.{◌≡◌, ◌-◌, ◌≤◌, IsTrue, map, drop, length}
use Rattle.std.specs.List.{range_with_len}
use Rattle.native_layout.specs.Struct.{at_offsets, field_align, greatest, in_sequence, is_align, largest, offset_at}
use Rattle.native_layout.specs.Shapes.{extents_of}
use Rattle.native_layout.specs.Placed.{greatest_end}
use Rattle.native_layout.proofs.sizes.+extent.Given as goal

abbrev pub invariant-sequential_extent-loop-shape : goal.invariant-sequential_extent-loop-shape
invariant-sequential_extent-loop-shape l = record {
  end : greatest_end 0 (in_sequence l.pack 0 (extents_of l.shapes))
      ≡ greatest_end l.end (in_sequence l.pack l.end (extents_of (drop l.shape-index l.shapes)));
  align : greatest 1 (map (field_align l.pack) (extents_of l.shapes))
      ≡ greatest l.align (map (field_align l.pack) (extents_of (drop l.shape-index l.shapes)));
  good : IsTrue (is_align l.align);
  within : l.end ≤ largest;
}

abbrev pub invariant-explicit_extent-loop-k : goal.invariant-explicit_extent-loop-k
invariant-explicit_extent-loop-k l = record {
  end : greatest_end 0 (at_offsets (map (offset_at l.offsets) (range_with_len 0 (length l.shapes))) (extents_of l.shapes))
      ≡ greatest_end l.end (at_offsets (map (offset_at l.offsets) (range_with_len l.k (length l.shapes - l.k))) (extents_of (drop l.k l.shapes)));
  align : greatest 1 (map (field_align l.pack) (extents_of l.shapes))
      ≡ greatest l.align (map (field_align l.pack) (extents_of (drop l.k l.shapes)));
  good : IsTrue (is_align l.align);
  within : l.end ≤ largest;
}
