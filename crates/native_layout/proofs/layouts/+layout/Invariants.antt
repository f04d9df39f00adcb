use Rattle.std.proofs.Common.{◌≡◌, ℕ, ◌<◌, ◌++◌, All, IsTrue, not, false, true, map, drop, get_or}
use Rattle.native_layout.specs.Struct.{is_align}
use Rattle.native_layout.specs.Shapes.{measure, scalar}
use Rattle.native_layout.specs.Placed.{cap}
use Rattle.native_layout.proofs.layouts.+layout.Given as goal

abbrev pub invariant-extents_of-loop-k : goal.invariant-extents_of-loop-k
invariant-extents_of-loop-k l = record {
  stand : (j : ℕ) → j < l.k → not (get_or (map measure l.shapes) j (scalar 1 true)).stands ≡ false;
  extents : map cap (map (λ m. m.extent) (map measure l.shapes))
      ≡ l.extents.items ++ map cap (map (λ m. m.extent) (map measure (drop l.k l.shapes)));
  aligns : All (λ e. IsTrue (is_align e.align)) l.extents.items;
}
