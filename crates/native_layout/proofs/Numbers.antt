-- Lemmas on alignments and greatest numbers.
use Rattle.std.proofs.Common.{◌≡◌, ℕ, suc, ◌+◌, ◌-◌, ◌≤◌, ◌<◌, max, IsTrue, List, [], ◌∷◌, map, drop, length, get_or, drop-cons, arith, ap, ◌∙◌}
use Rattle.native_layout.specs.declared.extent.Extent.{Extent}
use Rattle.native_layout.specs.Struct.{greatest, aligned, is_align, field_align, in_sequence, largest}
use Rattle.native_layout.specs.Placed.{greatest_end}

-- a multiple of an alignment that is not below n
pub aligned_above : (n a : ℕ) → IsTrue (is_align a) → n ≤ aligned n a
aligned_above n a is = grind arith

pub aligned_within : (n a : ℕ) → IsTrue (is_align a) → n ≤ largest → aligned n a ≤ largest
aligned_within n a is h = grind arith

-- the greatest number is at least the one that it must reach
pub greatest-least : (least : ℕ) (ns : List ℕ) → least ≤ greatest least ns
greatest-least least [] = omega arith
greatest-least least (n ∷ ns) = omega (arith, greatest-least (max least n) ns)

-- Placing the next field in sequence passes a size: so do the fields as a whole.
pub passes_next : (bound whole pack end i start align : ℕ) (es : List Extent) (d : Extent) → i < length es
    → whole ≡ greatest_end end (in_sequence pack end (drop i es))
    → align ≡ field_align pack (get_or es i d) → start ≡ aligned end align
    → bound - start < (get_or es i d).size → bound < whole
passes_next bound whole pack end i start align es d lt is align_is start_is beyond =
    let e : Extent = get_or es i d in
    let next : ℕ = aligned end (field_align pack e) + e.size in
    let split : drop i es ≡ e ∷ drop (suc i) es = drop-cons es i d lt in
    let is' = rw split at is in
    let there : start ≡ aligned end (field_align pack e) = start_is ∙ ap (aligned end) align_is in
    omega (arith, is', there, greatest-least (max end next) (map (λ r. r.end) (in_sequence pack next (drop (suc i) es))))
