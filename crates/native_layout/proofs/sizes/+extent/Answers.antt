use Rattle.std.proofs.Common.{◌∙◌, ℕ, ◌+◌, ◌-◌, ◌≤◌, ap, sym, subst, rules, arith, Bool, IsTrue, List, map, drop, length, Option, unwrap_or}
use Rattle.std.specs.List.{list_all, range_with_len}
use Rattle.native_layout.specs.declared.shapes.Shape.{Shape, the_lemmas}
use Rattle.native_layout.specs.Struct.{Measure, at_offsets, field_align, greatest, in_sequence, is_align, largest, offset_at, written}
use Rattle.native_layout.specs.Shapes.{extents_of, in_order, measure, measured, stands}
use Rattle.native_layout.specs.Placed.{greatest_end}
use Rattle.native_layout.proofs.Folds.{measure_struct, in_order_struct}
use Rattle.native_layout.proofs.Structs.{align_step, explicit_below, explicit_step, is_none_is, max_align, sequence_step, sequential_below, standing_fields, standing_packing}
use Rattle.native_layout.proofs.sizes.+extent.Goals as goal

pub extent-struct_extent-requires : goal.extent-struct_extent-requires
extent-struct_extent-requires t c = (
  search (rules, the_lemmas),
  record {
    order = subst (λ (b : Bool). IsTrue b) (ap in_order c.in-Struct.is ∙ in_order_struct c.in-Struct.s) c.requires.order;
    stands = is_none_is _ (subst (λ (m : Measure). IsTrue m.stands) (ap measure c.in-Struct.is ∙ measure_struct c.in-Struct.s) c.requires.stands);
  },
)

pub sequential_extent-overflow_add-end : goal.sequential_extent-overflow_add-end
sequential_extent-overflow_add-end t c =
    let next = sequence_step _ c.args.pack c.loop-shape.end c.loop-shape.shape-index c.aligned.result c.field_align-at.result c.args.shapes.now c.shape-item.result c.extent-e.result
    c.loop-shape-test.true c.shape-item.is c.loop-shape.invariant.end c.requires.within c.extent-e.ensures c.field_align-at.ensures.value c.field_align-at.ensures.align c.aligned.ensures in
    omega (arith, next.sum)

pub sequential_extent-loop-shape-preserved : goal.sequential_extent-loop-shape-preserved
sequential_extent-loop-shape-preserved t c =
    let next = sequence_step _ c.args.pack c.loop-shape.end c.loop-shape.shape-index c.aligned.result c.field_align-at.result c.args.shapes.now c.shape-item.result c.extent-e.result
    c.loop-shape-test.true c.shape-item.is c.loop-shape.invariant.end c.requires.within c.extent-e.ensures c.field_align-at.ensures.value c.field_align-at.ensures.align c.aligned.ensures in
    let wide = align_step _ c.loop-shape.align c.args.pack c.loop-shape.shape-index c.field_align-at.result c.args.shapes.now c.shape-item.result c.extent-e.result
    c.loop-shape-test.true c.shape-item.is c.loop-shape.invariant.align c.field_align-at.ensures.value c.extent-e.ensures in
    record {
      end = next.step;
      align = wide ∙ ap (λ (a : ℕ). greatest a (map (field_align c.args.pack) (extents_of (drop (c.loop-shape.shape-index + 1) c.args.shapes.now)))) (sym c.max-align.ensures);
      good = subst (λ (a : ℕ). IsTrue (is_align a)) (sym c.max-align.ensures) (max_align c.loop-shape.align c.field_align-at.result c.loop-shape.invariant.good c.field_align-at.ensures.align);
      within = next.sum;
    }

pub explicit_extent-overflow_add-start : goal.explicit_extent-overflow_add-start
explicit_extent-overflow_add-start t c =
    let start = c.from-start.ensures ∙ (c.unwrap_or.ensures ∙ ap (λ (o : Option ℕ). unwrap_or o 0) c.offset_at.ensures.value) in
    let next = explicit_step _ c.loop-k.end c.loop-k.k c.from-start.result c.args.offsets.now c.args.shapes.now c.index-shapes-k.result c.extent-e.result
    c.loop-k-test.true c.index-shapes-k.is c.loop-k.invariant.end c.requires.within c.extent-e.ensures start in
    omega (arith, next.sum)

pub explicit_extent-loop-k-preserved : goal.explicit_extent-loop-k-preserved
explicit_extent-loop-k-preserved t c =
    let start = c.from-start.ensures ∙ (c.unwrap_or.ensures ∙ ap (λ (o : Option ℕ). unwrap_or o 0) c.offset_at.ensures.value) in
    let next = explicit_step _ c.loop-k.end c.loop-k.k c.from-start.result c.args.offsets.now c.args.shapes.now c.index-shapes-k.result c.extent-e.result
    c.loop-k-test.true c.index-shapes-k.is c.loop-k.invariant.end c.requires.within c.extent-e.ensures start in
    let wide = align_step _ c.loop-k.align c.args.pack c.loop-k.k c.field_align.result c.args.shapes.now c.index-shapes-k.result c.extent-e.result
    c.loop-k-test.true c.index-shapes-k.is c.loop-k.invariant.align c.field_align.ensures.value c.extent-e.ensures in
    record {
      end = next.step ∙ ap (λ (n : ℕ). greatest_end n (at_offsets (map (offset_at c.args.offsets.now) (range_with_len (c.loop-k.k + 1) (length c.args.shapes.now - (c.loop-k.k + 1)))) (extents_of (drop (c.loop-k.k + 1) c.args.shapes.now)))) (sym c.max-end.ensures);
      align = wide ∙ ap (λ (a : ℕ). greatest a (map (field_align c.args.pack) (extents_of (drop (c.loop-k.k + 1) c.args.shapes.now)))) (sym c.max-align.ensures);
      good = subst (λ (a : ℕ). IsTrue (is_align a)) (sym c.max-align.ensures) (max_align c.loop-k.align c.field_align.result c.loop-k.invariant.good c.field_align.ensures.align);
      within = omega (arith, next.sum, c.max-end.ensures, c.loop-k.invariant.within);
    }

pub fields_extent-sequential_extent-requires : goal.fields_extent-sequential_extent-requires
fields_extent-sequential_extent-requires t c =
    let s = c.args.s.now in
    let fields = sym c.as_slice-else-s.ensures in
    let order = subst (λ (xs : List Shape). IsTrue (list_all in_order xs)) fields c.requires.order in
    let standing = subst (λ (xs : List Shape). IsTrue (list_all stands xs)) fields (standing_fields s c.requires.stands) in
    let good = standing_packing (measured s) c.requires.stands in
    let within = subst (λ (xs : List Shape). greatest_end 0 (in_sequence s.pack 0 (extents_of xs)) ≤ largest) fields (sequential_below s c.requires.stands c.if-s.false) in
    (search (rules, the_lemmas), (order, (standing, (good, within))))

pub fields_extent-explicit_extent-requires : goal.fields_extent-explicit_extent-requires
fields_extent-explicit_extent-requires t c =
    let s = c.args.s.now in
    let fields = sym c.as_slice.ensures in
    let order = subst (λ (xs : List Shape). IsTrue (list_all in_order xs)) fields c.requires.order in
    let standing = subst (λ (xs : List Shape). IsTrue (list_all stands xs)) fields (standing_fields s c.requires.stands) in
    let good = standing_packing (measured s) c.requires.stands in
    let within = subst (λ (xs : List Shape). greatest_end 0 (at_offsets (written s.offsets (length xs)) (extents_of xs)) ≤ largest) fields (explicit_below s c.requires.stands c.if-s.true) in
    (search (rules, the_lemmas), (order, (standing, (good, within))))
