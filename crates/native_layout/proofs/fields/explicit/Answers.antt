use Rattle.std.proofs.Common.{◌≡◌, ◌∙◌, sym, subst, ap, length, Bool, List, Result, Err, Option, None, ℕ, ◌≤◌, ◌^◌, if◌then◌else◌}
use Rattle.std.proofs.lemmas.List.FromFn.{length-map-range_with_len}
use Rattle.native_layout.specs.declared.extent.Range.{Range}
use Rattle.native_layout.specs.declared.refused.LayoutBad.{LayoutBad}
use Rattle.native_layout.specs.declared.shapes.Layout.{Layout}
use Rattle.native_layout.specs.Struct.{Struct, offset_at, at_offsets, is_integral, first_overlap}
use Rattle.native_layout.specs.Answer.{Answers, Passes, laid}
use Rattle.native_layout.specs.Placed.{finished, greatest_end}
use Rattle.native_layout.specs.Ruled.{ruled}
use Rattle.native_layout.proofs.Ruled.{has_fields, overlap_is}
use Rattle.native_layout.proofs.Structs.{explicit_ranges, explicit_laid, explicit_refused, explicit_unwritten, low_ends, same_err}
use Rattle.native_layout.proofs.fields.explicit.Goals as goal

pub ranges_at-requires-clause-each : goal.ranges_at-requires-clause-each
ranges_at-requires-clause-each c =
    ap length (c.as_slice.ensures ∙ c.in_ok-offsets.ensures.value) ∙ length-map-range_with_len (offset_at c.args.offsets.now) 0 (length c.args.extents.now)

pub returns-in_err-offsets-clause-value : goal.returns-in_err-offsets-clause-value
returns-in_err-offsets-clause-value c = λ fields are.
    let s : Struct = ruled c.args.rules c.args.offsets.now fields in
    let has = has_fields c.args.rules c.args.offsets.now c.args.extents.now fields are c.requires.some c.requires.packing in
    let said = explicit_unwritten s c.args.extents.now c.in_err-offsets.field-0.0 has c.requires.explicit are.extents c.in_err-offsets.ensures in
    let same = same_err c.from_residual.result c.in_err-offsets.field-0.0 c.from_residual.ensures.1 in
    subst (λ (r : Result Layout LayoutBad). Answers r (laid s)) (sym same) said

pub returns-in_err-without_overlap-clause-value : goal.returns-in_err-without_overlap-clause-value
returns-in_err-without_overlap-clause-value c = λ fields are.
    let s : Struct = ruled c.args.rules c.args.offsets.now fields in
    let has = has_fields c.args.rules c.args.offsets.now c.args.extents.now fields are c.requires.some c.requires.packing in
    let rs : List Range = c.in_ok-ranges.ranges.items in
    let lie : rs ≡ at_offsets c.in_ok-offsets.offsets c.args.extents.now =
    c.in_ok-ranges.ensures ∙ ap (λ (o : List (Option ℕ)). at_offsets o c.args.extents.now) c.as_slice.ensures in
    let lies = explicit_ranges s c.args.extents.now c.in_ok-offsets.offsets rs has c.requires.explicit are.extents c.in_ok-offsets.ensures lie in
    let listed = subst (λ (ls : List Range). Passes {X = Unit {0}} (if c.args.rules.overlap then None else first_overlap ls) (Err c.in_err-without_overlap.field-0.0)) c.as_slice-2.ensures.value c.in_err-without_overlap.ensures in
    let says = subst (λ (b : Bool). Passes {X = Unit {0}} (if b then None else first_overlap rs) (Err c.in_err-without_overlap.field-0.0)) (overlap_is c.args.rules c.args.offsets.now c.args.extents.now fields are c.requires.explicit) listed in
    let said = explicit_refused s c.args.extents.now c.in_ok-offsets.offsets rs c.in_err-without_overlap.field-0.0 lies says in
    let same = same_err c.from_residual-in_err-without_overlap.result c.in_err-without_overlap.field-0.0 c.from_residual-in_err-without_overlap.ensures.1 in
    subst (λ (r : Result Layout LayoutBad). Answers r (laid s)) (sym same) said

pub finish-requires-clause-room : goal.finish-requires-clause-room
finish-requires-clause-room c =
    let rs : List Range = c.in_ok-ranges.ranges.items in
    let lie : rs ≡ at_offsets c.in_ok-offsets.offsets c.args.extents.now =
    c.in_ok-ranges.ensures ∙ ap (λ (o : List (Option ℕ)). at_offsets o c.args.extents.now) c.as_slice.ensures in
    let end : c.greatest_end-end.result ≡ greatest_end 0 rs = c.greatest_end-end.ensures ∙ ap (greatest_end 0) c.as_slice-3.ensures.value in
    subst (λ (n : ℕ). n ≤ 2 ^ 34) (sym end) (low_ends c.args.offsets.now c.args.extents.now c.in_ok-offsets.offsets rs c.in_ok-offsets.ensures c.requires.sizes lie)

pub returns-clause-value : goal.returns-clause-value
returns-clause-value c = λ fields are.
    let s : Struct = ruled c.args.rules c.args.offsets.now fields in
    let has = has_fields c.args.rules c.args.offsets.now c.args.extents.now fields are c.requires.some c.requires.packing in
    let rs : List Range = c.in_ok-ranges.ranges.items in
    let lie : rs ≡ at_offsets c.in_ok-offsets.offsets c.args.extents.now =
    c.in_ok-ranges.ensures ∙ ap (λ (o : List (Option ℕ)). at_offsets o c.args.extents.now) c.as_slice.ensures in
    let lies = explicit_ranges s c.args.extents.now c.in_ok-offsets.offsets rs has c.requires.explicit are.extents c.in_ok-offsets.ensures lie in
    let end : c.greatest_end-end.result ≡ greatest_end 0 rs = c.greatest_end-end.ensures ∙ ap (greatest_end 0) c.as_slice-3.ensures.value in
    let listed : (if c.args.rules.overlap then None else first_overlap rs) ≡ None =
    subst (λ (ls : List Range). (if c.args.rules.overlap then None else first_overlap ls) ≡ None) c.as_slice-2.ensures.value c.in_ok-without_overlap.ensures in
    let apart : (if is_integral s then None else first_overlap rs) ≡ None =
    subst (λ (b : Bool). (if b then None else first_overlap rs) ≡ None) (overlap_is c.args.rules c.args.offsets.now c.args.extents.now fields are c.requires.explicit) listed in
    let is = explicit_laid s c.args.extents.now c.in_ok-offsets.offsets rs c.greatest_align-align.result
    lies apart c.greatest_align-align.ensures.value c.greatest_align-align.ensures.align in
    let is' = is ∙ ap (λ (n : ℕ). finished c.in_ok-offsets.offsets n c.greatest_align-align.result c.args.rules.least) (sym end) in
    subst (λ (said : Result Layout ℕ). Answers c.finish.result said) (sym is') c.finish.ensures.value
