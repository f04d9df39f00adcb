use Rattle.std.proofs.Common.{◌≡◌, ◌∙◌, true, Some, arith, ap, sym}
use Rattle.std.specs.Prelude.{is_none}
use Rattle.std.proofs.lemmas.List.FromFn.{map-range_with_len_more}
use borrow.Author.Count.{below_more}
use Rattle.std.specs.Option.{option_map}
use Rattle.native_layout.specs.Struct.{offset_at}
use Rattle.native_layout.specs.Answer.{told}
use Rattle.native_layout.proofs.Positions.{missing_at}
use Rattle.native_layout.proofs.offsets.written.Goals as goal

pub returns-in-None : goal.returns-in-None
returns-in-None c =
    let here : is_none (offset_at c.args.offsets.now c.loop-k.k) ≡ true = ap is_none (sym c.in-None.ensures.value) in
    let at = missing_at c.args.offsets.now c.args.count c.loop-k.k c.loop-k-test.true c.loop-k.invariant.each here in
    ap (option_map told) at ∙ ap Some (sym c.told.ensures)

pub loop-k-preserved : goal.loop-k-preserved
loop-k-preserved c =
    let more = map-range_with_len_more (offset_at c.args.offsets.now) 0 c.loop-k.k c.loop-k.k (omega arith) in
    record {
      value = cc (more, c.in_ok-push-in-Some.ensures.ok, c.in-Some.ensures.value, c.loop-k.invariant.value);
      each = below_more _ _ c.loop-k.invariant.each (ap is_none (sym c.in-Some.ensures.value));
      small = below_more _ _ c.loop-k.invariant.small c.offset_at.ensures.small;
    }
