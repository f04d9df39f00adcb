use Rattle.std.proofs.Common.{◌≡◌, ℕ, ◌≤◌, ◌∷◌, [], ◌++◌, get_or, sym, ap, ◌∙◌, arith}
use Rattle.type_members.specs.Akin.{place_of}
use Rattle.type_members.proofs.FirstPlaces.{first_so, first_within, numbers_more, places_more}
use Rattle.type_members.proofs.method_keys.numbers_of.Goals as goal

pub numbered-requires : goal.numbered-requires
numbered-requires c =
    let is : get_or c.args.marks.now c.loop-place.place c.index-marks-place.result ≡ c.as_slice-mark.result.now =
    sym (c.as_slice-mark.ensures ∙ c.index-marks-place.is) in
    let so : c.in_ok-first.first ≡ place_of c.as_slice-mark.result.now c.args.marks.now =
    first_so c.args.marks.now c.loop-place.place c.index-marks-place.result c.as_slice-mark.result.now c.loop-place-test.true is
    c.in_ok-first.first c.loop-place.firsts c.loop-place.invariant.known c.in_ok-first.ensures.first in
    let low : place_of c.as_slice-mark.result.now c.args.marks.now ≤ c.loop-place.place =
    first_within c.as_slice-mark.result.now c.args.marks.now c.loop-place.place c.index-marks-place.result c.loop-place-test.true is in
    omega (arith, so, low, c.loop-place-test.true)

pub loop-place-preserved : goal.loop-place-preserved
loop-place-preserved c =
    let is : get_or c.args.marks.now c.loop-place.place c.index-marks-place.result ≡ c.as_slice-mark.result.now =
    sym (c.as_slice-mark.ensures ∙ c.index-marks-place.is) in
    let so : c.in_ok-first.first ≡ place_of c.as_slice-mark.result.now c.args.marks.now =
    first_so c.args.marks.now c.loop-place.place c.index-marks-place.result c.as_slice-mark.result.now c.loop-place-test.true is
    c.in_ok-first.first c.loop-place.firsts c.loop-place.invariant.known c.in_ok-first.ensures.first in
    record {
      numbers = numbers_more c.args.marks.now c.loop-place.place c.index-marks-place.result c.as_slice-mark.result.now c.loop-place-test.true is
          c.in_ok-first.first c.loop-place.numbers c.push.new.self so c.loop-place.invariant.numbers
          (c.in_ok-push.ensures.ok ∙ ap (λ (n : ℕ). c.loop-place.numbers ++ n ∷ []) c.numbered.ensures);
      known = places_more c.args.marks.now c.loop-place.place c.index-marks-place.result c.as_slice-mark.result.now c.loop-place-test.true is
          c.loop-place.firsts c.first_place.new.firsts c.loop-place.invariant.known c.in_ok-first.ensures.known;
    }
