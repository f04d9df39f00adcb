use Rattle.std.proofs.Common.{◌≡◌, ◌≤◌, ◌*◌, ◌-◌, ◌∙◌, ap, subst, length, arith}
use Rattle.std.specs.Prelude.{IfOk}
use Rattle.string_images.specs.Inline.{cut, parts_no_pair, padded}
use Rattle.string_images.specs.Texts.{utf16_bytes}
use Rattle.string_images.proofs.Places.{utf16_bytes_length, cut_length, padded_units}
use Rattle.string_images.proofs.inline.inline_utf16.Goals as goal

pub padded_to-requires : goal.padded_to-requires
padded_to-requires c =
    let front = cut parts_no_pair (c.args.count - 1) c.args.units.now in
    let items : c.into_vec.result.items ≡ utf16_bytes front = grind (arith, c.into_vec.ensures, c.in_ok-push_units.ensures, c.in_ok-bytes.ensures, c.whole_front.ensures, c.saturating_sub.ensures) in
    let within = cut_length parts_no_pair (c.args.count - 1) c.args.units.now in
    rw items (omega (arith, within, utf16_bytes_length front))

pub returns : goal.returns
returns c =
    let front = cut parts_no_pair (c.args.count - 1) c.args.units.now in
    let items : c.into_vec.result.items ≡ utf16_bytes front = grind (arith, c.into_vec.ensures, c.in_ok-push_units.ensures, c.in_ok-bytes.ensures, c.whole_front.ensures, c.saturating_sub.ensures) in
    let within = cut_length parts_no_pair (c.args.count - 1) c.args.units.now in
    let short : length front ≤ c.args.count = omega (arith, within) in
    subst (λ all. IfOk c.padded_to.result (λ bytes. bytes ≡ all)) (ap (padded (2 * c.args.count)) items ∙ padded_units c.args.count front short) c.padded_to.ensures
