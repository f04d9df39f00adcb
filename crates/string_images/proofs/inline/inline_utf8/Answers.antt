use Rattle.std.proofs.Common.{arith}
use Rattle.std.proofs.lemmas.List.{length-take}
use Rattle.string_images.specs.Inline.{starts_character}
use Rattle.string_images.proofs.Places.{last_place_within}
use Rattle.string_images.proofs.inline.inline_utf8.Goals as goal

pub padded_to-requires : goal.padded_to-requires
padded_to-requires c =
    let within = last_place_within (starts_character c.as_slice.result.now) c.saturating_sub.result in
    rw c.truncate.ensures.items
    (omega (arith, within, c.last_start-end.ensures, c.saturating_sub.ensures, length-take c.last_start-end.result c.into_bytes-bytes.result.items))
