-- between the place and the most, each place is inside of a character
use Rattle.std.proofs.Common.{◌≡◌}
use Rattle.string_images.specs.Inline.{last_place, starts_character}
use Rattle.string_images.proofs.inline.last_start.Given as goal

abbrev pub invariant-loop-place : goal.invariant-loop-place
invariant-loop-place l = last_place (starts_character l.text) l.place ≡ last_place (starts_character l.text) l.most

abbrev pub decreases-loop-place : goal.decreases-loop-place
decreases-loop-place l = l.place
