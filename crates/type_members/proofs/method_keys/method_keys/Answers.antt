use Rattle.std.proofs.Common.{List, ℕ, map, ap, ◌∙◌}
use Rattle.type_members.specs.Akin.{number_in}
use Rattle.type_members.proofs.Marks.{tells}
use Rattle.type_members.proofs.method_keys.method_keys.Goals as goal

pub returns : goal.returns
returns c =
    tells c.args.types.now c.in_ok-numbers.numbers
    (c.in_ok-numbers.ensures ∙ ap (λ (marks : List (List ℕ)). map (number_in marks) marks) (c.as_slice.ensures ∙ c.in_ok-marks.ensures))
