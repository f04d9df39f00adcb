-- Core members as the definitions have them.
use Rattle.std.proofs.Common.{◌≡◌, ℕ, List, map, slice_get, Option, Some, None, option_map, Bor, sym, ap, ◌∙◌}
use Rattle.std.specs.Option.{option_copied}
use Rattle.std.proofs.lemmas.Option.{slice_get-map}
use Rattle.type_members.specs.declared.core_members.CoreMember.{CoreMember as CodeMember}
use Rattle.type_members.specs.View.{view_member}

pub viewed : (r : Option (Bor CodeMember)) (members : List CodeMember) (k : ℕ) → option_copied r ≡ slice_get members k → option_map (λ known. view_member known.now) r ≡ slice_get (map view_member members) k
viewed None members k e = ap (option_map view_member) e ∙ sym (slice_get-map view_member members k)
viewed (Some known) members k e = ap (option_map view_member) e ∙ sym (slice_get-map view_member members k)
