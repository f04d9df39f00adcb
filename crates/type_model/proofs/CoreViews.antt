-- Core types as the definitions have them.
use Rattle.std.proofs.Common.{◌≡◌, ℕ, List, map, slice_get, Option, Some, None, option_map, Bor, sym, ap, ◌∙◌}
use Rattle.std.specs.Option.{option_copied}
use Rattle.std.proofs.lemmas.Option.{slice_get-map}
use Rattle.type_model.specs.declared.core_types.CoreType.{CoreType as CodeType}
use Rattle.type_model.specs.View.{view_core}

pub viewed : (r : Option (Bor CodeType)) (types : List CodeType) (k : ℕ) → option_copied r ≡ slice_get types k → option_map (λ known. view_core known.now) r ≡ slice_get (map view_core types) k
viewed None types k e = ap (option_map view_core) e ∙ sym (slice_get-map view_core types k)
viewed (Some known) types k e = ap (option_map view_core) e ∙ sym (slice_get-map view_core types k)
