-- What is known of types, by their places.
use Rattle.std.proofs.Common.{◌≡◌, ◌≤◌, ℕ, zero, suc, List, [], ◌∷◌, get_or, None, slice_get, refl, subst}
use Rattle.type_model.specs.Module.{Module}
use Rattle.flat_types.specs.Flat.{flat_shape, flat_within, most_levels}
use Rattle.flat_types.specs.Answers.{IsFound}
use Rattle.flat_types.proofs.Levels.{none_fewer}
use Rattle.flat_types.specs.declared.flat.Found.{Found}
use Rattle.flat_types.specs.declared.flat.Found.TheVariants as found

pub none_is_unknown : (known : List Found) (t : ℕ) → slice_get known t ≡ None → get_or known t found.Unknown ≡ found.Unknown
none_is_unknown [] t is = refl
none_is_unknown (x ∷ xs) zero is = absurd (cc)
none_is_unknown (x ∷ xs) (suc t) is = none_is_unknown xs t is

pub not_flat : (m : Module) (t left : ℕ) (known : Found) → left ≤ most_levels → IsFound m t known → known ≡ found.NotFlat → flat_within left m t ≡ None
unfolding flat_shape
not_flat m t left known few is which = none_fewer m left most_levels t few (subst (IsFound m t) which is)
