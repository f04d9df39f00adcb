-- What the instance fields of a type hold.
use Rattle.std.proofs.Common.{◌≡◌, ℕ, Bool, true, false, cond, List, [], ◌∷◌, ◌++◌, None, refl, ap}
use Rattle.std.specs.Prelude.{filter, if◌then◌else◌}
use Rattle.std.specs.List.{flat_map}
use Rattle.graph_cycles.specs.declared.graph.Edge.{Edge}
use Rattle.type_model.specs.Module.{Module}
use Rattle.type_model.specs.Types.{is_instance}
use Rattle.type_model.specs.Part.{edge, field_value}
use Rattle.type_model.specs.Sound.{held_if_own}

one_held : (m : Module) (from f : ℕ) (fields : List ℕ) (own : Bool)
    → flat_map (λ (g : ℕ). edge from (held_if_own m g)) fields
    ≡ flat_map (λ (g : ℕ). edge from (field_value m g)) (filter (is_instance m) fields)
    → edge from (if own then field_value m f else None) ++ flat_map (λ (g : ℕ). edge from (held_if_own m g)) fields
    ≡ flat_map (λ (g : ℕ). edge from (field_value m g)) (cond own (f ∷ filter (is_instance m) fields) (filter (is_instance m) fields))
one_held m from f fields true more = ap (λ (l : List Edge). edge from (field_value m f) ++ l) more
one_held m from f fields false more = more

pub own_held : (m : Module) (from : ℕ) (fields : List ℕ)
    → flat_map (λ (f : ℕ). edge from (held_if_own m f)) fields
    ≡ flat_map (λ (f : ℕ). edge from (field_value m f)) (filter (is_instance m) fields)
own_held m from [] = refl
own_held m from (f ∷ fields) = one_held m from f fields (is_instance m f) (own_held m from fields)
