-- Laws of types: those of accepted files close no circle.
use Rattle.std.specs.Prelude.{◌≡◌, ◌≤◌, ◌⊎◌, ℕ, List, Contains, Some, Ok}
use Rattle.byte_view.specs.Headers.{Headers}
use Rattle.byte_view.specs.Metadata.{Metadata}
use Rattle.graph_cycles.specs.Cycles.{Leads, OnCycle}
use Rattle.type_model.specs.Module.{Module, row_count}
use Rattle.type_model.specs.Rows.{type_defs}
use Rattle.type_model.specs.Types.{own_fields}
use Rattle.type_model.specs.Part.{extends_edges, nesting_edges, field_value, types_in}

-- Each value of a type holds one of another: the type has an instance field of it, which it declares itself or which a type
-- declares that it extends, at whatever distance.
pub record Holds (m : Module) (t u : ℕ) : Type 0 where
  pub declarer : ℕ
  pub extended : (declarer ≡ t) ⊎ Leads (extends_edges m) t declarer
  pub first : 1 ≤ declarer
  pub last : declarer ≤ row_count m type_defs
  pub field : ℕ
  pub own : Contains (own_fields m declarer) field
  pub value : field_value m field ≡ Some u

-- the same at any depth
pub data HoldsWithin (m : Module) : ℕ → ℕ → Type 0 where
  Directly : {t u : ℕ} → Holds m t u → HoldsWithin m t u
  Deeper : {t u w : ℕ} → HoldsWithin m t u → Holds m u w → HoldsWithin m t w

-- no type extends itself, encloses itself or stands inside itself, at whatever distance
pub record ClosesNoCircle (m : Module) (t : ℕ) : Type 0 where
  pub extends : ¬ OnCycle (extends_edges m) t
  pub encloses : ¬ OnCycle (nesting_edges m) t
  pub holds : ¬ HoldsWithin m t t

abbrev pub AcceptedTypesCloseNoCircle : Type 0
AcceptedTypesCloseNoCircle =
    (bytes : List ℕ) (headers : Headers) (metadata : Metadata) (m : Module)
    → types_in bytes headers metadata ≡ Ok m
    → (t : ℕ) → 1 ≤ t → t ≤ row_count m type_defs → ClosesNoCircle m t
