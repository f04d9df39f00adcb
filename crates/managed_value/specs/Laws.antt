-- What holds of all values, and of what is put into them.
use Rattle.std.specs.Prelude.{◌≡◌, ◌≢◌, ◌+◌, ◌≤◌, ℕ, List, ◌∷◌, length, Some, None, ◌⊎◌}
use Rattle.managed_value.specs.declared.names.TypeId.{TypeId}
use Rattle.managed_value.specs.declared.place.PathStep.{PathStep}
use Rattle.managed_value.specs.declared.place.PathStep.TheVariants.{Field, Range}
use Rattle.managed_value.specs.declared.value.Value
use Rattle.managed_value.specs.declared.value.Value.{Value}
use Rattle.managed_value.specs.Parts.{kind_of, part_at, put, Fits}

-- What is put at a path is what stands there then.
abbrev pub PutIsThere : Type 0
PutIsThere = (v new : Value) (path : List PathStep) → Fits v path new → part_at (put v path new) path ≡ Some new

-- What is put into a value leaves its kind.
abbrev pub KindsStay : Type 0
KindsStay = (v new : Value) (path : List PathStep) → Fits v path new → kind_of (put v path new) ≡ kind_of v

-- Two paths part ways: at two fields, or at two ranges that share no byte.
abbrev pub PartWays : List PathStep → List PathStep → Type 0
PartWays (Field j ∷ path) (Field k ∷ other) = (j ≢ k) ⊎ ((j ≡ k) × PartWays path other)
PartWays (Range a m ∷ path) (Range b n ∷ other) =
    ((a + m ≤ b) ⊎ (b + n ≤ a)) ⊎ ((a ≡ b) × (m ≡ n) × PartWays path other)
PartWays _ _ = ⊥

-- What is put at one path leaves what stands at another that parts ways with it.
abbrev pub OthersStay : Type 0
OthersStay = (v new : Value) (path other : List PathStep) → PartWays path other → Fits v path new → part_at (put v path new) other ≡ part_at v other

-- A field past the last is none.
abbrev pub NoSuchField : Type 0
NoSuchField = (t : TypeId) (parts : List Value) (k : ℕ) (path : List PathStep) → length parts ≤ k → part_at (Value.Fields t parts) (Field k ∷ path) ≡ None
