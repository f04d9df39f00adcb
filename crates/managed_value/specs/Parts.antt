-- A value is a tree: its parts are its fields, down to any depth, and where it is kept as bytes the
-- ranges of these. A path leads from a value to one of its parts.
use Rattle.std.specs.Prelude.{◌≡◌, ◌+◌, ℕ, nat_le, List, [], ◌∷◌, ◌++◌, length, take, drop, Option, Some, None, slice_get, slice_set, slice_range, if◌then◌else◌, option_and_then, IsSomeAnd}
use Rattle.managed_value.specs.declared.names.TypeId.{TypeId}
use Rattle.managed_value.specs.declared.place.PathStep.{PathStep}
use Rattle.managed_value.specs.declared.place.PathStep.TheVariants.{Field, Range}
use Rattle.managed_value.specs.declared.value.Value
use Rattle.managed_value.specs.declared.value.Value.{Value, out-Value}
use Rattle.managed_value.specs.declared.value.Value.TheOpen.{Value-F}
use Rattle.managed_value.specs.declared.kind.Kind.{Kind}
use Rattle.managed_value.specs.declared.kind.Kind.TheVariants as kinds

-- What a value is of, as far as another may stand in its place: an object or none are one kind; a
-- value of a value type is of that type, and where it is kept as bytes, of so many.
abbrev pub kind_in : Value-F Value → Kind
kind_in (Value-F.I32 n) = kinds.Int32
kind_in (Value-F.I64 n) = kinds.Int64
kind_in (Value-F.N n) = kinds.NativeInt
kind_in Value-F.Null = kinds.Reference
kind_in (Value-F.Ref object) = kinds.Reference
kind_in (Value-F.Code method) = kinds.Code
kind_in (Value-F.At place) = kinds.Address
kind_in (Value-F.Flat t bytes) = kinds.Bytes t (length bytes)
kind_in (Value-F.Fields t parts) = kinds.Fields t

abbrev pub kind_of : Value → Kind
kind_of v = kind_in (out-Value v)

-- bytes at a place, as far as they are there
abbrev pub bytes_in : List ℕ → ℕ → ℕ → Option (List ℕ)
bytes_in bytes at n =
    if nat_le (at + n) (length bytes) then Some (slice_range bytes at (at + n)) else None

abbrev pub flat_of : TypeId → Option (List ℕ) → Option Value
flat_of t (Some bytes) = Some (Value.Flat t bytes)
flat_of t None = None

abbrev pub field_in : ℕ → Value-F Value → Option Value
field_in k (Value-F.Fields t parts) = slice_get parts k
field_in k _ = None

abbrev pub range_in : ℕ → ℕ → Value-F Value → Option Value
range_in at n (Value-F.Flat t bytes) = flat_of t (bytes_in bytes at n)
range_in at n _ = None

-- the part at a step: a field, or a value of the same type that is just the bytes of a range
abbrev pub part : Value → PathStep → Option Value
part v (Field k) = field_in k (out-Value v)
part v (Range at n) = range_in at n (out-Value v)

-- the part at a path
abbrev pub part_at : Value → List PathStep → Option Value
part_at v [] = Some v
part_at v (step ∷ path) = option_and_then (λ w. part_at w path) (part v step)

-- bytes from a place on give way to others
abbrev pub with_bytes : List ℕ → ℕ → List ℕ → List ℕ
with_bytes bytes at new = take at bytes ++ (new ++ drop (at + length new) bytes)

abbrev pub with_field : Value → ℕ → Value → Value-F Value → Value
with_field v k new (Value-F.Fields t parts) = Value.Fields t (slice_set parts k new)
with_field v k new _ = v

abbrev pub with_range : Value → ℕ → Value-F Value → Value-F Value → Value
with_range v at (Value-F.Flat u new) (Value-F.Flat t bytes) = Value.Flat t (with_bytes bytes at new)
with_range v at _ _ = v

-- the value with another part at a step
abbrev pub with_part : Value → PathStep → Value → Value
with_part v (Field k) new = with_field v k new (out-Value v)
with_part v (Range at n) new = with_range v at (out-Value new) (out-Value v)

abbrev pub with_step : Value → PathStep → (Value → Value) → Option Value → Value
with_step v step change (Some old) = with_part v step (change old)
with_step v step change None = v

-- the value with another part at a path
abbrev pub put : Value → List PathStep → Value → Value
put v [] new = new
put v (step ∷ path) new = with_step v step (λ old. put old path new) (part v step)

-- the path leads to a value of the kind of another
abbrev pub Fits : Value → List PathStep → Value → Type 0
Fits v path new = IsSomeAnd (part_at v path) (λ old. kind_of old ≡ kind_of new)

-- where in the bytes the ranges of a path begin, each within the one before
abbrev pub start_of : List PathStep → ℕ
start_of [] = 0
start_of (Range at n ∷ path) = at + start_of path
start_of (Field k ∷ path) = start_of path

-- the bytes of a value that is kept as bytes
abbrev pub flat_bytes : Value-F Value → List ℕ
flat_bytes (Value-F.Flat t bytes) = bytes
flat_bytes _ = []

abbrev pub flat_with : Value → ℕ → List ℕ → Value-F Value → Value
flat_with v at new (Value-F.Flat t bytes) = Value.Flat t (with_bytes bytes at new)
flat_with v at new _ = v
