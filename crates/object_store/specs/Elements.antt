-- Fields, elements and boxed values, each of which gives way to values of its kind alone.
use Rattle.std.specs.Prelude.{◌≡◌, ℕ, ◌*◌, ◌==◌, nat_le, List, length, take}
use Rattle.std.specs.Prelude.{Option, Some, None, slice_get, slice_set, if◌then◌else◌, IsSomeAnd, IsSome, MatchBool}
use Rattle.std.specs.Int.{w32, w64, to_le_bytes, cast_unsigned}
use Rattle.managed_value.specs.declared.value.Value.{Value, out-Value}
use Rattle.managed_value.specs.declared.value.Value.TheOpen.{Value-F}
use Rattle.managed_value.specs.Parts.{kind_of, bytes_in, with_bytes}
use Rattle.object_store.specs.declared.body.Body0.{Body0}
use Rattle.object_store.specs.declared.body.Body0.TheVariants as bodies

-- a value stands at a place, of the kind of another
abbrev pub Takes : List Value → ℕ → Value → Type 0
Takes values k v = IsSomeAnd (slice_get values k) (λ old. kind_of old ≡ kind_of v)

-- the bytes that a value leaves in an element of so many: the low ones of an int32 in up to 4, an int64
-- or native int in 8, a value that is kept as bytes in as many; None where it isn't of the element's kind
abbrev pub kept_in : ℕ → Value-F Value → Option (List ℕ)
kept_in width (Value-F.I32 n) =
    if nat_le width 4 then Some (take width (to_le_bytes w32 (cast_unsigned w32 n))) else None
kept_in width (Value-F.I64 n) = if width == 8 then Some (to_le_bytes w64 (cast_unsigned w64 n)) else None
kept_in width (Value-F.N n) = if width == 8 then Some (to_le_bytes w64 (cast_unsigned w64 n)) else None
kept_in width (Value-F.Flat t bytes) = if length bytes == width then Some bytes else None
kept_in width _ = None

abbrev pub kept_bytes : ℕ → Value → Option (List ℕ)
kept_bytes width v = kept_in width (out-Value v)

-- the element at a place is among the bytes, and the value is of its kind
abbrev pub TakesBytes : List ℕ → ℕ → ℕ → Value → Type 0
TakesBytes bytes width k v = IsSome (bytes_in bytes (k * width) width) × IsSome (kept_bytes width v)

-- bytes with those of an element in place of the ones at its place
abbrev pub over : List ℕ → ℕ → Option (List ℕ) → List ℕ
over bytes at (Some new) = with_bytes bytes at new
over bytes at None = bytes

-- the object has such a field, of the value's kind
abbrev pub HasField : Body0 → ℕ → Value → Type 0
HasField (bodies.Object t fields) k v = Takes fields k v
HasField _ k v = ⊥

abbrev pub with_field : Body0 → ℕ → Value → Body0
with_field (bodies.Object t fields) k v = bodies.Object t (slice_set fields k v)
with_field body k v = body

-- the array has such an element, of the value's kind
abbrev pub HasElement : Body0 → ℕ → Value → Type 0
HasElement (bodies.Array elem width len bytes elements) k v =
    MatchBool (width == 0) (Takes elements k v) (TakesBytes bytes width k v)
HasElement _ k v = ⊥

abbrev pub with_element : Body0 → ℕ → Value → Body0
with_element (bodies.Array elem width len bytes elements) k v =
    if width == 0
    then bodies.Array elem width len bytes (slice_set elements k v)
    else bodies.Array elem width len (over bytes (k * width) (kept_bytes width v)) elements
with_element body k v = body

-- the object is a box of a value of this kind
abbrev pub HasBoxed : Body0 → Value → Type 0
HasBoxed (bodies.Box t old) v = kind_of old ≡ kind_of v
HasBoxed _ v = ⊥

abbrev pub with_boxed : Body0 → Value → Body0
with_boxed (bodies.Box t old) v = bodies.Box t v
with_boxed body v = body
