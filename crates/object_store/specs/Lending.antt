-- The bytes of an array, which are lent to native code, and given back.
use Rattle.std.specs.Prelude.{ℕ, ◌==◌, Bool, true, false, ◌&&◌, not, List, [], length}
use Rattle.std.specs.Prelude.{Option, Some, None, option_map, option_and_then, if◌then◌else◌}
use Rattle.managed_value.specs.declared.names.ObjId.{ObjId}
use Rattle.object_store.specs.declared.body.Body0.{Body0}
use Rattle.object_store.specs.declared.body.Body0.TheVariants as bodies
use Rattle.object_store.specs.declared.object.StoredObject.{StoredObject}
use Rattle.object_store.specs.Heap.{ManagedHeap, object_at, changed, body_size}

-- the bytes of an array that is kept as bytes
abbrev pub array_bytes : Body0 → Option (List ℕ)
array_bytes (bodies.Array elem width len bytes elements) =
    if width == 0 then None else Some bytes
array_bytes _ = None

-- those bytes, where they are at home
abbrev pub home_bytes : StoredObject → Option (List ℕ)
home_bytes object = if object.away then None else array_bytes object.body

abbrev pub bytes_at : ManagedHeap → ObjId → Option (List ℕ)
bytes_at heap o = option_and_then home_bytes (object_at heap o)

-- an array with other bytes
abbrev pub with_bytes_of : List ℕ → Body0 → Body0
with_bytes_of bytes (bodies.Array elem width len old elements) = bodies.Array elem width len bytes elements
with_bytes_of bytes body = body

-- the object without its bytes, which are away
abbrev pub emptied : StoredObject → StoredObject
emptied object = record object { body = with_bytes_of [] object.body; away = true }

-- the bytes of an array have left it
abbrev pub sent_away : ManagedHeap → ObjId → ManagedHeap
sent_away heap o = changed heap o emptied

-- an array that is kept as bytes has so many
abbrev pub has_size : ℕ → Body0 → Bool
has_size n (bodies.Array elem width len bytes elements) =
    not (width == 0) && (body_size width len == n)
has_size n _ = false

-- the array's bytes are away, and are so many
abbrev pub waits_for : ℕ → StoredObject → Bool
waits_for n object = object.away && has_size n object.body

-- the object with its bytes back
abbrev pub refilled : List ℕ → StoredObject → StoredObject
refilled bytes object = record object { body = with_bytes_of bytes object.body; away = false }

abbrev pub refill : List ℕ → StoredObject → Option StoredObject
refill bytes object = if waits_for (length bytes) object then Some (refilled bytes object) else None

-- the array has its bytes back; None where it doesn't wait for so many
abbrev pub given : ManagedHeap → ObjId → List ℕ → Option ManagedHeap
given heap o bytes =
    option_map (λ _. changed heap o (refilled bytes)) (option_and_then (refill bytes) (object_at heap o))
