-- New objects.
use Rattle.std.specs.Prelude.{◌≡◌, ℕ, ◌+◌, ◌*◌, ◌==◌, nat_le, Bool, true, false, [], ◌∷◌, ◌++◌, length, replicate}
use Rattle.std.specs.Prelude.{Option, Some, None, Result, Ok, Err, if◌then◌else◌, IsSome}
use Rattle.bound_base.specs.declared.memory.NoMemory.{NoMemory}
use Rattle.managed_value.specs.declared.names.TypeId.{TypeId}
use Rattle.managed_value.specs.declared.names.ObjId.{ObjId}
use Rattle.managed_value.specs.declared.value.Value.{Value}
use Rattle.object_store.specs.declared.body.Body0.{Body0}
use Rattle.object_store.specs.declared.body.Body0.TheVariants as bodies
use Rattle.object_store.specs.declared.hidden.Hidden.{Hidden}
use Rattle.object_store.specs.declared.hidden.Hidden.TheVariants as hiddens
use Rattle.object_store.specs.declared.object.StoredObject.{StoredObject}
use Rattle.object_store.specs.declared.fault.ObjBad.{ObjBad}
use Rattle.object_store.specs.declared.fault.ObjBad.TheVariants.{Full, Memory}
use Rattle.object_store.specs.Weights.{weight_of}
use Rattle.object_store.specs.Heap.{ManagedHeap, used}

-- the object that is made next
abbrev pub next_id : ManagedHeap → ObjId
next_id heap = record { 0 = length heap.objects }

-- with one more object after the others
abbrev pub with_new : ManagedHeap → StoredObject → ManagedHeap
with_new heap object = record heap { objects = heap.objects ++ object ∷ [] }

-- an object of the program
abbrev pub plain : Body0 → StoredObject
plain body = record { body = body; hidden = hiddens.Nothing; counts = true; away = false }

-- an object that the host itself makes
abbrev pub uncounted : Body0 → Hidden → StoredObject
uncounted body hidden = record { body = body; hidden = hidden; counts = false; away = false }

-- so many bytes more are within the limit
abbrev pub has_room : ManagedHeap → ℕ → Bool
has_room heap weight = nat_le (used heap + weight) heap.limit

-- with one more object of the program; None where its bytes would pass the limit
abbrev pub made : ManagedHeap → Body0 → Option ManagedHeap
made heap body = if has_room heap (weight_of body) then Some (with_new heap (plain body)) else None

-- a new array: zeros where it is kept as bytes, else so many equal values
abbrev pub new_array : TypeId → ℕ → Value → ℕ → Body0
new_array elem width zero len =
    if width == 0
    then bodies.Array elem width len [] (replicate len zero)
    else bodies.Array elem width len (replicate (width * len) 0) []

-- the answer of a call that makes an object of the program: its number, after which it stands last;
-- or its bytes would pass the limit; or there is room, and memory for it is wanting
abbrev pub Makes : ManagedHeap → Body0 → Result ObjId ObjBad → ManagedHeap → Type 0
Makes old body (Ok id) new = (id ≡ next_id old) × (made old body ≡ Some new)
Makes old body (Err Full) new = (made old body ≡ None) × (new ≡ old)
Makes old body (Err Memory) new = IsSome (made old body) × (new ≡ old)

-- the answer of a call that makes an object that counts nothing
abbrev pub MakesUncounted : ManagedHeap → Body0 → Hidden → Result ObjId NoMemory → ManagedHeap → Type 0
MakesUncounted old body hidden (Ok id) new =
    (id ≡ next_id old) × (new ≡ with_new old (uncounted body hidden))
MakesUncounted old body hidden (Err bad) new = new ≡ old
