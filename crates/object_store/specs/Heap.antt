-- The managed heap: the objects of a run, each by the place at which it was made.
use Rattle.std.specs.Prelude.{◌≡◌, ℕ, zero, ◌-◌, ◌*◌, ◌^◌, ◌<◌, ◌≤◌, Bool, true, false, List, [], length}
use Rattle.std.specs.Prelude.{Option, Some, None, slice_get, slice_set, sum_by, All, option_map, if◌then◌else◌}
use Rattle.managed_value.specs.declared.names.ObjId.{ObjId}
use Rattle.object_store.specs.declared.body.Body0.{Body0}
use Rattle.object_store.specs.declared.body.Body0.TheVariants as bodies
use Rattle.object_store.specs.declared.hidden.Hidden.{Hidden}
use Rattle.object_store.specs.declared.object.StoredObject.{StoredObject}
use Rattle.object_store.specs.Weights.{weight_of}

-- the objects in the order in which they were made, and the bytes that they may count together
pub record ManagedHeap : Type 0 where
  pub objects : List StoredObject
  pub limit : ℕ

-- the bytes that an object counts: none where the host itself made it for its own use
abbrev pub counted : StoredObject → ℕ
counted object = if object.counts then weight_of object.body else 0

-- the bytes that all objects count
abbrev pub used : ManagedHeap → ℕ
used heap = sum_by counted heap.objects

-- no object
abbrev pub empty : ℕ → ManagedHeap
empty limit = record { objects = []; limit = limit }

-- the object is one of them
abbrev pub IsMade : ManagedHeap → ObjId → Type 0
IsMade heap o = o.0 < length heap.objects

abbrev pub object_at : ManagedHeap → ObjId → Option StoredObject
object_at heap o = slice_get heap.objects o.0

abbrev pub body_at : ManagedHeap → ObjId → Option Body0
body_at heap o = option_map (λ object. object.body) (object_at heap o)

abbrev pub hidden_at : ManagedHeap → ObjId → Option Hidden
hidden_at heap o = option_map (λ object. object.hidden) (object_at heap o)

abbrev pub set_at : List StoredObject → ℕ → Option StoredObject → List StoredObject
set_at objects at (Some object) = slice_set objects at object
set_at objects at None = objects

-- with one object changed, and all others as they are
abbrev pub changed : ManagedHeap → ObjId → (StoredObject → StoredObject) → ManagedHeap
changed heap o change =
    record heap { objects = set_at heap.objects o.0 (option_map change (object_at heap o)) }

abbrev pub with_hidden : Hidden → StoredObject → StoredObject
with_hidden hidden object = record object { hidden = hidden }

abbrev pub with_body : (Body0 → Body0) → StoredObject → StoredObject
with_body change object = record object { body = change object.body }

-- the bytes of an array's elements
abbrev pub body_size : ℕ → ℕ → ℕ
body_size width len = width * len

-- what holds of each object: an array that is kept as bytes has just the bytes of its elements, unless
-- they are away, and no values; any other array has as many values as elements; and a builder has
-- room for its text. Nothing else is ever away.
abbrev pub IsArray : Bool → ℕ → ℕ → ℕ → ℕ → Type 0
IsArray false zero len bytes elements = (bytes ≡ 0) × (elements ≡ len)
IsArray false width len bytes elements = (bytes ≡ body_size width len) × (elements ≡ 0)
IsArray true zero len bytes elements = ⊥
IsArray true width len bytes elements = (bytes ≡ 0) × (elements ≡ 0)

abbrev pub HasParts : Bool → Body0 → Type 0
HasParts away (bodies.Array elem width len bytes elements) =
    IsArray away width len (length bytes) (length elements)
HasParts away (bodies.Builder units capacity) = (away ≡ false) × (length units ≤ capacity)
HasParts away _ = away ≡ false

abbrev pub IsWhole : StoredObject → Type 0
IsWhole object = HasParts object.away object.body

-- what holds of the heap at all times
pub record IsSound (heap : ManagedHeap) : Type 0 where
  pub room : used heap ≤ heap.limit
  pub whole : All IsWhole heap.objects
  pub limit : heap.limit < 2 ^ 64 - 1

-- a heap that keeps count of its bytes
pub record IsKept (heap : ManagedHeap) (bytes : ℕ) : Type 0 where
  pub sound : IsSound heap
  pub count : bytes ≡ used heap
