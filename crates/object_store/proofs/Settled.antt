-- A body that gives way to one that counts as much and has its parts.
use Rattle.std.proofs.Common.{◌≡◌, ℕ, ◌<◌, Bool, true, false, length, refl, ap}
use Rattle.std.specs.Prelude.{slice_set, slice_index_or, IsTrue, IsSomeAnd, ◌↔◌, if◌then◌else◌}
use Rattle.std.specs.Bool.{OnTrue, OnFalse}
use Rattle.managed_value.specs.declared.names.ObjId.{ObjId}
use Rattle.managed_value.specs.declared.value.Value.{Value}
use Rattle.object_store.specs.declared.body.Body0.{Body0}
use Rattle.object_store.specs.declared.object.StoredObject.{StoredObject}
use Rattle.object_store.specs.Weights.{weight_of}
use Rattle.object_store.specs.Heap.{ManagedHeap, HasParts, IsKept, body_at, changed, with_body}
use Rattle.object_store.specs.Elements.{HasField, with_field, HasElement, with_element, HasBoxed, with_boxed}
use Rattle.object_store.proofs.Kept.{set_kept, whole_at, object_found, changed_found}
use Rattle.object_store.proofs.Parts.{field_weight, field_parts, boxed_weight, boxed_parts}
use Rattle.object_store.proofs.ElementsKept.{element_weight, element_parts}

pub record Settles (body other : Body0) : Type 0 where
  pub weight : weight_of other ≡ weight_of body
  pub parts : (away : Bool) → HasParts away body → HasParts away other

pub field_settles : (b : Bool) (body other : Body0) (k : ℕ) (v : Value) → (IsTrue b ↔ HasField body k v) → OnTrue b (other ≡ with_field body k v) → OnFalse b (other ≡ body) → Settles body other
field_settles true body other k v has done left =
    record { weight = rw done (field_weight body k v (has.0 refl)); parts = λ away whole. rw done (field_parts away body k v whole) }
field_settles false body other k v has done left = record { weight = rw left refl; parts = λ away whole. rw left whole }

pub element_settles : (b : Bool) (body other : Body0) (k : ℕ) (v : Value) → (IsTrue b ↔ HasElement body k v) → OnTrue b (other ≡ with_element body k v) → OnFalse b (other ≡ body) → Settles body other
element_settles true body other k v has done left =
    record { weight = rw done (element_weight body k v); parts = λ away whole. rw done (element_parts away body k v (has.0 refl) whole) }
element_settles false body other k v has done left = record { weight = rw left refl; parts = λ away whole. rw left whole }

pub boxed_settles : (b : Bool) (body other : Body0) (v : Value) → (IsTrue b ↔ HasBoxed body v) → OnTrue b (other ≡ with_boxed body v) → OnFalse b (other ≡ body) → Settles body other
boxed_settles true body other v has done left =
    record { weight = rw done (boxed_weight body v (has.0 refl)); parts = λ away whole. rw done (boxed_parts away body v whole) }
boxed_settles false body other v has done left = record { weight = rw left refl; parts = λ away whole. rw left whole }

pub body_kept : (heap : ManagedHeap) (at : ℕ) (object : StoredObject) (other : Body0) (count : ℕ) → IsKept heap count → at < length heap.objects
    → object ≡ slice_index_or heap.objects at object → Settles object.body other
    → IsKept (record heap { objects = slice_set heap.objects at (record object { body = other }) }) count
body_kept heap at object other count kept within read settles =
    set_kept heap at object (record object { body = other }) count kept within read (ap (λ (n : ℕ). if object.counts then n else 0) settles.weight)
    (settles.parts object.away (whole_at heap at object count kept within read))

pub fits_there : (b : Bool) (heap : ManagedHeap) (o : ObjId) (object : StoredObject) (P : Body0 → Type 0) → o.0 < length heap.objects → object ≡ slice_index_or heap.objects o.0 object
    → (IsTrue b ↔ P object.body) → IsTrue b ↔ IsSomeAnd (body_at heap o) P
fits_there b heap o object P made read fits = rw (object_found heap o object made read) fits

pub done_there : (b : Bool) (heap : ManagedHeap) (o : ObjId) (object : StoredObject) (other : Body0) (change : Body0 → Body0) → o.0 < length heap.objects
    → object ≡ slice_index_or heap.objects o.0 object → OnTrue b (other ≡ change object.body)
    → OnTrue b (record heap { objects = slice_set heap.objects o.0 (record object { body = other }) } ≡ changed heap o (with_body change))
done_there true heap o object other change made read done = rw (changed_found heap o (with_body change) object made read, done) refl
done_there false heap o object other change made read done = done
