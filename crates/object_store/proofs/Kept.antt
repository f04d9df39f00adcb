-- What is kept as objects are made and changed.
use Rattle.std.proofs.Common.{◌≡◌, ℕ, ◌+◌, ◌<◌, ◌≤◌, length, refl, ap, arith}
use Rattle.std.specs.Prelude.{Option, Some, slice_set, slice_index_or, option_map}
use Rattle.std.proofs.lemmas.Option.{slice_get_read}
use Rattle.std.proofs.lemmas.List.Sums.{sum_by_push, sum_by-set}
use Rattle.std.proofs.lemmas.List.Elements.{All-push, All-set, All-get_or}
use Rattle.managed_value.specs.declared.names.ObjId.{ObjId}
use Rattle.object_store.specs.declared.object.StoredObject.{StoredObject}
use Rattle.object_store.specs.Heap.{ManagedHeap, counted, used, object_at, changed, set_at, IsWhole, IsKept}
use Rattle.object_store.specs.Making.{with_new}

-- the object that is read at a place stands there
pub object_found : (heap : ManagedHeap) (o : ObjId) (object : StoredObject) → o.0 < length heap.objects
    → object ≡ slice_index_or heap.objects o.0 object → object_at heap o ≡ Some object
object_found heap o object made read = slice_get_read heap.objects (length heap.objects) o.0 object refl made read

pub changed_found : (heap : ManagedHeap) (o : ObjId) (change : StoredObject → StoredObject) (object : StoredObject) → o.0 < length heap.objects
    → object ≡ slice_index_or heap.objects o.0 object
    → changed heap o change ≡ record heap { objects = slice_set heap.objects o.0 (change object) }
changed_found heap o change object made read =
    ap (λ (found : Option StoredObject). record heap { objects = set_at heap.objects o.0 (option_map change found) })
    (object_found heap o object made read)

pub new_kept : (heap : ManagedHeap) (object : StoredObject) (count : ℕ) → IsKept heap count → used heap + counted object ≤ heap.limit
    → IsWhole object → IsKept (with_new heap object) (count + counted object)
new_kept heap object count kept room whole =
    let sum = sum_by_push counted heap.objects object in
    record {
      sound = record {
        room = omega (arith, sum);
        whole = All-push IsWhole heap.objects object kept.sound.whole whole;
        limit = kept.sound.limit;
      };
      count = omega (arith, sum, kept.count);
    }

pub set_kept : (heap : ManagedHeap) (at : ℕ) (old new : StoredObject) (count : ℕ) → IsKept heap count → at < length heap.objects
    → old ≡ slice_index_or heap.objects at old → counted new ≡ counted old → IsWhole new
    → IsKept (record heap { objects = slice_set heap.objects at new }) count
set_kept heap at old new count kept within read same whole =
    let sum = sum_by-set counted heap.objects at new old within in
    let there : counted old ≡ counted (slice_index_or heap.objects at old) = ap counted read in
    record {
      sound = record {
        room = omega (arith, sum, there, same, kept.sound.room);
        whole = All-set IsWhole heap.objects at new whole kept.sound.whole;
        limit = kept.sound.limit;
      };
      count = omega (arith, sum, there, same, kept.count);
    }

pub whole_at : (heap : ManagedHeap) (at : ℕ) (old : StoredObject) (count : ℕ) → IsKept heap count → at < length heap.objects
    → old ≡ slice_index_or heap.objects at old → IsWhole old
whole_at heap at old count kept within read = rw read (All-get_or IsWhole heap.objects at old within kept.sound.whole)
