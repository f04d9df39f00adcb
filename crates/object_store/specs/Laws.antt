-- What holds of the heap as objects are made and changed.
use Rattle.std.specs.Prelude.{◌≡◌, ◌≢◌, ℕ, List, Some}
use Rattle.managed_value.specs.declared.names.ObjId.{ObjId}
use Rattle.object_store.specs.declared.body.Body0.{Body0}
use Rattle.object_store.specs.declared.hidden.Hidden.{Hidden}
use Rattle.object_store.specs.declared.object.StoredObject.{StoredObject}
use Rattle.object_store.specs.Heap.{ManagedHeap, used, object_at, changed, IsMade, IsSound}
use Rattle.object_store.specs.Making.{with_new, uncounted}
use Rattle.object_store.specs.Lending.{bytes_at, sent_away, given}

-- bytes that an array gets back are where they were, and so is all else
abbrev pub GivesBack : Type 0
GivesBack = (heap : ManagedHeap) (o : ObjId) (bytes : List ℕ) → IsSound heap → bytes_at heap o ≡ Some bytes → given (sent_away heap o) o bytes ≡ Some heap

-- a new object leaves all others as they are
abbrev pub NewLeavesOthers : Type 0
NewLeavesOthers = (heap : ManagedHeap) (object : StoredObject) (o : ObjId) → IsMade heap o → object_at (with_new heap object) o ≡ object_at heap o

-- a change of one object leaves all others as they are
abbrev pub ChangeLeavesOthers : Type 0
ChangeLeavesOthers = (heap : ManagedHeap) (o other : ObjId) (change : StoredObject → StoredObject) → other.0 ≢ o.0 → object_at (changed heap o change) other ≡ object_at heap other

-- an object that the host itself makes counts nothing
abbrev pub HiddenCountsNothing : Type 0
HiddenCountsNothing = (heap : ManagedHeap) (body : Body0) (hidden : Hidden) → used (with_new heap (uncounted body hidden)) ≡ used heap
