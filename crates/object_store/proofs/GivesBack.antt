-- Bytes that an array gets back are where they were.
use Rattle.std.proofs.Common.{◌≡◌, ℕ, zero, suc, ◌*◌, ◌<◌, Bool, true, false, not, ◌&&◌, List, length, refl, ap, sym, ◌∙◌, arith, length-set, eq-eqb}
use Rattle.std.specs.Prelude.{Option, Some, None, slice_get, slice_set, slice_index_or, ◌==◌, if◌then◌else◌, option_map, option_and_then}
use Rattle.std.proofs.lemmas.Option.{slice_get_read, slice_get_within, get_or_from_slice_get}
use Rattle.std.proofs.lemmas.List.{set-set, set-get_or, get_or-set_same}
use Rattle.std.proofs.lemmas.List.Elements.{All-get_or}
use Rattle.managed_value.specs.declared.names.ObjId.{ObjId}
use Rattle.object_store.specs.declared.body.Body0.{Body0}
use Rattle.object_store.specs.declared.body.Body0.TheVariants as bodies
use Rattle.object_store.specs.declared.hidden.Hidden.{Hidden}
use Rattle.object_store.specs.declared.object.StoredObject.{StoredObject}
use Rattle.object_store.specs.Heap.{ManagedHeap, HasParts, IsWhole, IsSound, changed}
use Rattle.object_store.specs.Lending.{array_bytes, home_bytes, emptied, refilled, waits_for, refill, bytes_at, sent_away, given}
use Rattle.object_store.proofs.Kept.{changed_found}

-- what is taken of an object and given back
pub record ComesBack (object : StoredObject) (bytes : List ℕ) : Type 0 where
  pub waits : waits_for (length bytes) (emptied object) ≡ true
  pub same : refilled bytes (emptied object) ≡ object

-- the other side of a choice was taken
other : {X : Type 0} (b : Bool) (x y : X) → (if b then None else Some x) ≡ Some y → (b ≡ false) × (x ≡ y)
other true x y e = absurd (cc)
other false x y e = (refl, cc)

and_not : (a b : Bool) → a ≡ false → b ≡ true → (not a && b) ≡ true
and_not true b e h = absurd (cc)
and_not false b e h = h

comes_back_by : (away : Bool) (body : Body0) (hidden : Hidden) (counts : Bool) (bytes : List ℕ) → (if away then None else array_bytes body) ≡ Some bytes → HasParts away body
    → ComesBack (record { body = body; hidden = hidden; counts = counts; away = away }) bytes
comes_back_by true body hidden counts bytes e h = absurd (cc)
comes_back_by false (bodies.Array elem zero len old elements) hidden counts bytes e h = absurd (cc)
comes_back_by false (bodies.Array elem (suc w) len old elements) hidden counts bytes e h =
    let here : old ≡ bytes = (other (suc w == 0) old bytes e).1 in
    record {
      waits =
          and_not (suc w == 0) (suc w * len == length bytes) (other (suc w == 0) old bytes e).0
          (eq-eqb (suc w * len) (length bytes) (sym h.0 ∙ ap length here));
      same = ap (λ (bytes : List ℕ). record { body = bodies.Array elem (suc w) len bytes elements; hidden = hidden; counts = counts; away = false }) (sym here);
    }
comes_back_by false (bodies.Object t fields) hidden counts bytes e h = absurd (cc)
comes_back_by false (bodies.Text units) hidden counts bytes e h = absurd (cc)
comes_back_by false (bodies.Delegate t target method) hidden counts bytes e h = absurd (cc)
comes_back_by false (bodies.Box t old) hidden counts bytes e h = absurd (cc)
comes_back_by false (bodies.Native t addr) hidden counts bytes e h = absurd (cc)
comes_back_by false (bodies.Builder units capacity) hidden counts bytes e h = absurd (cc)

comes_back : (object : StoredObject) (bytes : List ℕ) → home_bytes object ≡ Some bytes → IsWhole object → ComesBack object bytes
comes_back object bytes e h = comes_back_by object.away object.body object.hidden object.counts bytes e h

-- the same in a heap
restored : (heap : ManagedHeap) (o : ObjId) (object : StoredObject) (bytes : List ℕ) → slice_get heap.objects o.0 ≡ Some object → ComesBack object bytes
    → given (sent_away heap o) o bytes ≡ Some heap
restored heap o object bytes there back =
    let within : o.0 < length heap.objects = slice_get_within heap.objects o.0 object there in
    let read : slice_index_or heap.objects o.0 object ≡ object = get_or_from_slice_get heap.objects o.0 object object there in
    let sent : sent_away heap o ≡ record heap { objects = slice_set heap.objects o.0 (emptied object) } = changed_found heap o emptied object within (sym read) in
    let gone = slice_set heap.objects o.0 (emptied object) in
    let again : slice_index_or gone o.0 (emptied object) ≡ emptied object = get_or-set_same heap.objects o.0 (emptied object) (emptied object) within in
    let stays : length gone ≡ length heap.objects = length-set heap.objects o.0 (emptied object) in
    let within_gone : o.0 < length gone = omega (arith, stays, within) in
    let left : slice_get gone o.0 ≡ Some (emptied object) = slice_get_read gone (length gone) o.0 (emptied object) refl within_gone (sym again) in
    let without : ManagedHeap = record heap { objects = gone } in
    let home : slice_set gone o.0 (refilled bytes (emptied object)) ≡ heap.objects =
    set-set heap.objects o.0 (emptied object) (refilled bytes (emptied object)) ∙ ap (slice_set heap.objects o.0) (back.same ∙ sym read) ∙ set-get_or heap.objects o.0 object in
    ap (λ (h : ManagedHeap). given h o bytes) sent
    ∙ ap (λ (found : Option StoredObject). option_map (λ (_ : StoredObject). changed without o (refilled bytes)) (option_and_then (refill bytes) found)) left
    ∙ ap (λ (b : Bool). option_map (λ (_ : StoredObject). changed without o (refilled bytes)) (if b then Some (refilled bytes (emptied object)) else None)) back.waits
    ∙ ap Some (changed_found without o (refilled bytes) (emptied object) within_gone (sym again))
    ∙ ap (λ (objects : List StoredObject). Some (record heap { objects = objects })) home

restored_by : (heap : ManagedHeap) (o : ObjId) (bytes : List ℕ) (found : Option StoredObject) → slice_get heap.objects o.0 ≡ found → IsSound heap
    → option_and_then home_bytes found ≡ Some bytes → given (sent_away heap o) o bytes ≡ Some heap
restored_by heap o bytes (Some object) there sound e =
    let within : o.0 < length heap.objects = slice_get_within heap.objects o.0 object there in
    let whole : IsWhole object = rw (get_or_from_slice_get heap.objects o.0 object object there) at (All-get_or IsWhole heap.objects o.0 object within sound.whole) in
    restored heap o object bytes there (comes_back object bytes e whole)
restored_by heap o bytes None there sound e = absurd (cc)

pub gives_back : (heap : ManagedHeap) (o : ObjId) (bytes : List ℕ) → IsSound heap → bytes_at heap o ≡ Some bytes → given (sent_away heap o) o bytes ≡ Some heap
gives_back heap o bytes sound e = restored_by heap o bytes (slice_get heap.objects o.0) refl sound e
