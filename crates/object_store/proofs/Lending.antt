-- Bytes that leave an array and come back.
use Rattle.std.proofs.Common.{◌≡◌, ℕ, zero, suc, Bool, true, false, ◌&&◌, List, [], length, refl, arith}
use Rattle.std.specs.Prelude.{Some, None, if◌then◌else◌}
use Rattle.object_store.specs.declared.body.Body0.{Body0}
use Rattle.object_store.specs.declared.body.Body0.TheVariants as bodies
use Rattle.object_store.specs.declared.object.StoredObject.{StoredObject}
use Rattle.object_store.specs.Weights.{weight_of}
use Rattle.object_store.specs.Heap.{HasParts, IsWhole}
use Rattle.object_store.specs.Lending.{array_bytes, home_bytes, with_bytes_of, emptied, refilled, has_size, waits_for}

pub bytes_weight : (bytes : List ℕ) (body : Body0) → weight_of (with_bytes_of bytes body) ≡ weight_of body
bytes_weight bytes (bodies.Object t fields) = refl
bytes_weight bytes (bodies.Text units) = refl
bytes_weight bytes (bodies.Array elem width len old elements) = refl
bytes_weight bytes (bodies.Delegate t target method) = refl
bytes_weight bytes (bodies.Box t old) = refl
bytes_weight bytes (bodies.Native t addr) = refl
bytes_weight bytes (bodies.Builder units capacity) = refl

emptied_by : (away : Bool) (body : Body0) (bytes : List ℕ) → (if away then None else array_bytes body) ≡ Some bytes → HasParts away body → HasParts true (with_bytes_of [] body)
emptied_by true body bytes e h = absurd (cc)
emptied_by false (bodies.Array elem zero len old elements) bytes e h = absurd (cc)
emptied_by false (bodies.Array elem (suc w) len old elements) bytes e h = (refl, h.1)
emptied_by false (bodies.Object t fields) bytes e h = absurd (cc)
emptied_by false (bodies.Text units) bytes e h = absurd (cc)
emptied_by false (bodies.Delegate t target method) bytes e h = absurd (cc)
emptied_by false (bodies.Box t old) bytes e h = absurd (cc)
emptied_by false (bodies.Native t addr) bytes e h = absurd (cc)
emptied_by false (bodies.Builder units capacity) bytes e h = absurd (cc)

pub emptied_whole : (object : StoredObject) (bytes : List ℕ) → home_bytes object ≡ Some bytes → IsWhole object → IsWhole (emptied object)
emptied_whole object bytes e h = emptied_by object.away object.body bytes e h

refilled_by : (away : Bool) (body : Body0) (bytes : List ℕ) → (away && has_size (length bytes) body) ≡ true → HasParts away body → HasParts false (with_bytes_of bytes body)
refilled_by false body bytes e h = absurd (cc)
refilled_by true (bodies.Array elem zero len old elements) bytes e h = absurd h
refilled_by true (bodies.Array elem (suc w) len old elements) bytes e h = (grind (arith, e), h.1)
refilled_by true (bodies.Object t fields) bytes e h = absurd (cc)
refilled_by true (bodies.Text units) bytes e h = absurd (cc)
refilled_by true (bodies.Delegate t target method) bytes e h = absurd (cc)
refilled_by true (bodies.Box t old) bytes e h = absurd (cc)
refilled_by true (bodies.Native t addr) bytes e h = absurd (cc)
refilled_by true (bodies.Builder units capacity) bytes e h = absurd (cc)

pub refilled_whole : (object : StoredObject) (bytes : List ℕ) → waits_for (length bytes) object ≡ true → IsWhole object → IsWhole (refilled bytes object)
refilled_whole object bytes e h = refilled_by object.away object.body bytes e h
