-- A value of the kind of another counts as many bytes, and objects keep their parts.
use Rattle.std.proofs.Common.{◌≡◌, ℕ, ◌+◌, ◌<◌, Bool, List, length, refl, ap, sym, ◌∙◌, arith}
use Rattle.std.specs.Prelude.{Option, Some, None, slice_get, slice_set, slice_index_or, sum_by, IsSomeAnd}
use Rattle.std.proofs.lemmas.Option.{slice_get_within, get_or_from_slice_get}
use Rattle.std.proofs.lemmas.List.Sums.{sum_by-set}
use Rattle.managed_value.specs.declared.value.Value.{Value, out-Value}
use Rattle.managed_value.specs.declared.value.Value.TheOpen.{Value-F}
use Rattle.managed_value.specs.declared.kind.Kind.{Kind}
use Rattle.managed_value.specs.declared.kind.Kind.TheVariants as kinds
use Rattle.managed_value.specs.Parts.{kind_in, kind_of}
use Rattle.object_store.specs.declared.body.Body0.{Body0}
use Rattle.object_store.specs.declared.body.Body0.TheVariants as bodies
use Rattle.object_store.specs.Weights.{size_in, size_of, weight_of}
use Rattle.object_store.specs.Heap.{HasParts}
use Rattle.object_store.specs.Elements.{HasField, with_field, HasBoxed, with_boxed}

-- what values of a kind count
size_of_kind : Kind → ℕ
size_of_kind (kinds.Bytes t n) = n
size_of_kind _ = 8

size_in-kind : (v : Value-F Value) → size_in v ≡ size_of_kind (kind_in v)
unfolding size_of_kind
size_in-kind (Value-F.I32 n) = refl
size_in-kind (Value-F.I64 n) = refl
size_in-kind (Value-F.N n) = refl
size_in-kind Value-F.Null = refl
size_in-kind (Value-F.Ref o) = refl
size_in-kind (Value-F.Code m) = refl
size_in-kind (Value-F.At p) = refl
size_in-kind (Value-F.Flat t bytes) = refl
size_in-kind (Value-F.Fields t parts) = refl

pub same_size : (a b : Value) → kind_of a ≡ kind_of b → size_of a ≡ size_of b
same_size a b e = size_in-kind (out-Value a) ∙ ap size_of_kind e ∙ sym (size_in-kind (out-Value b))

sum_same : (values : List Value) (k : ℕ) (v : Value) (found : Option Value) → slice_get values k ≡ found
    → IsSomeAnd found (λ old. kind_of old ≡ kind_of v) → sum_by size_of (slice_set values k v) ≡ sum_by size_of values
sum_same values k v (Some old) there same =
    let within : k < length values = slice_get_within values k old there in
    let sum = sum_by-set size_of values k v old within in
    let read : size_of (slice_index_or values k old) ≡ size_of old = ap size_of (get_or_from_slice_get values k old old there) in
    omega (arith, sum, read, same_size old v same)
sum_same values k v None there same = absurd same

-- a field gives way to one that counts as much
pub field_weight : (body : Body0) (k : ℕ) (v : Value) → HasField body k v → weight_of (with_field body k v) ≡ weight_of body
field_weight (bodies.Object t fields) k v has = ap (λ n. n + 16) (sum_same fields k v (slice_get fields k) refl has)
field_weight (bodies.Text units) k v has = refl
field_weight (bodies.Array elem width len bytes elements) k v has = refl
field_weight (bodies.Delegate t target method) k v has = refl
field_weight (bodies.Box t old) k v has = refl
field_weight (bodies.Native t addr) k v has = refl
field_weight (bodies.Builder units capacity) k v has = refl

pub field_parts : (away : Bool) (body : Body0) (k : ℕ) (v : Value) → HasParts away body → HasParts away (with_field body k v)
field_parts away (bodies.Object t fields) k v has = has
field_parts away (bodies.Text units) k v has = has
field_parts away (bodies.Array elem width len bytes elements) k v has = has
field_parts away (bodies.Delegate t target method) k v has = has
field_parts away (bodies.Box t old) k v has = has
field_parts away (bodies.Native t addr) k v has = has
field_parts away (bodies.Builder units capacity) k v has = has

pub boxed_weight : (body : Body0) (v : Value) → HasBoxed body v → weight_of (with_boxed body v) ≡ weight_of body
boxed_weight (bodies.Object t fields) v has = refl
boxed_weight (bodies.Text units) v has = refl
boxed_weight (bodies.Array elem width len bytes elements) v has = refl
boxed_weight (bodies.Delegate t target method) v has = refl
boxed_weight (bodies.Box t old) v has = ap (λ n. n + 16) (sym (same_size old v has))
boxed_weight (bodies.Native t addr) v has = refl
boxed_weight (bodies.Builder units capacity) v has = refl

pub boxed_parts : (away : Bool) (body : Body0) (v : Value) → HasParts away body → HasParts away (with_boxed body v)
boxed_parts away (bodies.Object t fields) v has = has
boxed_parts away (bodies.Text units) v has = has
boxed_parts away (bodies.Array elem width len bytes elements) v has = has
boxed_parts away (bodies.Delegate t target method) v has = has
boxed_parts away (bodies.Box t old) v has = has
boxed_parts away (bodies.Native t addr) v has = has
boxed_parts away (bodies.Builder units capacity) v has = has
