-- An element gives way to one of as many bytes.
use Rattle.std.proofs.Common.{◌≡◌, ℕ, ◌+◌, ◌*◌, ◌≤◌, Bool, true, false, List, ◌++◌, length, take, drop, refl, ap, arith, min}
use Rattle.std.proofs.Common.{length-set, length-take, length-drop, length-append}
use Rattle.std.specs.Prelude.{Option, Some, None, slice_set, nat_le, ◌==◌, IsSome, if◌then◌else◌, MatchBool}
use Rattle.std.specs.Int.{w32, w64, to_le_bytes, cast_unsigned}
use Rattle.std.proofs.lemmas.Bool.{leb-true}
use Rattle.managed_value.specs.declared.value.Value.{Value, out-Value}
use Rattle.managed_value.specs.declared.value.Value.TheOpen.{Value-F}
use Rattle.managed_value.specs.declared.names.TypeId.{TypeId}
use Rattle.managed_value.specs.Parts.{bytes_in, with_bytes}
use Rattle.object_store.specs.declared.body.Body0.{Body0}
use Rattle.object_store.specs.declared.body.Body0.TheVariants as bodies
use Rattle.object_store.specs.Weights.{weight_of}
use Rattle.object_store.specs.Heap.{HasParts, IsArray}
use Rattle.object_store.specs.Elements.{TakesBytes, kept_in, kept_bytes, over, HasElement, with_element}

-- a choice that gives something was made
chosen : {X : Type 0} (b : Bool) (x y : X) → (if b then Some x else None) ≡ Some y → (b ≡ true) × (x ≡ y)
chosen true x y e = (refl, cc)
chosen false x y e = absurd (cc)

-- what a value leaves in an element has as many bytes as the element
pub length-kept : (width : ℕ) (v : Value-F Value) (new : List ℕ) → kept_in width v ≡ Some new → length new ≡ width
length-kept width (Value-F.I32 n) new e =
    let c = chosen (nat_le width 4) (take width (to_le_bytes w32 (cast_unsigned w32 n))) new e in
    let small : width ≤ 4 = leb-true width 4 c.0 in
    let size : length (take width (to_le_bytes w32 (cast_unsigned w32 n))) ≡ min width 4 = length-take width (to_le_bytes w32 (cast_unsigned w32 n)) in
    omega (arith, ap length c.1, size, small)
length-kept width (Value-F.I64 n) new e =
    let c = chosen (width == 8) (to_le_bytes w64 (cast_unsigned w64 n)) new e in
    grind (arith, c, ap length c.1)
length-kept width (Value-F.N n) new e =
    let c = chosen (width == 8) (to_le_bytes w64 (cast_unsigned w64 n)) new e in
    grind (arith, c, ap length c.1)
length-kept width (Value-F.Flat t bytes) new e =
    let c = chosen (length bytes == width) bytes new e in
    grind (arith, c, ap length c.1)
length-kept width Value-F.Null new e = absurd (cc)
length-kept width (Value-F.Ref o) new e = absurd (cc)
length-kept width (Value-F.Code m) new e = absurd (cc)
length-kept width (Value-F.At p) new e = absurd (cc)
length-kept width (Value-F.Fields t parts) new e = absurd (cc)

is_there : {X : Type 0} (b : Bool) (x : X) → IsSome (if b then Some x else None) → b ≡ true
is_there true x h = refl
is_there false x h = absurd (cc)

pub within_bytes : (bytes : List ℕ) (at n : ℕ) → IsSome (bytes_in bytes at n) → at + n ≤ length bytes
within_bytes bytes at n h = leb-true (at + n) (length bytes) (is_there (nat_le (at + n) (length bytes)) _ h)

length-with_bytes : (bytes : List ℕ) (at : ℕ) (new : List ℕ) → at + length new ≤ length bytes → length (with_bytes bytes at new) ≡ length bytes
length-with_bytes bytes at new h =
    omega (arith, length-append (take at bytes) (new ++ drop (at + length new) bytes), length-append new (drop (at + length new) bytes), length-take at bytes, length-drop (at + length new) bytes)

length-over_by : (bytes : List ℕ) (at width : ℕ) (kept : Option (List ℕ)) → at + width ≤ length bytes → ((new : List ℕ) → kept ≡ Some new → length new ≡ width)
    → length (over bytes at kept) ≡ length bytes
length-over_by bytes at width (Some new) there size = length-with_bytes bytes at new (omega (arith, size new refl))
length-over_by bytes at width None there size = refl

pub length-over : (bytes : List ℕ) (width k : ℕ) (v : Value) → TakesBytes bytes width k v → length (over bytes (k * width) (kept_bytes width v)) ≡ length bytes
length-over bytes width k v h =
    length-over_by bytes (k * width) width (kept_bytes width v) (within_bytes bytes (k * width) width h.0) (λ (new : List ℕ) (e : kept_bytes width v ≡ Some new). length-kept width (out-Value v) new e)

array_weight : (b : Bool) (x y : Body0) → weight_of x ≡ weight_of y → weight_of (if b then x else y) ≡ weight_of y
array_weight true x y e = e
array_weight false x y e = refl

pub element_weight : (body : Body0) (k : ℕ) (v : Value) → weight_of (with_element body k v) ≡ weight_of body
element_weight (bodies.Object t fields) k v = refl
element_weight (bodies.Text units) k v = refl
element_weight (bodies.Array elem width len bytes elements) k v =
    array_weight (width == 0) (bodies.Array elem width len bytes (slice_set elements k v)) (bodies.Array elem width len (over bytes (k * width) (kept_bytes width v)) elements) refl
element_weight (bodies.Delegate t target method) k v = refl
element_weight (bodies.Box t old) k v = refl
element_weight (bodies.Native t addr) k v = refl
element_weight (bodies.Builder units capacity) k v = refl

array_parts : (away b : Bool) (elem : TypeId) (width len k : ℕ) (bytes : List ℕ) (elements : List Value) (v : Value)
    → IsArray away width len (length bytes) (length elements) → ((b ≡ false) → TakesBytes bytes width k v)
    → HasParts away (if b then bodies.Array elem width len bytes (slice_set elements k v) else bodies.Array elem width len (over bytes (k * width) (kept_bytes width v)) elements)
array_parts away true elem width len k bytes elements v has takes = rw length-set has
array_parts away false elem width len k bytes elements v has takes = rw (length-over bytes width k v (takes refl)) has

takes_by : (b : Bool) (P Q : Type 0) → MatchBool b P Q → b ≡ false → Q
takes_by true P Q h e = absurd (cc)
takes_by false P Q h e = h

pub element_parts : (away : Bool) (body : Body0) (k : ℕ) (v : Value) → HasElement body k v → HasParts away body → HasParts away (with_element body k v)
element_parts away (bodies.Object t fields) k v has whole = whole
element_parts away (bodies.Text units) k v has whole = whole
element_parts away (bodies.Array elem width len bytes elements) k v has whole =
    array_parts away (width == 0) elem width len k bytes elements v whole (takes_by (width == 0) _ (TakesBytes bytes width k v) has)
element_parts away (bodies.Delegate t target method) k v has whole = whole
element_parts away (bodies.Box t old) k v has whole = whole
element_parts away (bodies.Native t addr) k v has whole = whole
element_parts away (bodies.Builder units capacity) k v has whole = whole
