-- What is put at a path is there, and nothing else has changed.
use Rattle.std.proofs.Common.{◌≡◌, ◌≢◌, ℕ, zero, suc, ◌+◌, ◌<◌, ◌≤◌, ◌⊎◌, Bool, true, false, List, [], ◌∷◌, length, Option, Some, None, refl, sym, ap, ◌∙◌, inl, inr, arith, rules}
use Rattle.std.specs.Prelude.{nat_le, slice_get, slice_set, slice_range, option_and_then}
use Rattle.std.proofs.lemmas.Bool.{leb-true, le-leb, lt-leb, cases_lt}
use Rattle.std.proofs.lemmas.List.{places, same_lists}
use Rattle.managed_value.specs.declared.names.TypeId.{TypeId}
use Rattle.managed_value.specs.declared.place.PathStep.{PathStep}
use Rattle.managed_value.specs.declared.place.PathStep.TheVariants.{Field, Range}
use Rattle.managed_value.specs.declared.value.Value
use Rattle.managed_value.specs.declared.value.Value.{Value, out-Value, roll-Value}
use Rattle.managed_value.specs.declared.value.Value.TheOpen.{Value-F}
use Rattle.managed_value.specs.declared.value.Value.TheViews.{roll-out-Value, out-roll-Value}
use Rattle.managed_value.specs.declared.value.Value.TheVariants.{rolls-Fields}
use Rattle.managed_value.specs.Parts.{bytes_in, flat_of, part_at, with_bytes, put, Fits, start_of, flat_bytes}
use Rattle.managed_value.specs.Laws.{PutIsThere, KindsStay, OthersStay, NoSuchField}
use Rattle.managed_value.proofs.Ranges.{bytes_put, InBytes, length-slice_range}

-- lists

same_field : (parts : List Value) (k : ℕ) (old new : Value) → slice_get parts k ≡ Some old → slice_get (slice_set parts k new) k ≡ Some new
same_field [] k old new e = absurd (cc)
same_field (x ∷ xs) zero old new e = refl
same_field (x ∷ xs) (suc k) old new e = same_field xs k old new e

other_field : (parts : List Value) (j k : ℕ) (new : Value) → j ≢ k → slice_get (slice_set parts j new) k ≡ slice_get parts k
other_field [] j k new apart = refl
other_field (x ∷ xs) zero zero new apart = absurd (apart refl)
other_field (x ∷ xs) zero (suc k) new apart = refl
other_field (x ∷ xs) (suc j) zero new apart = refl
other_field (x ∷ xs) (suc j) (suc k) new apart = other_field xs j k new (λ e. apart (ap suc e))

past_fields : (parts : List Value) (k : ℕ) → length parts ≤ k → slice_get parts k ≡ None
past_fields [] k h = refl
past_fields (x ∷ xs) zero h = absurd (omega arith)
past_fields (x ∷ xs) (suc k) h = past_fields xs k (omega arith)

same_range : (bytes new : List ℕ) (at n : ℕ) → at + n ≤ length bytes → length new ≡ n → slice_range (with_bytes bytes at new) at (at + n) ≡ new
same_range bytes new at n h e = same_lists _ _ (search (rules, places)) (λ i d l. grind (arith, places))

other_range : (bytes new : List ℕ) (a m b n : ℕ) → a + m ≤ length bytes → length new ≡ m → b + n ≤ length bytes → ((a + m ≤ b) ⊎ (b + n ≤ a)) → slice_range (with_bytes bytes a new) b (b + n) ≡ slice_range bytes b (b + n)
other_range bytes new a m b n h e k (inl before) = same_lists _ _ (search (rules, places)) (λ i d l. grind (arith, places))
other_range bytes new a m b n h e k (inr after) = same_lists _ _ (search (rules, places)) (λ i d l. grind (arith, places))

length_with : (bytes new : List ℕ) (at : ℕ) → at + length new ≤ length bytes → length (with_bytes bytes at new) ≡ length bytes
length_with bytes new at h = search (rules, places)

-- a value is its layer
flat_is : (v : Value) (t : TypeId) (bytes : List ℕ) → out-Value v ≡ Value-F.Flat t bytes → v ≡ Value.Flat t bytes
unfolding roll-Value denote.Hole.Carrier.roll
flat_is v t bytes e = sym (roll-out-Value v) ∙ ap roll-Value e

out_fields : (t : TypeId) (parts : List Value) → out-Value (Value.Fields t parts) ≡ Value-F.Fields t parts
out_fields t parts = ap out-Value (sym (rolls-Fields t parts)) ∙ out-roll-Value (Value-F.Fields t parts)

out_flat : (t : TypeId) (bytes : List ℕ) → out-Value (Value.Flat t bytes) ≡ Value-F.Flat t bytes
unfolding out-Value denote.Hole.Carrier.out
out_flat t bytes = refl

-- what stands at a path that begins with a field, or with a range
part_field : (v : Value) (t : TypeId) (parts : List Value) (k : ℕ) (path : List PathStep) → out-Value v ≡ Value-F.Fields t parts → part_at v (Field k ∷ path) ≡ option_and_then (λ w. part_at w path) (slice_get parts k)
part_field v t parts k path is = rw is refl

part_range : (v : Value) (t : TypeId) (bytes : List ℕ) (at n : ℕ) (path : List PathStep) → out-Value v ≡ Value-F.Flat t bytes → part_at v (Range at n ∷ path) ≡ option_and_then (λ w. part_at w path) (flat_of t (bytes_in bytes at n))
part_range v t bytes at n path is = rw is refl

there_bytes : (bytes : List ℕ) (at n : ℕ) → at + n ≤ length bytes → bytes_in bytes at n ≡ Some (slice_range bytes at (at + n))
there_bytes bytes at n h = rw (le-leb (at + n) (length bytes) h) refl

past_bytes : (bytes : List ℕ) (at n : ℕ) → length bytes < at + n → bytes_in bytes at n ≡ None
past_bytes bytes at n h = rw (lt-leb (at + n) (length bytes) h) refl

pub no_such_field : NoSuchField
no_such_field t parts k path h =
    part_field (Value.Fields t parts) t parts k path (out_fields t parts) ∙ rw (past_fields parts k h) refl

-- what is put at a field
record FieldPut (v new : Value) (k : ℕ) (path : List PathStep) : Type 0 where
  t : TypeId
  parts : List Value
  old : Value
  is : out-Value v ≡ Value-F.Fields t parts
  there : slice_get parts k ≡ Some old
  fits : Fits old path new
  after_is : put v (Field k ∷ path) new ≡ Value.Fields t (slice_set parts k (put old path new))

field_put_at : (v new : Value) (k : ℕ) (path : List PathStep) (t : TypeId) (parts : List Value) (o : Option Value) → out-Value v ≡ Value-F.Fields t parts → slice_get parts k ≡ o → Fits v (Field k ∷ path) new → FieldPut v new k path
field_put_at v new k path t parts (Some old) is there h =
    record {
      t = t;
      parts = parts;
      old = old;
      is = is;
      there = there;
      fits = rw (is, there) at h;
      after_is = rw (is, there, is) refl;
    }
field_put_at v new k path t parts None is there h = absurd (rw (is, there) at h)

field_put_by : (v new : Value) (k : ℕ) (path : List PathStep) (x : Value-F Value) → out-Value v ≡ x → Fits v (Field k ∷ path) new → FieldPut v new k path
field_put_by v new k path (Value-F.Fields t parts) is h = field_put_at v new k path t parts _ is refl h
field_put_by v new k path (Value-F.Flat t bytes) is h = absurd (rw is at h)
field_put_by v new k path (Value-F.I32 n) is h = absurd (rw is at h)
field_put_by v new k path (Value-F.I64 n) is h = absurd (rw is at h)
field_put_by v new k path (Value-F.N n) is h = absurd (rw is at h)
field_put_by v new k path Value-F.Null is h = absurd (rw is at h)
field_put_by v new k path (Value-F.Ref o) is h = absurd (rw is at h)
field_put_by v new k path (Value-F.Code m) is h = absurd (rw is at h)
field_put_by v new k path (Value-F.At p) is h = absurd (rw is at h)

field_put : (v new : Value) (k : ℕ) (path : List PathStep) → Fits v (Field k ∷ path) new → FieldPut v new k path
field_put v new k path h = field_put_by v new k path _ refl h

-- what is put at a range
record BytesPut (v new : Value) (at n : ℕ) (path : List PathStep) : Type 0 where
  t : TypeId
  bytes : List ℕ
  with_ : List ℕ
  is : out-Value v ≡ Value-F.Flat t bytes
  there : at + n ≤ length bytes
  fits : Fits (Value.Flat t (slice_range bytes at (at + n))) path new
  size : length with_ ≡ n
  inner_is : put (Value.Flat t (slice_range bytes at (at + n))) path new ≡ Value.Flat t with_
  after_is : put v (Range at n ∷ path) new ≡ Value.Flat t (with_bytes bytes at with_)

inner_size : (t : TypeId) (slice : List ℕ) (path : List PathStep) (after : Value) (b : List ℕ) (n : ℕ) → length slice ≡ n → InBytes t slice path after b → length (with_bytes slice (start_of path) b) ≡ n
inner_size t slice path after b n size i = length_with slice b (start_of path) i.fits ∙ size

range_put_at : (v new : Value) (at n : ℕ) (path : List PathStep) (t : TypeId) (bytes : List ℕ) (fit : Bool) → out-Value v ≡ Value-F.Flat t bytes → nat_le (at + n) (length bytes) ≡ fit → Fits v (Range at n ∷ path) new → BytesPut v new at n path
range_put_at v new at n path t bytes true is fit h =
    let there : at + n ≤ length bytes = leb-true _ _ fit in
    let fits : Fits (Value.Flat t (slice_range bytes at (at + n))) path new = rw (is, fit) at h in
    let i = bytes_put path t (slice_range bytes at (at + n)) new _ refl fits in
    let inner = flat_is _ t _ i.after_is in
    record {
      t = t;
      bytes = bytes;
      with_ = with_bytes (slice_range bytes at (at + n)) (start_of path) (flat_bytes (out-Value new));
      is = is;
      there = there;
      fits = fits;
      size = inner_size t _ path _ _ n (length-slice_range bytes at n there) i;
      inner_is = inner;
      after_is = rw (is, fit, i.after_is, is) refl;
    }
range_put_at v new at n path t bytes false is fit h = absurd (rw (is, fit) at h)

range_put_by : (v new : Value) (at n : ℕ) (path : List PathStep) (x : Value-F Value) → out-Value v ≡ x → Fits v (Range at n ∷ path) new → BytesPut v new at n path
range_put_by v new at n path (Value-F.Flat t bytes) is h = range_put_at v new at n path t bytes _ is refl h
range_put_by v new at n path (Value-F.Fields t parts) is h = absurd (rw is at h)
range_put_by v new at n path (Value-F.I32 m) is h = absurd (rw is at h)
range_put_by v new at n path (Value-F.I64 m) is h = absurd (rw is at h)
range_put_by v new at n path (Value-F.N m) is h = absurd (rw is at h)
range_put_by v new at n path Value-F.Null is h = absurd (rw is at h)
range_put_by v new at n path (Value-F.Ref o) is h = absurd (rw is at h)
range_put_by v new at n path (Value-F.Code m) is h = absurd (rw is at h)
range_put_by v new at n path (Value-F.At p) is h = absurd (rw is at h)

range_put : (v new : Value) (at n : ℕ) (path : List PathStep) → Fits v (Range at n ∷ path) new → BytesPut v new at n path
range_put v new at n path h = range_put_by v new at n path _ refl h

-- what is put is there

pub put_is_there : PutIsThere
put_is_there v new [] h = refl
put_is_there v new (Field k ∷ path) h =
    let f = field_put v new k path h in
    let l = slice_set f.parts k (put f.old path new) in
    rw f.after_is (part_field (Value.Fields f.t l) f.t l k path (out_fields f.t l)
    ∙ rw (same_field f.parts k f.old (put f.old path new) f.there) (put_is_there f.old new path f.fits))
put_is_there v new (Range at n ∷ path) h =
    let r = range_put v new at n path h in
    let b = with_bytes r.bytes at r.with_ in
    let room : at + length r.with_ ≤ length r.bytes = omega (arith, r.there, r.size) in
    let whole : at + n ≤ length b = omega (arith, r.there, length_with r.bytes r.with_ at room) in
    rw r.after_is (part_range (Value.Flat r.t b) r.t b at n path (out_flat r.t b)
    ∙ rw (there_bytes b at n whole, same_range r.bytes r.with_ at n r.there r.size, ← r.inner_is) (put_is_there (Value.Flat r.t (slice_range r.bytes at (at + n))) new path r.fits))

-- kinds stay

pub kinds_stay : KindsStay
kinds_stay v new [] h = sym h
kinds_stay v new (Field k ∷ path) h =
    let f = field_put v new k path h in
    let l = slice_set f.parts k (put f.old path new) in
    rw (f.after_is, out_fields f.t l, f.is) refl
kinds_stay v new (Range at n ∷ path) h =
    let r = range_put v new at n path h in
    let room : at + length r.with_ ≤ length r.bytes = omega (arith, r.there, r.size) in
    rw (r.after_is, out_flat r.t (with_bytes r.bytes at r.with_), r.is, length_with r.bytes r.with_ at room) refl

-- others stay

elsewhere : (bytes new : List ℕ) (a m b n : ℕ) → a + m ≤ length bytes → length new ≡ m → ((a + m ≤ b) ⊎ (b + n ≤ a)) → ((b + n ≤ length bytes) ⊎ (length bytes < b + n)) → bytes_in (with_bytes bytes a new) b n ≡ bytes_in bytes b n
elsewhere bytes new a m b n h e apart (inl within) =
    let room : a + length new ≤ length bytes = omega (arith, e) in
    let size : length (with_bytes bytes a new) ≡ length bytes = length_with bytes new a room in
    there_bytes (with_bytes bytes a new) b n (omega (arith, size)) ∙ ap (λ (l : List ℕ). Some l) (other_range bytes new a m b n h e within apart) ∙ sym (there_bytes bytes b n within)
elsewhere bytes new a m b n h e apart (inr past) =
    let room : a + length new ≤ length bytes = omega (arith, e) in
    let size : length (with_bytes bytes a new) ≡ length bytes = length_with bytes new a room in
    past_bytes (with_bytes bytes a new) b n (omega (arith, size)) ∙ sym (past_bytes bytes b n past)

within_or_past : (m n : ℕ) → (m ≤ n) ⊎ (n < m)
within_or_past m n = elim (cases_lt n m) [ inl past ↦ inr past | inr within ↦ inl within ]

chosen : (o : Option Value) (w : Value) (other : List PathStep) → o ≡ Some w → option_and_then (λ w. part_at w other) o ≡ part_at w other
chosen o w other e = rw e refl

pub others_stay : OthersStay
others_stay v new [] other apart h = absurd apart
others_stay v new (Field j ∷ path) [] apart h = absurd apart
others_stay v new (Range a m ∷ path) [] apart h = absurd apart
others_stay v new (Field j ∷ path) (Range b n ∷ other) apart h = absurd apart
others_stay v new (Range a m ∷ path) (Field k ∷ other) apart h = absurd apart
others_stay v new (Field j ∷ path) (Field k ∷ other) (inl apart) h =
    let f = field_put v new j path h in
    let l = slice_set f.parts j (put f.old path new) in
    let same : slice_get l k ≡ slice_get f.parts k = other_field f.parts j k (put f.old path new) apart in
    rw f.after_is (part_field (Value.Fields f.t l) f.t l k other (out_fields f.t l)
    ∙ (ap (option_and_then (λ w. part_at w other)) same ∙ sym (part_field v f.t f.parts k other f.is)))
others_stay v new (Field j ∷ path) (Field k ∷ other) (inr same) h =
    let f = field_put v new j path h in
    let w = put f.old path new in
    let l = slice_set f.parts j w in
    let after = part_field (Value.Fields f.t l) f.t l j other (out_fields f.t l) ∙ chosen _ w other (same_field f.parts j f.old w f.there) in
    let before = part_field v f.t f.parts j other f.is ∙ chosen _ f.old other f.there in
    rw (f.after_is, ← same.0) (after ∙ (others_stay f.old new path other same.1 f.fits ∙ sym before))
others_stay v new (Range a m ∷ path) (Range b n ∷ other) (inl apart) h =
    let r = range_put v new a m path h in
    let w = with_bytes r.bytes a r.with_ in
    let same = elsewhere r.bytes r.with_ a m b n r.there r.size apart (within_or_past (b + n) (length r.bytes)) in
    let there : option_and_then (λ w. part_at w other) (flat_of r.t (bytes_in w b n)) ≡ option_and_then (λ w. part_at w other) (flat_of r.t (bytes_in r.bytes b n)) =
    ap (λ (o : Option (List ℕ)). option_and_then (λ w. part_at w other) (flat_of r.t o)) same in
    rw r.after_is (part_range (Value.Flat r.t w) r.t w b n other (out_flat r.t w) ∙ (there ∙ sym (part_range v r.t r.bytes b n other r.is)))
others_stay v new (Range a m ∷ path) (Range b n ∷ other) (inr same) h =
    let r = range_put v new a m path h in
    let w = with_bytes r.bytes a r.with_ in
    let room : a + length r.with_ ≤ length r.bytes = omega (arith, r.there, r.size) in
    let whole : a + m ≤ length w = omega (arith, r.there, length_with r.bytes r.with_ a room) in
    let old = Value.Flat r.t (slice_range r.bytes a (a + m)) in
    let is : flat_of r.t (bytes_in w a m) ≡ Some (put old path new) =
    rw (there_bytes w a m whole, same_range r.bytes r.with_ a m r.there r.size, r.inner_is) refl in
    let was : flat_of r.t (bytes_in r.bytes a m) ≡ Some old = rw (there_bytes r.bytes a m r.there) refl in
    let after = part_range (Value.Flat r.t w) r.t w a m other (out_flat r.t w) ∙ chosen _ (put old path new) other is in
    let before = part_range v r.t r.bytes a m other r.is ∙ chosen _ old other was in
    rw (r.after_is, ← same.0, ← same.1) (after ∙ (others_stay old new path other same.2 r.fits ∙ sym before))
