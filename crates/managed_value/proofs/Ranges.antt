-- Ranges within ranges are one range, and what is put there.
use Rattle.std.proofs.Common.{◌≡◌, ℕ, ◌+◌, ◌≤◌, Bool, true, false, List, [], ◌∷◌, length, drop, Option, Some, None, refl, ap, ◌∙◌, arith, rules}
use Rattle.std.specs.Prelude.{nat_le, slice_range, option_and_then, IsSomeAnd}
use Rattle.std.proofs.Math.ListN.{drop_of_length-le}
use Rattle.std.proofs.lemmas.Bool.{leb-true}
use Rattle.std.proofs.lemmas.List.{append-nil, places, same_lists}
use Rattle.managed_value.specs.declared.names.TypeId.{TypeId}
use Rattle.managed_value.specs.declared.place.PathStep.{PathStep}
use Rattle.managed_value.specs.declared.place.PathStep.TheVariants.{Field, Range}
use Rattle.managed_value.specs.declared.kind.Kind.TheVariants as kinds
use Rattle.managed_value.specs.declared.value.Value.{Value, out-Value}
use Rattle.managed_value.specs.declared.value.Value.TheOpen.{Value-F}
use Rattle.managed_value.specs.Parts.{kind_in, kind_of, bytes_in, flat_of, range_in, part_at, with_bytes, with_range, with_part, with_step, put, Fits, start_of, flat_bytes, flat_with}

-- lists

pub all_replaced : (bytes new : List ℕ) → length bytes ≡ length new → with_bytes bytes 0 new ≡ new
all_replaced bytes new e =
    let none : drop (0 + length new) bytes ≡ [] = drop_of_length-le bytes (omega arith) in
    rw none (append-nil new)

pub within_range : (bytes new : List ℕ) (at n s : ℕ) → at + n ≤ length bytes → s + length new ≤ n → with_bytes bytes at (with_bytes (slice_range bytes at (at + n)) s new) ≡ with_bytes bytes (at + s) new
within_range bytes new at n s h k = same_lists _ _ (search (rules, places)) (λ i d l. grind (arith, places))

pub length-slice_range : (bytes : List ℕ) (at n : ℕ) → at + n ≤ length bytes → length (slice_range bytes at (at + n)) ≡ n
length-slice_range bytes at n h = search (rules, places)

-- values

same_bytes : (t u : TypeId) (a b : ℕ) → kinds.Bytes t a ≡ kinds.Bytes u b → (t ≡ u) × (a ≡ b)
same_bytes t u a b e = (cc, cc)

-- what is put into bytes by a path, and that it is there
pub record InBytes (t : TypeId) (bytes : List ℕ) (path : List PathStep) (after : Value) (b : List ℕ) : Type 0 where
  pub fits : start_of path + length b ≤ length bytes
  pub after_is : out-Value after ≡ Value-F.Flat t (with_bytes bytes (start_of path) b)

whole_put : (t : TypeId) (bytes : List ℕ) (new : Value) (y : Value-F Value) → out-Value new ≡ y → kinds.Bytes t (length bytes) ≡ kind_in y → InBytes t bytes [] new (flat_bytes y)
whole_put t bytes new (Value-F.Flat u b) is e =
    let same = same_bytes t u (length bytes) (length b) e in
    record { fits = omega (arith, same.1); after_is = is ∙ rw (same.0, all_replaced bytes b same.1) refl }
whole_put t bytes new (Value-F.I32 n) is e = absurd (cc)
whole_put t bytes new (Value-F.I64 n) is e = absurd (cc)
whole_put t bytes new (Value-F.N n) is e = absurd (cc)
whole_put t bytes new Value-F.Null is e = absurd (cc)
whole_put t bytes new (Value-F.Ref o) is e = absurd (cc)
whole_put t bytes new (Value-F.Code m) is e = absurd (cc)
whole_put t bytes new (Value-F.At p) is e = absurd (cc)
whole_put t bytes new (Value-F.Fields u parts) is e = absurd (cc)

-- a range of the bytes, where it is there
range_step : (t : TypeId) (bytes : List ℕ) (at n : ℕ) (path : List PathStep) (new : Value) (b : List ℕ) → at + n ≤ length bytes → InBytes t (slice_range bytes at (at + n)) path (put (Value.Flat t (slice_range bytes at (at + n))) path new) b → InBytes t bytes (Range at n ∷ path) (with_part (Value.Flat t bytes) (Range at n) (put (Value.Flat t (slice_range bytes at (at + n))) path new)) b
unfolding out-Value denote.Hole.Carrier.out
range_step t bytes at n path new b there i =
    let size : length (slice_range bytes at (at + n)) ≡ n = length-slice_range bytes at n there in
    let room : start_of path + length b ≤ n = omega (arith, i.fits, size) in
    record {
      fits = omega (arith, room);
      after_is = rw (i.after_is, within_range bytes b at n (start_of path) there room) refl;
    }

bytes_put_by : (t : TypeId) (bytes : List ℕ) (at n : ℕ) (path : List PathStep) (new : Value) (y : Value-F Value) (fit : Bool) → nat_le (at + n) (length bytes) ≡ fit → ((bytes : List ℕ) → IsSomeAnd (part_at (Value.Flat t bytes) path) (λ old. kind_of old ≡ kind_in y) → InBytes t bytes path (put (Value.Flat t bytes) path new) (flat_bytes y)) → IsSomeAnd (part_at (Value.Flat t bytes) (Range at n ∷ path)) (λ old. kind_of old ≡ kind_in y) → InBytes t bytes (Range at n ∷ path) (put (Value.Flat t bytes) (Range at n ∷ path) new) (flat_bytes y)
unfolding out-Value denote.Hole.Carrier.out
bytes_put_by t bytes at n path new y true fit rest h =
    rw fit (range_step t bytes at n path new (flat_bytes y) (leb-true _ _ fit) (rest (slice_range bytes at (at + n)) (rw fit at h)))
bytes_put_by t bytes at n path new y false fit rest h = absurd (rw fit at h)

pub bytes_put : (path : List PathStep) (t : TypeId) (bytes : List ℕ) (new : Value) (y : Value-F Value) → out-Value new ≡ y → IsSomeAnd (part_at (Value.Flat t bytes) path) (λ old. kind_of old ≡ kind_in y) → InBytes t bytes path (put (Value.Flat t bytes) path new) (flat_bytes y)
unfolding out-Value denote.Hole.Carrier.out
bytes_put [] t bytes new y is h = whole_put t bytes new y is h
bytes_put (Field k ∷ path) t bytes new y is h = absurd h
bytes_put (Range at n ∷ path) t bytes new y is h =
    bytes_put_by t bytes at n path new y _ refl (λ other fits. bytes_put path t other new y is fits) h

-- what is put at a range of any value, where it fits
pub record RangePut (v new after : Value) (path : List PathStep) (x y : Value-F Value) : Type 0 where
  pub fits : start_of path + length (flat_bytes y) ≤ length (flat_bytes x)
  pub after_is : flat_with v (start_of path) (flat_bytes y) x ≡ after

made_by : (v : Value) (at : ℕ) (o : Option Value) (new : Value) (path : List PathStep) (x : Value-F Value) → Value
made_by v at (Some old) new path x = with_range v at (out-Value (put old path new)) x
made_by v at None new path x = v

range_put_flat : (v new : Value) (at n : ℕ) (path : List PathStep) (t : TypeId) (bytes : List ℕ) (y : Value-F Value) (fit : Bool) → out-Value new ≡ y → nat_le (at + n) (length bytes) ≡ fit → IsSomeAnd (option_and_then (λ w. part_at w path) (flat_of t (bytes_in bytes at n))) (λ old. kind_of old ≡ kind_in y) → RangePut v new (made_by v at (flat_of t (bytes_in bytes at n)) new path (Value-F.Flat t bytes)) (Range at n ∷ path) (Value-F.Flat t bytes) y
unfolding out-Value denote.Hole.Carrier.out made_by
range_put_flat v new at n path t bytes y true is fit h =
    let there : at + n ≤ length bytes = leb-true _ _ fit in
    let i = bytes_put path t (slice_range bytes at (at + n)) new y is (rw fit at h) in
    let size : length (slice_range bytes at (at + n)) ≡ n = length-slice_range bytes at n there in
    let room : start_of path + length (flat_bytes y) ≤ n = omega (arith, i.fits, size) in
    rw fit (record {
      fits = omega (arith, room);
      after_is = rw (i.after_is, within_range bytes (flat_bytes y) at n (start_of path) there room) refl;
    })
range_put_flat v new at n path t bytes y false is fit h = absurd (rw fit at h)

range_put_by : (v new : Value) (at n : ℕ) (path : List PathStep) (x y : Value-F Value) → out-Value new ≡ y → IsSomeAnd (option_and_then (λ w. part_at w path) (range_in at n x)) (λ old. kind_of old ≡ kind_in y) → RangePut v new (made_by v at (range_in at n x) new path x) (Range at n ∷ path) x y
unfolding made_by
range_put_by v new at n path (Value-F.Flat t bytes) y is h = range_put_flat v new at n path t bytes y _ is refl h
range_put_by v new at n path (Value-F.I32 m) y is h = absurd h
range_put_by v new at n path (Value-F.I64 m) y is h = absurd h
range_put_by v new at n path (Value-F.N m) y is h = absurd h
range_put_by v new at n path Value-F.Null y is h = absurd h
range_put_by v new at n path (Value-F.Ref o) y is h = absurd h
range_put_by v new at n path (Value-F.Code m) y is h = absurd h
range_put_by v new at n path (Value-F.At p) y is h = absurd h
range_put_by v new at n path (Value-F.Fields t parts) y is h = absurd h

made_is : (v : Value) (at n : ℕ) (o : Option Value) (new : Value) (path : List PathStep) → made_by v at o new path (out-Value v) ≡ with_step v (Range at n) (λ old. put old path new) o
unfolding made_by
made_is v at n (Some old) new path = refl
made_is v at n None new path = refl

pub range_put : (v new : Value) (at n : ℕ) (path : List PathStep) → Fits v (Range at n ∷ path) new → RangePut v new (put v (Range at n ∷ path) new) (Range at n ∷ path) (out-Value v) (out-Value new)
range_put v new at n path h =
    let r = range_put_by v new at n path (out-Value v) (out-Value new) refl h in
    record { fits = r.fits; after_is = r.after_is ∙ made_is v at n (range_in at n (out-Value v)) new path }

-- the same of a path that begins with a range
path_is : (p rest : List PathStep) (step : PathStep) (at n : ℕ) → p ≡ step ∷ rest → step ≡ Range at n → p ≡ Range at n ∷ rest
path_is p rest step at n e f = e ∙ ap (λ (s : PathStep). s ∷ rest) f

pub range_room : (v new : Value) (p rest : List PathStep) (step : PathStep) (at n : ℕ) (b : List ℕ) → p ≡ step ∷ rest → step ≡ Range at n → Fits v p new → b ≡ flat_bytes (out-Value new) → start_of p + length b ≤ length (flat_bytes (out-Value v))
range_room v new p rest step at n b e f h is =
    let whole = path_is p rest step at n e f in
    rw (whole, is) (range_put v new at n rest (rw whole at h)).fits

pub range_done : (v new after : Value) (p rest : List PathStep) (step : PathStep) (at n : ℕ) (b : List ℕ) → p ≡ step ∷ rest → step ≡ Range at n → Fits v p new → b ≡ flat_bytes (out-Value new) → after ≡ flat_with v (start_of p) b (out-Value v) → after ≡ put v p new
range_done v new after p rest step at n b e f h is done =
    let whole = path_is p rest step at n e f in
    done ∙ rw (whole, is) (range_put v new at n rest (rw whole at h)).after_is
