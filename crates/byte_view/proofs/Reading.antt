-- What is known of the steps of a reading, one after another, by how it ended.
use Rattle.std.proofs.Common.{◌≡◌, ℕ, zero, suc, ◌+◌, ◌<◌, ◌≤◌, Bool, true, false, ◌⊎◌, List, [], ◌∷◌, ◌++◌, length, get_or, map, Option, Some, None, Result, Ok, Err, refl, sym, ap, ◌∙◌, inl, inr, add-one, arith}
use Rattle.std.specs.Prelude.{nat_le, if◌then◌else◌}
use Rattle.std.specs.List.{range_with_len}
use Rattle.std.specs.Option.{ok_or}
use Rattle.std.proofs.lemmas.Bool.{cases_lt, leb-true}
use Rattle.std.proofs.lemmas.List.{get_or_append_left, get_or_push, length_push}
use Rattle.std.proofs.lemmas.List.FromFn.{map-range_with_len_more}
use Rattle.byte_view.specs.Numbers.{le}
use Rattle.byte_view.specs.Reading.{◌>>=◌, must, field, field_where, listed, each}

-- a reading that succeeds read its first part
pub bind_ok : {A B R : Type 0} (r : Result A R) (f : A → Result B R) (y : B) → (r >>= f) ≡ Ok y → (x : A) × (r ≡ Ok x) × (f x ≡ Ok y)
bind_ok (Ok x) f y e = (x, refl, e)
bind_ok (Err d) f y e = absurd (cc)

-- what follows from the first part and the rest of a reading that succeeds
pub bind_then : {A B P R : Type 0} (r : Result A R) (f : A → Result B R) (y : B) → (r >>= f) ≡ Ok y → ((x : A) → r ≡ Ok x → f x ≡ Ok y → P) → P
bind_then (Ok x) f y e next = next x refl e
bind_then (Err d) f y e next = absurd (cc)

-- readings of equal parts that go on alike are equal
pub bind_same : {A B R : Type 0} (r s : Result A R) (f g : A → Result B R) → r ≡ s → ((x : A) → r ≡ Ok x → f x ≡ g x) → (r >>= f) ≡ (s >>= g)
bind_same (Ok x) s f g e rest = rw (← e) (rest x refl)
bind_same (Err d) s f g e rest = rw (← e) refl

-- one value was read
pub same_read : {A R : Type 0} (x y : A) → ◌≡◌ {A = Result A R} (Ok x) (Ok y) → x ≡ y
same_read x y e = cc

-- a part that is broken breaks the reading
pub bind_err : {A B R : Type 0} (r : Result A R) (f : A → Result B R) (d : R) → r ≡ Err d → (r >>= f) ≡ Err d
bind_err r f d e = rw e refl

-- the part that is read goes on
pub bind_read : {A B R : Type 0} (r : Result A R) (f : A → Result B R) (x : A) → r ≡ Ok x → (r >>= f) ≡ f x
bind_read r f x e = rw e refl

-- a reading ends in one of two ways
pub read_or_refused : {A R : Type 0} (r : Result A R) → ((x : A) × (r ≡ Ok x)) ⊎ ((d : R) × (r ≡ Err d))
read_or_refused (Ok x) = inl (x, refl)
read_or_refused (Err d) = inr (d, refl)

-- a test that passed
pub must_ok : {R : Type 0} (holds : Bool) (refusal : R) (y : ℕ) → must holds refusal ≡ Ok y → holds ≡ true
must_ok true refusal y e = refl
must_ok false refusal y e = absurd (cc)

pub must_pass : {R : Type 0} (holds : Bool) (refusal : R) → holds ≡ true → must holds refusal ≡ Ok 0
must_pass holds refusal e = rw e refl

pub must_fail : {R : Type 0} (holds : Bool) (refusal : R) → holds ≡ false → must holds refusal ≡ Err refusal
must_fail holds refusal e = rw e refl

-- a value that was given since a test passed
pub chosen_ok : {A R : Type 0} (passes : Bool) (x y : A) (d : R) → (if passes then Ok x else Err d) ≡ Ok y → (passes ≡ true) × (x ≡ y)
chosen_ok true x y d e = (refl, cc)
chosen_ok false x y d e = absurd (cc)

-- a field that was read: all of its bytes are there
pub field_ok : (part : ℕ) (bytes : List ℕ) (at n y : ℕ) → field part bytes at n ≡ Ok y → (at + n ≤ length bytes) × (le bytes at n ≡ y)
field_ok part bytes at n y e =
    let chosen = chosen_ok (nat_le (at + n) (length bytes)) (le bytes at n) y (part, at) e in
    (leb-true (at + n) (length bytes) chosen.0, chosen.1)

-- a field that was read and passed its test
pub field_where_ok : (passes : ℕ → Bool) (part : ℕ) (bytes : List ℕ) (at n y : ℕ) → field_where passes part bytes at n ≡ Ok y → (at + n ≤ length bytes) × (le bytes at n ≡ y) × (passes y ≡ true)
field_where_ok passes part bytes at n y e =
    let parts = bind_ok (field part bytes at n) (λ x. if passes x then Ok x else Err (part, at)) y e in
    let there = field_ok part bytes at n parts.0 parts.1 in
    let chosen = chosen_ok (passes parts.0) parts.0 y (part, at) parts.2 in
    let value : le bytes at n ≡ y = there.1 ∙ chosen.1 in
    let test : passes y ≡ true = rw (← chosen.1) chosen.0 in
    (there.0, value, test)

-- an option that had a value
pub ok_or_ok : {A R : Type 0} (o : Option A) (d : R) (x : A) → ok_or o d ≡ Ok x → o ≡ Some x
ok_or_ok (Some y) d x e = cc
ok_or_ok None d x e = absurd (cc)

-- tests that all passed: each of them did
pub each_ok : {R : Type 0} (step : ℕ → Result ℕ R) (n y : ℕ) → each step n ≡ Ok y → (k : ℕ) → k < n → (z : ℕ) × (step k ≡ Ok z)
unfolding each
each_ok step zero y e k h = absurd (omega arith)
each_ok step (suc n) y e k h =
    let parts = bind_ok (each step n) (λ _. step n) y e in
    elim (cases_lt k n) [
      | inl l ↦ each_ok step n parts.0 parts.1 k l
      | inr g ↦ (y, let same : k ≡ n = omega arith in rw same parts.2)
    ]

pub each_none : {R : Type 0} (step : ℕ → Result ℕ R) → each step 0 ≡ Ok 0
unfolding each
each_none step = refl

-- the test after those that passed
pub each_next : {R : Type 0} (step : ℕ → Result ℕ R) (n y : ℕ) → each step n ≡ Ok y → each step (suc n) ≡ step n
unfolding each
each_next step n y e = rw e refl

-- one more test that passes
pub each_more : {R : Type 0} (step : ℕ → Result ℕ R) (n x y : ℕ) → each step n ≡ Ok y → step n ≡ Ok x → each step (n + 1) ≡ Ok x
each_more step n x y before e = rw add-one (each_next step n y before ∙ e)

-- a test that fails leaves all later ones undone
pub each_failed : {R : Type 0} (step : ℕ → Result ℕ R) (n m : ℕ) (d : R) → each step n ≡ Err d → n ≤ m → each step m ≡ Err d
unfolding each
each_failed step n zero d e h = let same : n ≡ zero = omega arith in rw same at e
each_failed step n (suc m) d e h =
    elim (cases_lt m n) [
      | inl l ↦ (let same : n ≡ suc m = omega arith in rw same at e)
      | inr g ↦ bind_err (each step m) (λ _. step m) d (each_failed step n m d e g)
    ]

-- the first test that fails
pub each_fails : {R : Type 0} (step : ℕ → Result ℕ R) (k m y : ℕ) (d : R) → each step k ≡ Ok y → step k ≡ Err d → k < m → each step m ≡ Err d
each_fails step k m y d before failed h = each_failed step (suc k) m d (each_next step k y before ∙ failed) h

-- tests that pass each by itself pass one after another
pub each_from : {R : Type 0} (step : ℕ → Result ℕ R) (n : ℕ) → ((k : ℕ) → k < n → (z : ℕ) × (step k ≡ Ok z)) → (y : ℕ) × (each step n ≡ Ok y)
unfolding each
each_from step zero h = (0, refl)
each_from step (suc n) h =
    let before = each_from step n (λ k l. h k (omega arith)) in
    let last = h n (omega arith) in
    (last.0, bind_read (each step n) (λ _. step n) before.0 before.1 ∙ last.1)

-- equal tests have equal answers
pub each_same : {R : Type 0} (f g : ℕ → Result ℕ R) (n : ℕ) → ((k : ℕ) → k < n → f k ≡ g k) → each f n ≡ each g n
unfolding each
each_same f g zero h = refl
each_same f g (suc n) h =
    let before : each f n ≡ each g n = each_same f g n (λ k l. h k (omega arith)) in
    let last : f n ≡ g n = h n (omega arith) in
    rw (before, last) refl

-- a list that was read has a value for each step
pub listed_length : {A R : Type 0} (step : ℕ → Result A R) (n : ℕ) (xs : List A) → listed step n ≡ Ok xs → length xs ≡ n
unfolding listed
listed_length step zero xs e = let same : xs ≡ [] = cc in rw same refl
listed_length {A} step (suc n) xs e =
    let parts = bind_ok (listed step n) (λ before. step n >>= λ last. Ok (before ++ last ∷ [])) xs e in
    let rest = bind_ok (step n) (λ last. Ok (parts.0 ++ last ∷ [])) xs parts.2 in
    let same : parts.0 ++ rest.0 ∷ [] ≡ xs = cc in
    let before : length parts.0 ≡ n = listed_length step n parts.0 parts.1 in
    rw (← same) (omega (arith, length_push parts.0 rest.0, before))

-- each step of a list that was read gave its value
pub listed_at : {A R : Type 0} (step : ℕ → Result A R) (n : ℕ) (xs : List A) → listed step n ≡ Ok xs → (k : ℕ) (d : A) → k < n → step k ≡ Ok (get_or xs k d)
unfolding listed
listed_at step zero xs e k d h = absurd (omega arith)
listed_at {A} step (suc n) xs e k d h =
    let parts = bind_ok (listed step n) (λ before. step n >>= λ last. Ok (before ++ last ∷ [])) xs e in
    let rest = bind_ok (step n) (λ last. Ok (parts.0 ++ last ∷ [])) xs parts.2 in
    let same : parts.0 ++ rest.0 ∷ [] ≡ xs = cc in
    let count : length parts.0 ≡ n = listed_length step n parts.0 parts.1 in
    elim (cases_lt k n) [
      | inl l ↦ (let within : k < length parts.0 = omega arith in
          let front : get_or (parts.0 ++ rest.0 ∷ []) k d ≡ get_or parts.0 k d = get_or_append_left parts.0 (rest.0 ∷ []) d k within in
          rw (← same, front) (listed_at step n parts.0 parts.1 k d l))
      | inr g ↦ (let here : k ≡ n = omega arith in
          let last : get_or (parts.0 ++ rest.0 ∷ []) n d ≡ rest.0 = get_or_push parts.0 rest.0 d n count in
          rw (here, ← same, last) rest.1)
    ]

-- a value that can't be read leaves all later ones unread
pub listed_failed : {A R : Type 0} (step : ℕ → Result A R) (n m : ℕ) (d : R) → listed step n ≡ Err d → n ≤ m → listed step m ≡ Err d
unfolding listed
listed_failed step n zero d e h = let same : n ≡ zero = omega arith in rw same at e
listed_failed step n (suc m) d e h =
    elim (cases_lt m n) [
      | inl l ↦ (let same : n ≡ suc m = omega arith in rw same at e)
      | inr g ↦ bind_err (listed step m) (λ before. step m >>= λ last. Ok (before ++ last ∷ [])) d (listed_failed step n m d e g)
    ]

pub listed_none : {A R : Type 0} (step : ℕ → Result A R) → listed step 0 ≡ Ok []
unfolding listed
listed_none step = refl

-- the list with the value of the next step
pub listed_next : {A R : Type 0} (step : ℕ → Result A R) (n : ℕ) (xs : List A) → listed step n ≡ Ok xs → listed step (suc n) ≡ (step n >>= λ last. Ok (xs ++ last ∷ []))
unfolding listed
listed_next step n xs e = rw e refl

-- one more value
pub listed_more : {A R : Type 0} (step : ℕ → Result A R) (n : ℕ) (xs : List A) (x : A) → listed step n ≡ Ok xs → step n ≡ Ok x → listed step (n + 1) ≡ Ok (xs ++ x ∷ [])
listed_more step n xs x before e = rw (add-one, listed_next step n xs before, e) refl

-- the first value that can't be read
pub listed_fails : {A R : Type 0} (step : ℕ → Result A R) (k m : ℕ) (xs : List A) (d : R) → listed step k ≡ Ok xs → step k ≡ Err d → k < m → listed step m ≡ Err d
listed_fails step k m xs d before failed h =
    listed_failed step (suc k) m d (listed_next step k xs before ∙ bind_err (step k) (λ last. Ok (xs ++ last ∷ [])) d failed) h

-- values that can be read each by itself are read one after another
pub listed_from : {A R : Type 0} (step : ℕ → Result A R) (f : ℕ → A) (n : ℕ) → ((k : ℕ) → k < n → step k ≡ Ok (f k)) → listed step n ≡ Ok (map f (range_with_len 0 n))
unfolding listed
listed_from step f zero h = refl
listed_from step f (suc n) h =
    let before : listed step n ≡ Ok (map f (range_with_len 0 n)) = listed_from step f n (λ k l. h k (omega arith)) in
    let last : step n ≡ Ok (f n) = h n (omega arith) in
    let longer : map f (range_with_len 0 (n + 1)) ≡ map f (range_with_len 0 n) ++ f n ∷ [] = map-range_with_len_more f 0 n n (omega arith) in
    let more : suc n ≡ n + 1 = omega arith in
    rw (before, last) (ap Ok (sym longer ∙ ap (λ m. map f (range_with_len 0 m)) (sym more)))

-- equal steps read equal lists
pub listed_same : {A R : Type 0} (f g : ℕ → Result A R) (n : ℕ) → ((k : ℕ) → k < n → f k ≡ g k) → listed f n ≡ listed g n
unfolding listed
listed_same f g zero h = refl
listed_same f g (suc n) h =
    let before : listed f n ≡ listed g n = listed_same f g n (λ k l. h k (omega arith)) in
    let last : f n ≡ g n = h n (omega arith) in
    rw (before, last) refl
