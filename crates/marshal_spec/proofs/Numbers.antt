-- Compressed numbers in the middle of bytes: how one is taken, and where one is refused.
use Rattle.std.proofs.Common.{◌≡◌, ℕ, ◌+◌, ◌<◌, ◌≤◌, Bool, true, false, List, [], ◌∷◌, ◌++◌, length, drop, Option, Some, None, Result, Ok, Err, refl, sym, ap, ◌∙◌, arith, length-append, add-zero}
use Rattle.std.proofs.lemmas.List.{append-nil}
use Rattle.std.specs.Prelude.{nat_le, nat_lt, if◌then◌else◌, slice_index, option_and_then}
use Rattle.std.proofs.Math.Seq.{drop-append_seam, get_or-append_seam}
use Rattle.std.proofs.lemmas.Bool.{lt-ltb, le-ltb, ltb-true, leb-true, leb-false, le-leb, lt-leb}
use Rattle.byte_view.specs.Numbers.{compressed_at, compressed_of, compressed_size}
use Rattle.marshal_spec.specs.Grammar.{IsNumber}
use Rattle.marshal_spec.specs.Reading.{number_in, refused_number, after_size}

-- a place that lies before the end
pub before_end : (front : List ℕ) (x : ℕ) (xs : List ℕ) → nat_lt (length front) (length (front ++ x ∷ xs)) ≡ true
before_end front x xs = lt-ltb _ _ (omega (arith, length-append front (x ∷ xs)))

pub at_end : (front : List ℕ) → nat_lt (length front) (length (front ++ [])) ≡ false
at_end front = le-ltb _ _ (omega (arith, length-append front []))

fits_bool : (a b c d : ℕ) (t u : Bool) → nat_le a b ≡ t → nat_le c d ≡ u → (a ≤ b → c ≤ d) → (c ≤ d → a ≤ b) → nat_le a b ≡ nat_le c d
fits_bool a b c d true true e f there back = e ∙ sym f
fits_bool a b c d false false e f there back = e ∙ sym f
fits_bool a b c d true false e f there back = absurd (let h : c ≤ d = there (leb-true a b e) in let g : d < c = leb-false c d f in omega arith)
fits_bool a b c d false true e f there back = absurd (let h : a ≤ b = back (leb-true c d f) in let g : b < a = leb-false a b e in omega arith)

fits_alike : (front rest : List ℕ) (size : ℕ) → nat_le (length front + size) (length (front ++ rest)) ≡ nat_le (0 + size) (length rest)
fits_alike front rest size =
    let whole : length (front ++ rest) ≡ length front + length rest = length-append front rest in
    fits_bool _ _ _ _ _ _ refl refl (λ h. omega (arith, h, whole)) (λ h. omega (arith, h, whole))

then_same : (o : Option ℕ) (f g : ℕ → Option (ℕ × ℕ)) → ((size : ℕ) → f size ≡ g size) → option_and_then f o ≡ option_and_then g o
then_same (Some size) f g same = same size
then_same None f g same = refl

-- what stands before is not looked at
pub compressed_seam : (front rest : List ℕ) → compressed_at (front ++ rest) (length front) ≡ compressed_at rest 0
compressed_seam front [] = rw (at_end front) refl
compressed_seam front (x ∷ xs) =
    let here : slice_index (front ++ x ∷ xs) (length front) ≡ x = get_or-append_seam front x xs 0 in
    let rest : drop (length front) (front ++ x ∷ xs) ≡ x ∷ xs = drop-append_seam front (x ∷ xs) in
    let some : nat_lt 0 (length (x ∷ xs)) ≡ true = lt-ltb _ _ (omega arith) in
    rw (before_end front x xs, here, rest, some)
    (then_same (compressed_size x) _ _ (λ size. rw (fits_alike front (x ∷ xs) size) refl))

-- what a first byte says of the size
pub data Lead : ℕ → Type 0 where
  one : {x : ℕ} → nat_lt x 0x80 ≡ true → Lead x
  two : {x : ℕ} → nat_lt x 0x80 ≡ false → nat_lt x 0xC0 ≡ true → Lead x
  four : {x : ℕ} → nat_lt x 0x80 ≡ false → nat_lt x 0xC0 ≡ false → nat_lt x 0xE0 ≡ true → Lead x
  none : {x : ℕ} → nat_lt x 0x80 ≡ false → nat_lt x 0xC0 ≡ false → nat_lt x 0xE0 ≡ false → Lead x

lead_by : (x : ℕ) (a b c : Bool) → nat_lt x 0x80 ≡ a → nat_lt x 0xC0 ≡ b → nat_lt x 0xE0 ≡ c → Lead x
lead_by x true b c e f g = one e
lead_by x false true c e f g = two e f
lead_by x false false true e f g = four e f g
lead_by x false false false e f g = none e f g

pub lead : (x : ℕ) → Lead x
lead x = lead_by x _ _ _ refl refl refl

enough : (n : ℕ) (xs : List ℕ) → n ≤ length xs → nat_le (0 + n) (length xs) ≡ true
enough n xs h = le-leb _ _ (omega arith)

few : (n : ℕ) (xs : List ℕ) → length xs < n → nat_le (0 + n) (length xs) ≡ false
few n xs h = lt-leb _ _ (omega arith)

there : (x : ℕ) (xs : List ℕ) → nat_lt 0 (length (x ∷ xs)) ≡ true
there x xs = lt-ltb _ _ (omega arith)

pub at_one : (x : ℕ) (xs : List ℕ) → nat_lt x 0x80 ≡ true → compressed_at (x ∷ xs) 0 ≡ Some (compressed_of (x ∷ []) 1, 1)
at_one x xs a = rw (there x xs, a, enough 1 (x ∷ xs) (omega arith)) refl

pub at_two : (x y : ℕ) (xs : List ℕ) → nat_lt x 0x80 ≡ false → nat_lt x 0xC0 ≡ true → compressed_at (x ∷ y ∷ xs) 0 ≡ Some (compressed_of (x ∷ y ∷ []) 2, 2)
at_two x y xs a b = rw (there x (y ∷ xs), a, b, enough 2 (x ∷ y ∷ xs) (omega arith)) refl

pub at_four : (x y z w : ℕ) (xs : List ℕ) → nat_lt x 0x80 ≡ false → nat_lt x 0xC0 ≡ false → nat_lt x 0xE0 ≡ true → compressed_at (x ∷ y ∷ z ∷ w ∷ xs) 0 ≡ Some (compressed_of (x ∷ y ∷ z ∷ w ∷ []) 4, 4)
at_four x y z w xs a b c = rw (there x (y ∷ z ∷ w ∷ xs), a, b, c, enough 4 (x ∷ y ∷ z ∷ w ∷ xs) (omega arith)) refl

cut_two : (x : ℕ) → nat_lt x 0x80 ≡ false → nat_lt x 0xC0 ≡ true → compressed_at (x ∷ []) 0 ≡ None
cut_two x a b = rw (a, b) refl

cut_four : (x : ℕ) (xs : List ℕ) → nat_lt x 0x80 ≡ false → nat_lt x 0xC0 ≡ false → nat_lt x 0xE0 ≡ true → length xs < 3 → compressed_at (x ∷ xs) 0 ≡ None
cut_four x xs a b c h = rw (there x xs, a, b, c, few 4 (x ∷ xs) (omega arith)) refl

no_lead : (x : ℕ) (xs : List ℕ) → nat_lt x 0x80 ≡ false → nat_lt x 0xC0 ≡ false → nat_lt x 0xE0 ≡ false → compressed_at (x ∷ xs) 0 ≡ None
no_lead x xs a b c = rw (there x xs, a, b, c) refl

size_in : Option (ℕ × ℕ) → ℕ
size_in (Some x) = x.1
size_in None = 0

same_size : (a b c d : ℕ) → ◌≡◌ {A = Option (ℕ × ℕ)} (Some (a, b)) (Some (c, d)) → b ≡ d
unfolding size_in
same_size a b c d e = ap size_in e

none_is_none : {A : Type 0} (o : Option A) (x : A) → o ≡ None → o ≡ Some x → ⊥
none_is_none o x e f = cc

-- a number is read whatever follows
stable_lead : (x : ℕ) (xs rest : List ℕ) (n : ℕ) → Lead x → IsNumber (x ∷ xs) n → compressed_at (x ∷ xs ++ rest) 0 ≡ Some (n, length (x ∷ xs))
stable_lead x [] rest n (one a) e = at_one x rest a ∙ (sym (at_one x [] a) ∙ e)
stable_lead x (y ∷ ys) rest n (one a) e =
    absurd (let same : 1 ≡ length (x ∷ y ∷ ys) = same_size _ _ _ _ (sym (at_one x (y ∷ ys) a) ∙ e) in omega arith)
stable_lead x [] rest n (two a b) e = absurd (none_is_none _ _ (cut_two x a b) e)
stable_lead x (y ∷ []) rest n (two a b) e = at_two x y rest a b ∙ (sym (at_two x y [] a b) ∙ e)
stable_lead x (y ∷ z ∷ zs) rest n (two a b) e =
    absurd (let same : 2 ≡ length (x ∷ y ∷ z ∷ zs) = same_size _ _ _ _ (sym (at_two x y (z ∷ zs) a b) ∙ e) in omega arith)
stable_lead x [] rest n (four a b c) e = absurd (none_is_none _ _ (cut_four x [] a b c (omega arith)) e)
stable_lead x (y ∷ []) rest n (four a b c) e = absurd (none_is_none _ _ (cut_four x (y ∷ []) a b c (omega arith)) e)
stable_lead x (y ∷ z ∷ []) rest n (four a b c) e = absurd (none_is_none _ _ (cut_four x (y ∷ z ∷ []) a b c (omega arith)) e)
stable_lead x (y ∷ z ∷ w ∷ []) rest n (four a b c) e = at_four x y z w rest a b c ∙ (sym (at_four x y z w [] a b c) ∙ e)
stable_lead x (y ∷ z ∷ w ∷ v ∷ vs) rest n (four a b c) e =
    absurd (let same : 4 ≡ length (x ∷ y ∷ z ∷ w ∷ v ∷ vs) = same_size _ _ _ _ (sym (at_four x y z w (v ∷ vs) a b c) ∙ e) in omega arith)
stable_lead x xs rest n (none a b c) e = absurd (none_is_none _ _ (no_lead x xs a b c) e)

pub stable : (count rest : List ℕ) (n : ℕ) → IsNumber count n → compressed_at (count ++ rest) 0 ≡ Some (n, length count)
stable [] rest n e = absurd (none_is_none _ _ refl e)
stable (x ∷ xs) rest n e = stable_lead x xs rest n (lead x) e

-- a number, and what follows it
pub record Taken (rest : List ℕ) (n size : ℕ) : Type 0 where
  pub count : List ℕ
  pub tail : List ℕ
  pub whole : rest ≡ count ++ tail
  pub number : IsNumber count n
  pub size_is : size ≡ length count

resized : (o : Option (ℕ × ℕ)) (n size other : ℕ) → o ≡ Some (n, size) → size ≡ other → o ≡ Some (n, other)
resized o n size other e same = rw (← same) e

taken_lead : (x : ℕ) (xs : List ℕ) (n size : ℕ) → Lead x → compressed_at (x ∷ xs) 0 ≡ Some (n, size) → Taken (x ∷ xs) n size
taken_lead x xs n size (one a) e =
    let s : size ≡ 1 = sym (same_size _ _ _ _ (sym (at_one x xs a) ∙ e)) in
    record {
      count = x ∷ [];
      tail = xs;
      whole = refl;
      number = resized _ n size 1 (at_one x [] a ∙ (sym (at_one x xs a) ∙ e)) s;
      size_is = s;
    }
taken_lead x [] n size (two a b) e = absurd (none_is_none _ _ (cut_two x a b) e)
taken_lead x (y ∷ ys) n size (two a b) e =
    let s : size ≡ 2 = sym (same_size _ _ _ _ (sym (at_two x y ys a b) ∙ e)) in
    record {
      count = x ∷ y ∷ [];
      tail = ys;
      whole = refl;
      number = resized _ n size 2 (at_two x y [] a b ∙ (sym (at_two x y ys a b) ∙ e)) s;
      size_is = s;
    }
taken_lead x [] n size (four a b c) e = absurd (none_is_none _ _ (cut_four x [] a b c (omega arith)) e)
taken_lead x (y ∷ []) n size (four a b c) e = absurd (none_is_none _ _ (cut_four x (y ∷ []) a b c (omega arith)) e)
taken_lead x (y ∷ z ∷ []) n size (four a b c) e = absurd (none_is_none _ _ (cut_four x (y ∷ z ∷ []) a b c (omega arith)) e)
taken_lead x (y ∷ z ∷ w ∷ ws) n size (four a b c) e =
    let s : size ≡ 4 = sym (same_size _ _ _ _ (sym (at_four x y z w ws a b c) ∙ e)) in
    record {
      count = x ∷ y ∷ z ∷ w ∷ [];
      tail = ws;
      whole = refl;
      number = resized _ n size 4 (at_four x y z w [] a b c ∙ (sym (at_four x y z w ws a b c) ∙ e)) s;
      size_is = s;
    }
taken_lead x xs n size (none a b c) e = absurd (none_is_none _ _ (no_lead x xs a b c) e)

pub taken : (rest : List ℕ) (n size : ℕ) → compressed_at rest 0 ≡ Some (n, size) → Taken rest n size
taken [] n size e = absurd (none_is_none _ _ refl e)
taken (x ∷ xs) n size e = taken_lead x xs n size (lead x) e

-- a front with which a number begins, and the byte behind it fits nowhere, or is missing
pub record Cut (rest : List ℕ) : Type 0 where
  pub mid : List ℕ
  pub tail : List ℕ
  pub more : List ℕ
  pub n : ℕ
  pub whole : rest ≡ mid ++ tail
  pub begins : IsNumber (mid ++ more) n
  pub place_is : refused_number rest 0 ≡ length mid
  pub alike : (t : ℕ) (ts us : List ℕ) → tail ≡ t ∷ ts → (compressed_at (mid ++ t ∷ us) 0 ≡ None) × (refused_number (mid ++ t ∷ us) 0 ≡ length mid)

no_tail : {A : Type 0} (t : ℕ) (ts : List ℕ) → [] ≡ t ∷ ts → A
no_tail t ts e = absurd (cc)

cut_short : (x : ℕ) (xs more : List ℕ) (n : ℕ) → nat_lt x 0xE0 ≡ true → IsNumber (x ∷ xs ++ more) n → Cut (x ∷ xs)
cut_short x xs more n c e =
    record {
      mid = x ∷ xs;
      tail = [];
      more = more;
      n = n;
      whole = ends_here (x ∷ xs);
      begins = e;
      place_is = rw (there x xs, c) refl;
      alike = λ t ts us e. no_tail t ts e;
    }
  where
    ends_here : (l : List ℕ) → l ≡ l ++ []
    ends_here l = sym (append-nil l)

first_same : (x t : ℕ) (xs ts : List ℕ) → x ∷ xs ≡ t ∷ ts → x ≡ t
first_same x t xs ts e = cc

below_e0 : (x : ℕ) → nat_lt x 0xC0 ≡ true → nat_lt x 0xE0 ≡ true
below_e0 x b = lt-ltb _ _ (omega (arith, ltb-true x 0xC0 b))

zero_begins : IsNumber (0 ∷ []) 0
zero_begins = refl

cut_lead : (x : ℕ) (xs : List ℕ) → Lead x → compressed_at (x ∷ xs) 0 ≡ None → Cut (x ∷ xs)
cut_lead x xs (one a) e = absurd (none_is_none _ _ e (at_one x xs a))
cut_lead x [] (two a b) e = cut_short x [] (0 ∷ []) _ (below_e0 x b) (at_two x 0 [] a b)
cut_lead x (y ∷ ys) (two a b) e = absurd (none_is_none _ _ e (at_two x y ys a b))
cut_lead x [] (four a b c) e = cut_short x [] (0 ∷ 0 ∷ 0 ∷ []) _ c (at_four x 0 0 0 [] a b c)
cut_lead x (y ∷ []) (four a b c) e = cut_short x (y ∷ []) (0 ∷ 0 ∷ []) _ c (at_four x y 0 0 [] a b c)
cut_lead x (y ∷ z ∷ []) (four a b c) e = cut_short x (y ∷ z ∷ []) (0 ∷ []) _ c (at_four x y z 0 [] a b c)
cut_lead x (y ∷ z ∷ w ∷ ws) (four a b c) e = absurd (none_is_none _ _ e (at_four x y z w ws a b c))
cut_lead x xs (none a b c) e =
    record {
      mid = [];
      tail = x ∷ xs;
      more = 0 ∷ [];
      n = 0;
      whole = refl;
      begins = zero_begins;
      place_is = rw (there x xs, c) refl;
      alike = λ t ts us e.
          let same : x ≡ t = first_same x t xs ts e in
          let none : compressed_at (t ∷ us) 0 ≡ None = rw (← same) (no_lead x us a b c) in
          let place : refused_number (t ∷ us) 0 ≡ 0 = rw (← same, there x us, c) refl in
          (none, place);
    }

pub cut : (rest : List ℕ) → compressed_at rest 0 ≡ None → Cut rest
cut [] e =
    record {
      mid = [];
      tail = [];
      more = 0 ∷ [];
      n = 0;
      whole = refl;
      begins = zero_begins;
      place_is = refl;
      alike = λ t ts us e. no_tail t ts e;
    }
cut (x ∷ xs) e = cut_lead x xs (lead x) e

pub refused_seam : (front rest : List ℕ) → refused_number (front ++ rest) (length front) ≡ length front + refused_number rest 0
refused_seam front [] = rw (at_end front, add-zero) refl
refused_seam front (x ∷ xs) =
    let here : slice_index (front ++ x ∷ xs) (length front) ≡ x = get_or-append_seam front x xs 0 in
    rw (before_end front x xs, here, there x xs) (by_test front x xs (nat_lt x 0xE0))
  where
    by_test : (front : List ℕ) (x : ℕ) (xs : List ℕ) (t : Bool) → (if t then length (front ++ x ∷ xs) else length front) ≡ length front + (if t then length (x ∷ xs) else 0)
    by_test front x xs true = length-append front (x ∷ xs)
    by_test front x xs false = omega arith

-- a number in the middle of bytes
pub number_seam : (front rest : List ℕ) → number_in (front ++ rest) (length front) ≡ after_size (length front) (length front + refused_number rest 0) (compressed_at rest 0)
number_seam front rest = rw (compressed_seam front rest, refused_seam front rest) refl

pub number_stable : (front count rest : List ℕ) (n : ℕ) → IsNumber count n → number_in (front ++ (count ++ rest)) (length front) ≡ Ok (n, length (front ++ count))
number_stable front count rest n e =
    let here = stable count rest n e in
    let size : length (front ++ count) ≡ length front + length count = length-append front count in
    number_seam front (count ++ rest) ∙ rw (here, size) refl

after_ok : (at refused : ℕ) (o : Option (ℕ × ℕ)) (n next : ℕ) → after_size at refused o ≡ Ok (n, next) → (size : ℕ) × (o ≡ Some (n, size)) × (next ≡ at + size)
after_ok at refused (Some x) n next e = (x.1, let same : x.0 ≡ n = ap first e in rw (← same) refl, sym (ap second e))
  where
    first : Result (ℕ × ℕ) ℕ → ℕ
    first (Ok x) = x.0
    first (Err d) = 0

    second : Result (ℕ × ℕ) ℕ → ℕ
    second (Ok x) = x.1
    second (Err d) = 0
after_ok at refused None n next e = absurd (cc)

after_err : (at refused : ℕ) (o : Option (ℕ × ℕ)) (place : ℕ) → after_size at refused o ≡ Err place → (o ≡ None) × (place ≡ refused)
after_err at refused (Some x) place e = absurd (cc)
after_err at refused None place e = (refl, cc)

-- a number that was read
pub record Read (front rest : List ℕ) (n next : ℕ) : Type 0 where
  pub count : List ℕ
  pub tail : List ℕ
  pub whole : rest ≡ count ++ tail
  pub number : IsNumber count n
  pub next_is : next ≡ length (front ++ count)

pub number_read : (front rest : List ℕ) (n next : ℕ) → number_in (front ++ rest) (length front) ≡ Ok (n, next) → Read front rest n next
number_read front rest n next e =
    let r = after_ok _ _ (compressed_at rest 0) n next (sym (number_seam front rest) ∙ e) in
    let t = taken rest n r.0 r.1 in
    record {
      count = t.count;
      tail = t.tail;
      whole = t.whole;
      number = t.number;
      next_is = omega (arith, r.2, t.size_is, length-append front t.count);
    }

pub record NotRead (front rest : List ℕ) (place : ℕ) : Type 0 where
  pub cut : Cut rest
  pub place_is : place ≡ length front + length cut.mid
  pub alike : (t : ℕ) (ts us : List ℕ) → cut.tail ≡ t ∷ ts → number_in (front ++ (cut.mid ++ t ∷ us)) (length front) ≡ Err place

pub number_not_read : (front rest : List ℕ) (place : ℕ) → number_in (front ++ rest) (length front) ≡ Err place → NotRead front rest place
number_not_read front rest place e =
    let r = after_err _ _ (compressed_at rest 0) place (sym (number_seam front rest) ∙ e) in
    let k = cut rest r.0 in
    let where_ : place ≡ length front + length k.mid = r.1 ∙ ap (λ n. length front + n) k.place_is in
    record {
      cut = k;
      place_is = where_;
      alike = λ t ts us same.
          let a = k.alike t ts us same in
          number_seam front (k.mid ++ t ∷ us) ∙ rw (a.0, a.1, ← where_) refl;
    }
