-- Whole blobs are read as the grammar has them, and refused at its refused place.
use Rattle.std.proofs.Common.{◌≡◌, ℕ, zero, suc, ◌+◌, ◌-◌, ◌<◌, ◌≤◌, false, cond, List, [], ◌∷◌, ◌++◌, length, take, Result, Ok, Err, ◌⊎◌, inl, inr, refl, sym, ◌∙◌, ap, subst, append_assoc, append-nil, length-append, arith}
use Rattle.std.specs.Prelude.{◌==◌}
use Rattle.std.proofs.lemmas.Bool.Decides.{nat_tests}
use Rattle.sig_reader.specs.Grammar.{Begins, IsField, IsMethodSig, AreLocals, IsTypeSpec}
use Rattle.sig_reader.specs.Reading.{Read, only, whole, type_in, method_in, field_in, locals_in, field_read, method_read, locals_read, type_spec_read}
use Rattle.sig_reader.specs.Laws.{RefusedAt, IsReadAs, FieldsAreReadAsSpelled, MethodsAreReadAsSpelled, LocalsAreReadAsSpelled, TypeSpecsAreReadAsSpelled}
use Rattle.sig_reader.proofs.Readers.{Reader, ok_inj, err_inj, ok_is_no_err, err_is_no_ok}
use Rattle.sig_reader.proofs.TypeReaders.{field, whole_method, type_spec, locals}

take_front : (front back : List ℕ) → take (length front) (front ++ back) ≡ front
take_front [] back = refl
take_front (x ∷ front) back = ap (λ r. x ∷ r) (take_front front back)

-- a front that is longer than a place has the byte there
beyond : (n : ℕ) (front : List ℕ) (c : ℕ) (tail : List ℕ) → length front < n → (mid : List ℕ) × (take n (front ++ c ∷ tail) ≡ front ++ c ∷ mid)
beyond zero front c tail h = absurd (omega arith)
beyond (suc n) [] c tail h = (take n tail, refl)
beyond (suc n) (x ∷ front) c tail h =
    let r = beyond n front c tail (omega arith) in
    (r.0, ap (λ l. x ∷ l) r.1)

-- each list is a front of it and the rest
split_at : {A : Type 0} (m : ℕ) (xs : List A) → (mid : List A) × (xs ≡ take m xs ++ mid)
split_at zero xs = (xs, refl)
split_at (suc m) [] = ([], refl)
split_at (suc m) (x ∷ xs) =
    let r = split_at m xs in
    (r.0, ap (λ l. x ∷ l) r.1)

-- a front of a list begins with each shorter one
split_front : {A : Type 0} (m n : ℕ) (xs : List A) → m ≤ n → (mid : List A) × (take n xs ≡ take m xs ++ mid)
split_front zero n xs h = (take n xs, refl)
split_front (suc m) zero xs h = absurd (omega arith)
split_front (suc m) (suc n) [] h = ([], refl)
split_front (suc m) (suc n) (x ∷ xs) h =
    let r = split_front m n xs (omega arith) in
    (r.0, ap (λ l. x ∷ l) r.1)

take_less : {A : Type 0} (n : ℕ) (xs : List A) → take n (take (suc n) xs) ≡ take n xs
take_less zero xs = refl
take_less (suc n) [] = refl
take_less (suc n) (x ∷ xs) = ap (λ l. x ∷ l) (take_less n xs)

length_front : {A : Type 0} (n : ℕ) (xs : List A) → n ≤ length xs → length (take n xs) ≡ n
length_front zero xs h = refl
length_front (suc n) [] h = absurd (omega arith)
length_front (suc n) (x ∷ xs) h = ap suc (length_front n xs (omega arith))

front_within : {A : Type 0} (n : ℕ) (xs : List A) → length (take n xs) ≤ length xs
front_within zero xs = omega arith
front_within (suc n) [] = omega arith
front_within (suc n) (x ∷ xs) = omega (arith, front_within n xs)

one_or_other : (n m : ℕ) → (n ≤ m) ⊎ (m < n)
one_or_other n m = grind arith

some_left : {A : Type 0} (size : ℕ) (y : A) (c : ℕ) (rest : List ℕ) → only size (Ok (y, c ∷ rest)) ≡ Err (size - suc (length rest))
some_left size y c rest =
    let more : (suc (length rest) == 0) ≡ false = grind (arith, nat_tests) in
    ap (λ b. cond b (Ok y) (Err (size - suc (length rest)))) more

unread_is_no_value : {A : Type 0} (size : ℕ) (x y : A) (c : ℕ) (rest : List ℕ) → only size (Ok (y, c ∷ rest)) ≡ Ok x → ⊥
unread_is_no_value size x y c rest o = err_is_no_ok (sym (some_left size y c rest) ∙ o)

below_itself : (n : ℕ) → suc n ≤ n → ⊥
below_itself n h = omega arith

-- all of it is read, or something is left
left_over : {A : Type 0} (x y : A) (c : ℕ) (rest : List ℕ) → ◌≡◌ {A = Read A} (Ok (x, [])) (Ok (y, c ∷ rest)) → ⊥
left_over x y c rest e =
    let same : ◌≡◌ {A = List ℕ} [] (c ∷ rest) = ap (λ r. r.1) (ok_inj e) in
    cc

module _ {A : Type 0} (R : List ℕ → A → Type 0) (p : List ℕ → Read A) (P : Reader R p) where
  -- the value of a spelling is what is read of it
  spelled : (bytes : List ℕ) (x : A) → R bytes x → p bytes ≡ Ok (x, [])
  spelled bytes x s = ap p (sym (append-nil bytes)) ∙ P.complete bytes [] x s

  whole_of : (bytes : List ℕ) (x : A) → R bytes x → whole p bytes ≡ Ok x
  whole_of bytes x s = ap (only (length bytes)) (spelled bytes x s)

  one_value : (bytes : List ℕ) (x y : A) → R bytes x → R bytes y → x ≡ y
  one_value bytes x y s t = ok_inj {E = ℕ} (sym (whole_of bytes x s) ∙ whole_of bytes y t)

  value_by : (bytes : List ℕ) (x y : A) (rest : List ℕ) → p bytes ≡ Ok (y, rest) → only (length bytes) (Ok (y, rest)) ≡ Ok x → R bytes x
  value_by bytes x y [] e o =
      let f = P.sound bytes y [] e in
      let same : y ≡ x = ok_inj o in
      subst (λ v. R bytes v) same (subst (λ b. R b y) (sym (f.whole ∙ append-nil f.front)) f.spells)
  value_by bytes x y (c ∷ rest) e o = absurd (unread_is_no_value (length bytes) x y c rest o)

  value_at : (bytes : List ℕ) (x : A) (m : Read A) → p bytes ≡ m → only (length bytes) m ≡ Ok x → R bytes x
  value_at bytes x (Ok r) e o = value_by bytes x r.0 r.1 e o
  value_at bytes x (Err left) e o = absurd (err_is_no_ok o)

  value_is : (bytes : List ℕ) (x : A) → whole p bytes ≡ Ok x → R bytes x
  value_is bytes x o = value_at bytes x (p bytes) refl o

  begins_less : (m n : ℕ) (bytes : List ℕ) → m ≤ n → Begins R (take n bytes) → Begins R (take m bytes)
  begins_less m n bytes h b =
      let r = split_front m n bytes h in
      record {
        more = r.0 ++ b.more;
        value = b.value;
        spells = subst (λ l. R l b.value) (ap (λ l. l ++ b.more) r.1 ∙ append_assoc (take m bytes) r.0 b.more) b.spells;
      }

  begins_itself : (m : ℕ) (bytes : List ℕ) (x : A) → R bytes x → Begins R (take m bytes)
  begins_itself m bytes x s =
      let r = split_at m bytes in
      record { more = r.0; value = x; spells = subst (λ l. R l x) r.1 s }

  -- no longer front begins a spelling than one that can't go on
  no_longer : (front back : List ℕ) → ((c : ℕ) (tail other : List ℕ) (x : A) → back ≡ c ∷ tail → R (front ++ c ∷ other) x → ⊥) → (n : ℕ) → length front < n → n ≤ length (front ++ back) → Begins R (take n (front ++ back)) → ⊥
  no_longer front [] blocked n h k b = absurd (omega (arith, length-append front []))
  no_longer front (c ∷ tail) blocked n h k b =
      let r = beyond n front c tail h in
      blocked c tail (r.0 ++ b.more) b.value refl
      (subst (λ l. R l b.value) (ap (λ l. l ++ b.more) r.1 ∙ append_assoc front (c ∷ r.0) b.more) b.spells)

  refused_by : (front back : List ℕ) → Begins R front → ((c : ℕ) (tail other : List ℕ) (x : A) → back ≡ c ∷ tail → R (front ++ c ∷ other) x → ⊥) → ((x : A) → R (front ++ back) x → ⊥) → RefusedAt R (front ++ back) (length front)
  refused_by front back b blocked outside = record {
    outside = outside;
    within = omega (arith, length-append front back);
    begins = subst (λ l. Begins R l) (sym (take_front front back)) b;
    longest = λ n k g. elim (one_or_other n (length front)) [
      | inl h ↦ h
      | inr h ↦ absurd (no_longer front back blocked n h k g)
    ];
  }

  place_of : (bytes front back : List ℕ) (at left : ℕ) → bytes ≡ front ++ back → length back ≡ left → at ≡ length bytes - left → at ≡ length front
  place_of bytes front back at left w n e = omega (arith, ap length w, length-append front back)

  stopped : (bytes : List ℕ) (at left : ℕ) → p bytes ≡ Err left → at ≡ length bytes - left → RefusedAt R bytes at
  stopped bytes at left e h =
      let s = P.stops bytes left e in
      let place = place_of bytes s.front s.back at left s.whole s.size h in
      rw (s.whole, place) (refused_by s.front s.back s.viable
      (λ c tail other x b r. ok_is_no_err (sym (spelled (s.front ++ c ∷ other) x r) ∙ s.blocked c tail other b))
      (λ x r. ok_is_no_err (sym (spelled (s.front ++ s.back) x r) ∙ ap p (sym s.whole) ∙ e)))

  unread : (bytes : List ℕ) (at : ℕ) (y : A) (c : ℕ) (rest : List ℕ) → p bytes ≡ Ok (y, c ∷ rest) → at ≡ length bytes - suc (length rest) → RefusedAt R bytes at
  unread bytes at y c rest e h =
      let f = P.sound bytes y (c ∷ rest) e in
      let place = place_of bytes f.front (c ∷ rest) at (suc (length rest)) f.whole refl h in
      rw (f.whole, place) (refused_by f.front (c ∷ rest)
      (record { more = []; value = y; spells = subst (λ l. R l y) (sym (append-nil f.front)) f.spells })
      (λ d tail other x b r. left_over x y d other (sym (spelled (f.front ++ d ∷ other) x r) ∙ P.complete f.front (d ∷ other) y f.spells))
      (λ x r. left_over x y c rest (sym (spelled (f.front ++ c ∷ rest) x r) ∙ ap p (sym f.whole) ∙ e)))

  refused_at_by : (bytes : List ℕ) (at : ℕ) (m : Read A) → p bytes ≡ m → only (length bytes) m ≡ Err at → RefusedAt R bytes at
  refused_at_by bytes at (Err left) e o = stopped bytes at left e (sym (err_inj o))
  refused_at_by bytes at (Ok (y, [])) e o = absurd (ok_is_no_err o)
  refused_at_by bytes at (Ok (y, c ∷ rest)) e o =
      unread bytes at y c rest e (err_inj (sym o ∙ some_left (length bytes) y c rest))

  refused_is : (bytes : List ℕ) (at : ℕ) → whole p bytes ≡ Err at → RefusedAt R bytes at
  refused_is bytes at o = refused_at_by bytes at (p bytes) refl o

  one_place : (bytes : List ℕ) (at : ℕ) → RefusedAt R bytes at → (m : Result A ℕ) → whole p bytes ≡ m → m ≡ Err at
  one_place bytes at r (Ok x) e = absurd (r.outside x (value_is bytes x e))
  one_place bytes at r (Err other) e =
      let s = refused_is bytes other e in
      let low = s.longest at r.within r.begins in
      let high = r.longest other s.within s.begins in
      let same : other ≡ at = omega arith in
      ap Err same

  refused_of : (bytes : List ℕ) (at : ℕ) → RefusedAt R bytes at → whole p bytes ≡ Err at
  refused_of bytes at r = one_place bytes at r (whole p bytes) refl

  alike_at : (a b : List ℕ) (at : ℕ) → whole p a ≡ Err at → at < length a → take (suc at) a ≡ take (suc at) b → whole p b ≡ Err at
  alike_at a b at e h s =
      let r = refused_is a at e in
      let size : suc at ≤ length b = omega (arith, ap length s, length_front (suc at) a (omega arith), front_within (suc at) b) in
      let front : take at a ≡ take at b = sym (take_less at a) ∙ ap (take at) s ∙ take_less at b in
      let none : Begins R (take (suc at) b) → ⊥ = λ g. absurd (below_itself at (r.longest (suc at) (omega arith) (subst (λ l. Begins R l) (sym s) g))) in
      refused_of b at (record {
        outside = λ x t. none (begins_itself (suc at) b x t);
        within = omega arith;
        begins = subst (λ l. Begins R l) front r.begins;
        longest = λ n k g. elim (one_or_other n at) [
          | inl l ↦ l
          | inr l ↦ absurd (none (begins_less (suc at) n b (omega arith) g))
        ];
      })

  pub read_as : IsReadAs (whole p) R
  read_as = record {
    value = λ bytes x. (value_is bytes x, whole_of bytes x);
    one = one_value;
    refused = λ bytes at. (refused_is bytes at, refused_of bytes at);
    alike = alike_at;
  }

pub fields : FieldsAreReadAsSpelled
unfolding field_read
fields = read_as IsField field_in field

pub methods : MethodsAreReadAsSpelled
unfolding method_read
methods = read_as IsMethodSig (method_in (type_in 64)) whole_method

pub all_locals : LocalsAreReadAsSpelled
unfolding locals_read
all_locals = read_as AreLocals locals_in locals

pub type_specs : TypeSpecsAreReadAsSpelled
unfolding type_spec_read
type_specs = read_as IsTypeSpec (type_in 64) type_spec
