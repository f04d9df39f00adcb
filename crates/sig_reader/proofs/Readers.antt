-- What a function that reads is to a relation between bytes and values, and how both are built from
-- parts.
use Rattle.std.proofs.Common.{◌≡◌, ℕ, zero, suc, ◌<◌, Bool, true, false, cond, List, [], ◌∷◌, ◌++◌, length, Result, Ok, Err, ◌⊎◌, inl, inr, refl, sym, ◌∙◌, ap, subst, append_assoc, arith}
use Rattle.std.specs.Prelude.{MatchBool}
use Rattle.byte_view.specs.Reading.{◌>>=◌}
use Rattle.sig_reader.specs.Grammar.{Begins, ◌▷◌, Gives, IsByte, Chosen, Exactly}
use Rattle.sig_reader.specs.Reading.{Read, byte_where, chosen, many}

-- a value was found, with bytes left after it
pub record Found {A : Type 0} (R : List ℕ → A → Type 0) (bytes : List ℕ) (x : A) (rest : List ℕ) : Type 0 where
  pub front : List ℕ
  pub whole : bytes ≡ front ++ rest
  pub spells : R front x

-- Reading stops: what came before goes on to a spelling, but not by the byte there, after which all
-- is refused at that place.
pub record Stops {A : Type 0} (R : List ℕ → A → Type 0) (p : List ℕ → Read A) (bytes : List ℕ) (left : ℕ) : Type 0 where
  pub front : List ℕ
  pub back : List ℕ
  pub whole : bytes ≡ front ++ back
  pub size : length back ≡ left
  pub viable : Begins R front
  pub blocked : (c : ℕ) (tail other : List ℕ) → back ≡ c ∷ tail → p (front ++ c ∷ other) ≡ Err (suc (length other))

-- the function reads just what the relation has
pub record Reader {A : Type 0} (R : List ℕ → A → Type 0) (p : List ℕ → Read A) : Type 0 where
  pub some : Begins R []
  pub sound : (bytes : List ℕ) (x : A) (rest : List ℕ) → p bytes ≡ Ok (x, rest) → Found R bytes x rest
  pub complete : (front rest : List ℕ) (x : A) → R front x → p (front ++ rest) ≡ Ok (x, rest)
  pub stops : (bytes : List ℕ) (left : ℕ) → p bytes ≡ Err left → Stops R p bytes left

pub ok_inj : {A E : Type 0} {x y : A} → ◌≡◌ {A = Result A E} (Ok x) (Ok y) → x ≡ y
ok_inj e = cc

pub err_inj : {A E : Type 0} {x y : E} → ◌≡◌ {A = Result A E} (Err x) (Err y) → x ≡ y
err_inj e = cc

pub ok_is_no_err : {A E : Type 0} {x : A} {y : E} → ◌≡◌ {A = Result A E} (Ok x) (Err y) → ⊥
ok_is_no_err e = cc

pub err_is_no_ok : {A E : Type 0} {x : A} {y : E} → ◌≡◌ {A = Result A E} (Err y) (Ok x) → ⊥
err_is_no_ok e = cc

pub bind_ok : {A B R : Type 0} (m : Result A R) (f : A → Result B R) (y : B) → m >>= f ≡ Ok y → (r : A) × (m ≡ Ok r) × (f r ≡ Ok y)
bind_ok (Ok r) f y e = (r, refl, e)
bind_ok (Err k) f y e = absurd (err_is_no_ok e)

pub bind_err : {A B R : Type 0} (m : Result A R) (f : A → Result B R) (k : R) → m >>= f ≡ Err k → (m ≡ Err k) ⊎ ((r : A) × (m ≡ Ok r) × (f r ≡ Err k))
bind_err (Ok r) f k e = inr (r, refl, e)
bind_err (Err j) f k e = inl (ap Err (err_inj e))

-- no bytes
pub gives : {A : Type 0} (v : A) → Reader (Gives v) (λ bytes. Ok (v, bytes))
gives v = record {
  some = record { more = []; value = v; spells = (refl, refl) };
  sound = λ bytes x rest e. record {
    front = [];
    whole = ap (λ r. r.1) (ok_inj e);
    spells = (refl, sym (ap (λ r. r.0) (ok_inj e)));
  };
  complete = λ front rest x s. rw (s.0, s.1) refl;
  stops = λ bytes left e. absurd (ok_is_no_err e);
}

-- one part after another
module _ {A B : Type 0} (R : List ℕ → A → Type 0) (S : A → List ℕ → B → Type 0) (p : List ℕ → Read A) (q : A → List ℕ → Read B) (P : Reader R p) (Q : (x : A) (front : List ℕ) → R front x → Reader (S x) (q x)) where
  joined_in : List ℕ → Read B
  joined_in bytes = p bytes >>= λ r. q r.0 r.1

  joined_some : Begins (R ▷ S) []
  joined_some =
      let s = P.some in
      let t = (Q s.value s.more s.spells).some in
      record {
        more = s.more ++ t.more;
        value = t.value;
        spells = record { front = s.more; back = t.more; first = s.value; whole = refl; begins = s.spells; goes_on = t.spells };
      }

  joined_sound : (bytes : List ℕ) (y : B) (rest : List ℕ) → joined_in bytes ≡ Ok (y, rest) → Found (R ▷ S) bytes y rest
  unfolding joined_in
  joined_sound bytes y rest e =
      let b = bind_ok (p bytes) (λ r. q r.0 r.1) (y, rest) e in
      let f = P.sound bytes b.0.0 b.0.1 b.1 in
      let g = (Q b.0.0 f.front f.spells).sound b.0.1 y rest b.2 in
      record {
        front = f.front ++ g.front;
        whole = f.whole ∙ ap (λ r. f.front ++ r) g.whole ∙ sym (append_assoc f.front g.front rest);
        spells = record { front = f.front; back = g.front; first = b.0.0; whole = refl; begins = f.spells; goes_on = g.spells };
      }

  -- what is read where the first part is found
  joined_at : (front more : List ℕ) (x : A) → R front x → joined_in (front ++ more) ≡ q x more
  unfolding joined_in
  joined_at front more x s = ap (λ m. m >>= λ r. q r.0 r.1) (P.complete front more x s)

  joined_complete : (front rest : List ℕ) (y : B) → (R ▷ S) front y → joined_in (front ++ rest) ≡ Ok (y, rest)
  joined_complete front rest y j =
      ap joined_in (ap (λ f. f ++ rest) j.whole ∙ append_assoc j.front j.back rest)
      ∙ joined_at j.front (j.back ++ rest) j.first j.begins
      ∙ (Q j.first j.front j.begins).complete j.back rest y j.goes_on

  joined_first : (bytes : List ℕ) (left : ℕ) → p bytes ≡ Err left → Stops (R ▷ S) joined_in bytes left
  unfolding joined_in
  joined_first bytes left e =
      let s = P.stops bytes left e in
      let v = s.viable in
      let t = (Q v.value (s.front ++ v.more) v.spells).some in
      record {
        front = s.front;
        back = s.back;
        whole = s.whole;
        size = s.size;
        viable = record {
          more = v.more ++ t.more;
          value = t.value;
          spells = record {
            front = s.front ++ v.more;
            back = t.more;
            first = v.value;
            whole = sym (append_assoc s.front v.more t.more);
            begins = v.spells;
            goes_on = t.spells;
          };
        };
        blocked = λ c tail other b. ap (λ m. m >>= λ r. q r.0 r.1) (s.blocked c tail other b);
      }

  joined_second : (bytes : List ℕ) (left : ℕ) (r : A × List ℕ) → p bytes ≡ Ok r → q r.0 r.1 ≡ Err left → Stops (R ▷ S) joined_in bytes left
  joined_second bytes left r e d =
      let f = P.sound bytes r.0 r.1 e in
      let s = (Q r.0 f.front f.spells).stops r.1 left d in
      record {
        front = f.front ++ s.front;
        back = s.back;
        whole = f.whole ∙ ap (λ b. f.front ++ b) s.whole ∙ sym (append_assoc f.front s.front s.back);
        size = s.size;
        viable = record {
          more = s.viable.more;
          value = s.viable.value;
          spells = record {
            front = f.front;
            back = s.front ++ s.viable.more;
            first = r.0;
            whole = append_assoc f.front s.front s.viable.more;
            begins = f.spells;
            goes_on = s.viable.spells;
          };
        };
        blocked = λ c tail other b.
            ap joined_in (append_assoc f.front s.front (c ∷ other))
            ∙ joined_at f.front (s.front ++ c ∷ other) r.0 f.spells
            ∙ s.blocked c tail other b;
      }

  joined_stops : (bytes : List ℕ) (left : ℕ) → joined_in bytes ≡ Err left → Stops (R ▷ S) joined_in bytes left
  unfolding joined_in
  joined_stops bytes left e =
      elim (bind_err (p bytes) (λ r. q r.0 r.1) left e) [
        | inl h ↦ joined_first bytes left h
        | inr h ↦ joined_second bytes left h.0 h.1 h.2
      ]

  pub joined : Reader (R ▷ S) (λ bytes. p bytes >>= λ r. q r.0 r.1)
  unfolding joined_in
  joined = record { some = joined_some; sound = joined_sound; complete = joined_complete; stops = joined_stops }

-- a relation that says the same
pub same_relation : {A : Type 0} {R S : List ℕ → A → Type 0} {p : List ℕ → Read A} → ((bytes : List ℕ) (x : A) → R bytes x → S bytes x) → ((bytes : List ℕ) (x : A) → S bytes x → R bytes x) → Reader R p → Reader S p
same_relation to from P = record {
  some = record { more = P.some.more; value = P.some.value; spells = to _ _ P.some.spells };
  sound = λ bytes x rest e.
      let f = P.sound bytes x rest e in
      record { front = f.front; whole = f.whole; spells = to _ _ f.spells };
  complete = λ front rest x s. P.complete front rest x (from _ _ s);
  stops = λ bytes left e.
      let s = P.stops bytes left e in
      record {
        front = s.front;
        back = s.back;
        whole = s.whole;
        size = s.size;
        viable = record { more = s.viable.more; value = s.viable.value; spells = to _ _ s.viable.spells };
        blocked = s.blocked;
      };
}

-- one of two, by a test that is known
pub branch : {A : Type 0} {R S : List ℕ → A → Type 0} {p q : List ℕ → Read A} (b : Bool) → (b ≡ true → Reader R p) → (b ≡ false → Reader S q) → Reader (λ bytes x. MatchBool b (R bytes x) (S bytes x)) (λ bytes. cond b (p bytes) (q bytes))
branch true P Q = P refl
branch false P Q = Q refl

-- one byte
module _ (passes : ℕ → Bool) where
  byte_found : (c : ℕ) (bytes : List ℕ) (b : Bool) → passes c ≡ b → (x : ℕ) (rest : List ℕ) → ◌≡◌ {A = Read ℕ} (cond b (Ok (c, bytes)) (Err (suc (length bytes)))) (Ok (x, rest)) → Found (IsByte passes) (c ∷ bytes) x rest
  byte_found c bytes true t x rest e =
      let h = ok_inj e in
      record {
        front = c ∷ [];
        whole = ap (λ r. c ∷ r) (ap (λ r. r.1) h);
        spells = (ap (λ v. v ∷ []) (ap (λ r. r.0) h), subst (λ v. passes v ≡ true) (ap (λ r. r.0) h) t);
      }
  byte_found c bytes false t x rest e = absurd (err_is_no_ok e)

  byte_sound : (bytes : List ℕ) (x : ℕ) (rest : List ℕ) → byte_where passes bytes ≡ Ok (x, rest) → Found (IsByte passes) bytes x rest
  byte_sound [] x rest e = absurd (err_is_no_ok e)
  byte_sound (c ∷ bytes) x rest e = byte_found c bytes (passes c) refl x rest e

  byte_stuck : (some : Begins (IsByte passes) []) (c : ℕ) (bytes : List ℕ) (b : Bool) → passes c ≡ b → (left : ℕ) → ◌≡◌ {A = Read ℕ} (cond b (Ok (c, bytes)) (Err (suc (length bytes)))) (Err left) → Stops (IsByte passes) (byte_where passes) (c ∷ bytes) left
  byte_stuck some c bytes true t left e = absurd (ok_is_no_err e)
  byte_stuck some c bytes false t left e = record {
    front = [];
    back = c ∷ bytes;
    whole = refl;
    size = err_inj e;
    viable = some;
    blocked = λ d tail other h.
        let g : c ≡ d = cc in
        let f : passes d ≡ false = ap passes (sym g) ∙ t in
        ap (λ v. cond v (Ok (d, other)) (Err (suc (length other)))) f;
  }

  byte_stops : (some : Begins (IsByte passes) []) (bytes : List ℕ) (left : ℕ) → byte_where passes bytes ≡ Err left → Stops (IsByte passes) (byte_where passes) bytes left
  byte_stops some [] left e = record {
    front = [];
    back = [];
    whole = refl;
    size = err_inj e;
    viable = some;
    blocked = λ c tail other h. absurd cc;
  }
  byte_stops some (c ∷ bytes) left e = byte_stuck some c bytes (passes c) refl left e

  pub byte : (c : ℕ) → passes c ≡ true → Reader (IsByte passes) (byte_where passes)
  byte c t =
      let some : Begins (IsByte passes) [] = record { more = c ∷ []; value = c; spells = (refl, t) } in
      record {
        some = some;
        sound = byte_sound;
        complete = λ front rest x s.
            ap (λ f. byte_where passes (f ++ rest)) s.0
            ∙ ap (λ v. cond v (Ok (x, rest)) (Err (suc (length rest)))) s.1;
        stops = byte_stops some;
      }

-- what the second has isn't the first's
pub second_chosen : {A : Type 0} (passes : ℕ → Bool) (R S : List ℕ → A → Type 0) → ((c : ℕ) (bytes : List ℕ) (x : A) → S (c ∷ bytes) x → passes c ≡ false) → (bytes : List ℕ) (x : A) → S bytes x → Chosen passes R S bytes x
second_chosen passes R S apart [] x s = s
second_chosen passes R S apart (c ∷ bytes) x s = subst (λ b. MatchBool b (R bytes x) (S (c ∷ bytes) x)) (sym (apart c bytes x s)) s

-- one of two, by the first byte
module _ {A : Type 0} (passes : ℕ → Bool) (R S : List ℕ → A → Type 0) (p q : List ℕ → Read A) (P : Reader R p) (Q : Reader S q) (apart : (c : ℕ) (bytes : List ℕ) (x : A) → S (c ∷ bytes) x → passes c ≡ false) (nonempty : (x : A) → S [] x → ⊥) where
  second_is : (bytes : List ℕ) (x : A) → S bytes x → Chosen passes R S bytes x
  second_is = second_chosen passes R S apart

  chosen_found : (c : ℕ) (bytes : List ℕ) (b : Bool) → passes c ≡ b → (x : A) (rest : List ℕ) → cond b (p bytes) (q (c ∷ bytes)) ≡ Ok (x, rest) → Found (Chosen passes R S) (c ∷ bytes) x rest
  chosen_found c bytes true t x rest e =
      let f = P.sound bytes x rest e in
      record {
        front = c ∷ f.front;
        whole = ap (λ r. c ∷ r) f.whole;
        spells = subst (λ b. MatchBool b (R f.front x) (S (c ∷ f.front) x)) (sym t) f.spells;
      }
  chosen_found c bytes false t x rest e =
      let f = Q.sound (c ∷ bytes) x rest e in
      record { front = f.front; whole = f.whole; spells = second_is f.front x f.spells }

  chosen_sound : (bytes : List ℕ) (x : A) (rest : List ℕ) → chosen passes p q bytes ≡ Ok (x, rest) → Found (Chosen passes R S) bytes x rest
  chosen_sound [] x rest e =
      let f = Q.sound [] x rest e in
      record { front = f.front; whole = f.whole; spells = second_is f.front x f.spells }
  chosen_sound (c ∷ bytes) x rest e = chosen_found c bytes (passes c) refl x rest e

  chosen_by : (c : ℕ) (front rest : List ℕ) (b : Bool) (x : A) → MatchBool b (R front x) (S (c ∷ front) x) → cond b (p (front ++ rest)) (q (c ∷ front ++ rest)) ≡ Ok (x, rest)
  chosen_by c front rest true x s = P.complete front rest x s
  chosen_by c front rest false x s = Q.complete (c ∷ front) rest x s

  chosen_complete : (front rest : List ℕ) (x : A) → Chosen passes R S front x → chosen passes p q (front ++ rest) ≡ Ok (x, rest)
  chosen_complete [] rest x s = absurd (nonempty x s)
  chosen_complete (c ∷ front) rest x s = chosen_by c front rest (passes c) x s

  chosen_second : (c : ℕ) (bytes : List ℕ) → passes c ≡ false → chosen passes p q (c ∷ bytes) ≡ q (c ∷ bytes)
  chosen_second c bytes t = ap (λ b. cond b (p bytes) (q (c ∷ bytes))) t

  -- where the second is chosen and stops, both do
  blocked_second : (c : ℕ) → passes c ≡ false → (bytes front back : List ℕ) → c ∷ bytes ≡ front ++ back → (d : ℕ) (tail other : List ℕ) → back ≡ d ∷ tail → q (front ++ d ∷ other) ≡ Err (suc (length other)) → chosen passes p q (front ++ d ∷ other) ≡ Err (suc (length other))
  blocked_second c t bytes [] back w d tail other b h =
      let g : c ≡ d = cc in
      chosen_second d other (ap passes (sym g) ∙ t) ∙ h
  blocked_second c t bytes (f ∷ front) back w d tail other b h =
      let g : c ≡ f = cc in
      chosen_second f (front ++ d ∷ other) (ap passes (sym g) ∙ t) ∙ h

  no_bytes : (front back : List ℕ) (d : ℕ) (tail : List ℕ) → [] ≡ front ++ back → back ≡ d ∷ tail → ⊥
  no_bytes [] back d tail w b = cc
  no_bytes (f ∷ front) back d tail w b = cc

  chosen_stuck : (c : ℕ) (bytes : List ℕ) (b : Bool) → passes c ≡ b → (left : ℕ) → cond b (p bytes) (q (c ∷ bytes)) ≡ Err left → Stops (Chosen passes R S) (chosen passes p q) (c ∷ bytes) left
  chosen_stuck c bytes true t left e =
      let s = P.stops bytes left e in
      record {
        front = c ∷ s.front;
        back = s.back;
        whole = ap (λ r. c ∷ r) s.whole;
        size = s.size;
        viable = record {
          more = s.viable.more;
          value = s.viable.value;
          spells = subst (λ b. MatchBool b (R (s.front ++ s.viable.more) s.viable.value) (S (c ∷ s.front ++ s.viable.more) s.viable.value)) (sym t) s.viable.spells;
        };
        blocked = λ d tail other b. ap (λ v. cond v (p (s.front ++ d ∷ other)) (q (c ∷ s.front ++ d ∷ other))) t ∙ s.blocked d tail other b;
      }
  chosen_stuck c bytes false t left e =
      let s = Q.stops (c ∷ bytes) left e in
      record {
        front = s.front;
        back = s.back;
        whole = s.whole;
        size = s.size;
        viable = record {
          more = s.viable.more;
          value = s.viable.value;
          spells = second_is (s.front ++ s.viable.more) s.viable.value s.viable.spells;
        };
        blocked = λ d tail other b. blocked_second c t bytes s.front s.back s.whole d tail other b (s.blocked d tail other b);
      }

  chosen_stops : (bytes : List ℕ) (left : ℕ) → chosen passes p q bytes ≡ Err left → Stops (Chosen passes R S) (chosen passes p q) bytes left
  chosen_stops [] left e =
      let s = Q.stops [] left e in
      record {
        front = s.front;
        back = s.back;
        whole = s.whole;
        size = s.size;
        viable = record {
          more = s.viable.more;
          value = s.viable.value;
          spells = second_is (s.front ++ s.viable.more) s.viable.value s.viable.spells;
        };
        blocked = λ d tail other b. absurd (no_bytes s.front s.back d tail s.whole b);
      }
  chosen_stops (c ∷ bytes) left e = chosen_stuck c bytes (passes c) refl left e

  pub choose : Reader (Chosen passes R S) (chosen passes p q)
  choose = record {
    some = record { more = Q.some.more; value = Q.some.value; spells = second_is Q.some.more Q.some.value Q.some.spells };
    sound = chosen_sound;
    complete = chosen_complete;
    stops = chosen_stops;
  }

-- so many, one after another
pub repeat : {A : Type 0} (R : List ℕ → A → Type 0) (p : List ℕ → Read A) (n : ℕ) → (0 < n → Reader R p) → Reader (Exactly R n) (many p n)
repeat R p zero P = gives []
repeat R p (suc n) P =
    joined R (λ x. Exactly R n ▷ λ xs. Gives (x ∷ xs)) p (λ x bytes. many p n bytes >>= λ s. Ok (x ∷ s.0, s.1)) (P (omega arith))
    (λ x front s. joined (Exactly R n) (λ xs. Gives (x ∷ xs)) (many p n) (λ xs bytes. Ok (x ∷ xs, bytes)) (repeat R p n (λ h. P (omega arith))) (λ xs f t. gives (x ∷ xs)))
