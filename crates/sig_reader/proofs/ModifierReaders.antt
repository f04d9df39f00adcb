-- Custom modifiers and constraints are read as the grammar has them.
use Rattle.std.proofs.Common.{◌≡◌, ℕ, zero, suc, ◌+◌, ◌<◌, ◌≤◌, Bool, true, false, cond, ◌&&◌, List, [], ◌∷◌, ◌++◌, length, Result, Ok, Err, Option, Some, None, refl, sym, ◌∙◌, ap, length-append, arith}
use Rattle.std.specs.Prelude.{MatchBool}
use Rattle.std.proofs.lemmas.Bool.Decides.{nat_tests}
use Rattle.byte_view.specs.Reading.{◌>>=◌, Refuses}
use Rattle.sig_reader.specs.declared.parts.Stop.{Stop}
use Rattle.sig_reader.specs.declared.parts.Stop.TheVariants as stops
use Rattle.sig_reader.specs.View.{left_at}
use Rattle.sig_reader.specs.Elements.{is_modifier, is_pinned}
use Rattle.sig_reader.specs.Grammar.{Begins, ◌▷◌, Chosen, IsToken, AtMost, Prefixed}
use Rattle.sig_reader.specs.Reading.{Read, chosen, token_in, prefix_in, go_on, prefixes_in, all_prefixes_in}
use Rattle.sig_reader.proofs.Readers.{Found, Stops, Reader, joined, choose, second_chosen}
use Rattle.sig_reader.proofs.NumberReaders.{token}

-- two splits of a list at one place are one
pub same_split : (a b c d : List ℕ) → a ++ b ≡ c ++ d → length b ≡ length d → (a ≡ c) × (b ≡ d)
same_split [] b [] d e n = (refl, e)
same_split [] b (x ∷ c) d e n = absurd (omega (arith, ap length e, length-append c d))
same_split (x ∷ a) b [] d e n = absurd (omega (arith, ap length e, length-append a b))
same_split (x ∷ a) b (y ∷ c) d e n =
    let heads : x ≡ y = cc in
    let tails : a ++ b ≡ c ++ d = cc in
    let same = same_split a b c d tails n in
    (rw (heads, same.0) refl, same.1)

pub bind_assoc : {A B C R : Type 0} (m : Result A R) (f : A → Result B R) (k : B → Result C R) → ((m >>= f) >>= k) ≡ (m >>= λ r. f r >>= k)
bind_assoc (Ok r) f k = refl
bind_assoc (Err e) f k = refl

match_map : (b : Bool) {P Q S T : Type 0} → (P → S) → (Q → T) → MatchBool b P Q → MatchBool b S T
match_map true f g m = f m
match_map false f g m = g m

pinned_is_no_modifier : (constrained : Bool) (c : ℕ) → (constrained && is_pinned c) ≡ true → is_modifier c ≡ false
pinned_is_no_modifier true c h = grind (arith, nat_tests)
pinned_is_no_modifier false c h = absurd cc

-- after a token, what reads alike on fewer bytes reads alike
after_token : {A : Type 0} (bytes : List ℕ) (p q : List ℕ → Read A) → ((rest : List ℕ) → length rest ≤ length bytes → p rest ≡ q rest) → (m : Read ℕ) → token_in bytes ≡ m → (m >>= λ t. p t.1) ≡ (m >>= λ t. q t.1)
after_token bytes p q same (Ok r) e =
    let f = token.sound bytes r.0 r.1 e in
    same r.1 (omega (arith, ap length f.whole, length-append f.front r.1))
after_token bytes p q same (Err left) e = refl

prefix_cond : {B : Type 0} (g : Option (Bool × List ℕ) → Result B ℕ) (a b : Bool) (m : Read ℕ) (pinned : Bool) (bytes : List ℕ) → (cond a (m >>= λ t. Ok (Some (pinned, t.1))) (cond b (Ok (Some (true, bytes))) (Ok None)) >>= g) ≡ cond a (m >>= λ t. g (Some (pinned, t.1))) (cond b (g (Some (true, bytes))) (g None))
prefix_cond g true b m pinned bytes = bind_assoc m (λ t. Ok (Some (pinned, t.1))) g
prefix_cond g false true m pinned bytes = refl
prefix_cond g false false m pinned bytes = refl

star_step : {A : Type 0} (k : Bool × List ℕ → Read A) (a b : Bool) (m n o : Read Bool) (x y z : Read A) → (m >>= k) ≡ x → (n >>= k) ≡ y → (o >>= k) ≡ z → (cond a m (cond b n o) >>= k) ≡ cond a x (cond b y z)
star_step k true b m n o x y z e f g = e
star_step k false true m n o x y z e f g = f
star_step k false false m n o x y z e f g = g

module _ {A : Type 0} (constrained : Bool) (R : Bool → List ℕ → A → Type 0) (p : Bool → List ℕ → Read A) (P : (b : Bool) → Reader (R b) (p b)) (unmodified : (b : Bool) (c : ℕ) (bytes : List ℕ) (x : A) → R b (c ∷ bytes) x → is_modifier c ≡ false) (unpinned : (b : Bool) (c : ℕ) (bytes : List ℕ) (x : A) → R b (c ∷ bytes) x → (constrained && is_pinned c) ≡ false) (nonempty : (b : Bool) (x : A) → R b [] x → ⊥) where
  abbrev prefixed : ℕ → Bool → List ℕ → Read A
  prefixed zero pinned bytes = p pinned bytes
  prefixed (suc n) pinned bytes =
      chosen is_modifier (λ rest. token_in rest >>= λ t. prefixed n pinned t.1)
      (chosen (λ e. constrained && is_pinned e) (prefixed n true) (p pinned)) bytes

  apart_by : (n : ℕ) (pinned : Bool) (c : ℕ) (bytes : List ℕ) (x : A) (b : Bool) → (constrained && is_pinned c) ≡ b → MatchBool b (AtMost constrained n R true bytes x) (R pinned (c ∷ bytes) x) → is_modifier c ≡ false
  apart_by n pinned c bytes x true e s = pinned_is_no_modifier constrained c e
  apart_by n pinned c bytes x false e s = unmodified pinned c bytes x s

  apart : (n : ℕ) (pinned : Bool) (c : ℕ) (bytes : List ℕ) (x : A) → Chosen (λ e. constrained && is_pinned e) (AtMost constrained n R true) (R pinned) (c ∷ bytes) x → is_modifier c ≡ false
  apart n pinned c bytes x s = apart_by n pinned c bytes x (constrained && is_pinned c) refl s

  at_most : (n : ℕ) (pinned : Bool) → Reader (AtMost constrained n R pinned) (prefixed n pinned)
  at_most zero pinned = P pinned
  at_most (suc n) pinned =
      choose is_modifier (IsToken ▷ λ token. AtMost constrained n R pinned) (Chosen (λ e. constrained && is_pinned e) (AtMost constrained n R true) (R pinned))
      (λ rest. token_in rest >>= λ t. prefixed n pinned t.1) (chosen (λ e. constrained && is_pinned e) (prefixed n true) (p pinned))
      (joined IsToken (λ token. AtMost constrained n R pinned) token_in (λ t. prefixed n pinned) token (λ t front s. at_most n pinned))
      (choose (λ e. constrained && is_pinned e) (AtMost constrained n R true) (R pinned) (prefixed n true) (p pinned) (at_most n true) (P pinned) (unpinned pinned) (nonempty pinned))
      (apart n pinned) (nonempty pinned)

  -- with no fewer turns than bytes, how many they are doesn't matter
  enough : (n k : ℕ) (pinned : Bool) (bytes : List ℕ) → length bytes ≤ n → length bytes ≤ k → prefixed n pinned bytes ≡ prefixed k pinned bytes
  enough zero zero pinned bytes a b = refl
  enough zero (suc k) pinned [] a b = refl
  enough zero (suc k) pinned (c ∷ bytes) a b = absurd (omega arith)
  enough (suc n) zero pinned [] a b = refl
  enough (suc n) zero pinned (c ∷ bytes) a b = absurd (omega arith)
  enough (suc n) (suc k) pinned [] a b = refl
  enough (suc n) (suc k) pinned (c ∷ bytes) a b =
      let tokens = after_token bytes (prefixed n pinned) (prefixed k pinned) (λ rest h. enough n k pinned rest (omega arith) (omega arith)) (token_in bytes) refl in
      let pins = enough n k true bytes (omega arith) (omega arith) in
      rw (tokens, pins) refl

  -- a spelling has no more of them than bytes
  shrink : (n k : ℕ) (pinned : Bool) (bytes : List ℕ) (x : A) → AtMost constrained n R pinned bytes x → length bytes ≤ k → AtMost constrained k R pinned bytes x
  shrink zero zero pinned bytes x s h = s
  shrink zero (suc k) pinned bytes x s h =
      second_chosen is_modifier (IsToken ▷ λ token. AtMost constrained k R pinned) (Chosen (λ e. constrained && is_pinned e) (AtMost constrained k R true) (R pinned)) (apart k pinned) bytes x
      (second_chosen (λ e. constrained && is_pinned e) (AtMost constrained k R true) (R pinned) (unpinned pinned) bytes x s)
  shrink (suc n) zero pinned [] x s h = s
  shrink (suc n) zero pinned (c ∷ bytes) x s h = absurd (omega arith)
  shrink (suc n) (suc k) pinned [] x s h = s
  shrink (suc n) (suc k) pinned (c ∷ bytes) x s h =
      match_map (is_modifier c)
      (λ j. record {
        front = j.front;
        back = j.back;
        first = j.first;
        whole = j.whole;
        begins = j.begins;
        goes_on = shrink n k pinned j.back x j.goes_on (omega (arith, ap length j.whole, length-append j.front j.back));
      })
      (match_map (constrained && is_pinned c) (λ t. shrink n k true bytes x t (omega arith)) (λ t. t)) s

  -- reading all of them and then the part
  star : (n : ℕ) (pinned : Bool) (bytes : List ℕ) → (prefixes_in constrained n pinned bytes >>= λ r. p r.0 r.1) ≡ prefixed n pinned bytes
  unfolding prefixes_in prefix_in
  star zero pinned bytes = refl
  star (suc n) pinned [] = refl
  star (suc n) pinned (c ∷ bytes) =
      let k : Bool × List ℕ → Read A = λ r. p r.0 r.1 in
      ap (λ m. m >>= k) (prefix_cond (go_on (prefixes_in constrained n) pinned (c ∷ bytes)) (is_modifier c) (constrained && is_pinned c) (token_in bytes) pinned bytes)
      ∙ star_step k (is_modifier c) (constrained && is_pinned c)
      (token_in bytes >>= λ t. prefixes_in constrained n pinned t.1) (prefixes_in constrained n true bytes) (Ok (pinned, c ∷ bytes))
      (token_in bytes >>= λ t. prefixed n pinned t.1) (prefixed n true bytes) (p pinned (c ∷ bytes))
      (bind_assoc (token_in bytes) (λ t. prefixes_in constrained n pinned t.1) k
      ∙ after_token bytes (λ rest. prefixes_in constrained n pinned rest >>= k) (prefixed n pinned) (λ rest h. star n pinned rest) (token_in bytes) refl)
      (star n true bytes) refl

  read_all : List ℕ → Read A
  read_all bytes = all_prefixes_in constrained bytes >>= λ r. p r.0 r.1

  all_is : (bytes : List ℕ) → read_all bytes ≡ prefixed (length bytes) false bytes
  unfolding read_all
  all_is bytes = star (length bytes) false bytes

  all_some : Begins (Prefixed constrained R) []
  all_some =
      let s = (P false).some in
      record { more = s.more; value = s.value; spells = shrink 0 (length s.more) false s.more s.value s.spells (omega arith) }

  all_sound : (bytes : List ℕ) (x : A) (rest : List ℕ) → read_all bytes ≡ Ok (x, rest) → Found (Prefixed constrained R) bytes x rest
  all_sound bytes x rest e =
      let f = (at_most (length bytes) false).sound bytes x rest (sym (all_is bytes) ∙ e) in
      record { front = f.front; whole = f.whole; spells = shrink (length bytes) (length f.front) false f.front x f.spells (omega arith) }

  all_complete : (front rest : List ℕ) (x : A) → Prefixed constrained R front x → read_all (front ++ rest) ≡ Ok (x, rest)
  all_complete front rest x s =
      let n = length (front ++ rest) in
      all_is (front ++ rest)
      ∙ (at_most n false).complete front rest x (shrink (length front) n false front x s (omega (arith, length-append front rest)))

  -- what stops with so many turns stops with as many as there are bytes
  all_blocked : (bytes front back : List ℕ) (left : ℕ) → bytes ≡ front ++ back → length back ≡ left → prefixed (length bytes) false bytes ≡ Err left → (c : ℕ) (tail other : List ℕ) → back ≡ c ∷ tail → read_all (front ++ c ∷ other) ≡ Err (suc (length other))
  all_blocked bytes front back left w n e c tail other b =
      let ys = front ++ c ∷ other in
      let turns = length bytes + length ys in
      let s = (at_most turns false).stops bytes left (enough turns (length bytes) false bytes (omega arith) (omega arith) ∙ e) in
      let same = same_split s.front s.back front back (sym s.whole ∙ w) (s.size ∙ sym n) in
      all_is ys
      ∙ enough (length ys) turns false ys (omega arith) (omega arith)
      ∙ ap (λ f. prefixed turns false (f ++ c ∷ other)) (sym same.0)
      ∙ s.blocked c tail other (same.1 ∙ b)

  all_stops : (bytes : List ℕ) (left : ℕ) → read_all bytes ≡ Err left → Stops (Prefixed constrained R) read_all bytes left
  all_stops bytes left e =
      let e' = sym (all_is bytes) ∙ e in
      let s = (at_most (length bytes) false).stops bytes left e' in
      let v = s.viable in
      record {
        front = s.front;
        back = s.back;
        whole = s.whole;
        size = s.size;
        viable = record {
          more = v.more;
          value = v.value;
          spells = shrink (length bytes) (length (s.front ++ v.more)) false (s.front ++ v.more) v.value v.spells (omega arith);
        };
        blocked = all_blocked bytes s.front s.back left s.whole s.size e';
      }

  pub all_prefixes : Reader (Prefixed constrained R) (λ bytes. all_prefixes_in constrained bytes >>= λ r. p r.0 r.1)
  unfolding read_all
  all_prefixes = record { some = all_some; sound = all_sound; complete = all_complete; stops = all_stops }

-- a token takes a byte at least, and what follows it is shorter
token_rest : (bytes : List ℕ) (t : ℕ) (rest : List ℕ) → token_in bytes ≡ Ok (t, rest) → length rest ≤ length bytes
token_rest bytes t rest e =
    let f = token.sound bytes t rest e in
    omega (arith, ap length f.whole, length-append f.front rest)

-- with no fewer turns than bytes, how many they are doesn't matter
prefixes_enough : (constrained : Bool) (n k : ℕ) (pinned : Bool) (bytes : List ℕ) → length bytes ≤ n → length bytes ≤ k → prefixes_in constrained n pinned bytes ≡ prefixes_in constrained k pinned bytes
unfolding prefixes_in prefix_in
prefixes_enough constrained zero zero pinned bytes a b = refl
prefixes_enough constrained zero (suc k) pinned [] a b = refl
prefixes_enough constrained zero (suc k) pinned (c ∷ bytes) a b = absurd (omega arith)
prefixes_enough constrained (suc n) zero pinned [] a b = refl
prefixes_enough constrained (suc n) zero pinned (c ∷ bytes) a b = absurd (omega arith)
prefixes_enough constrained (suc n) (suc k) pinned [] a b = refl
prefixes_enough constrained (suc n) (suc k) pinned (c ∷ bytes) a b =
    let tokens = after_token bytes (prefixes_in constrained n pinned) (prefixes_in constrained k pinned) (λ rest h. prefixes_enough constrained n k pinned rest (omega arith) (omega arith)) (token_in bytes) refl in
    let pins = prefixes_enough constrained n k true bytes (omega arith) (omega arith) in
    prefix_cond (go_on (prefixes_in constrained n) pinned (c ∷ bytes)) (is_modifier c) (constrained && is_pinned c) (token_in bytes) pinned bytes
    ∙ rw (tokens, pins) refl
    ∙ sym (prefix_cond (go_on (prefixes_in constrained k) pinned (c ∷ bytes)) (is_modifier c) (constrained && is_pinned c) (token_in bytes) pinned bytes)

shorter_by : (a b : Bool) (bytes : List ℕ) (m : Read ℕ) (pinned p : Bool) (rest : List ℕ) → token_in bytes ≡ m → ◌≡◌ {A = Result (Option (Bool × List ℕ)) ℕ} (cond a (m >>= λ t. Ok (Some (pinned, t.1))) (cond b (Ok (Some (true, bytes))) (Ok None))) (Ok (Some (p, rest))) → length rest ≤ length bytes
shorter_by true b bytes (Ok r) pinned p rest t e =
    let same : ◌≡◌ {A = Bool × List ℕ} (pinned, r.1) (p, rest) = cc in
    let h = token_rest bytes r.0 r.1 t in
    omega (arith, ap (λ v. length v.1) same)
shorter_by true b bytes (Err left) pinned p rest t e = absurd cc
shorter_by false true bytes m pinned p rest t e =
    let same : ◌≡◌ {A = Bool × List ℕ} (true, bytes) (p, rest) = cc in
    omega (arith, ap (λ v. length v.1) same)
shorter_by false false bytes m pinned p rest t e = absurd cc

pub prefix_shorter : (constrained pinned : Bool) (bytes : List ℕ) (p : Bool) (rest : List ℕ) → prefix_in constrained pinned bytes ≡ Ok (Some (p, rest)) → length rest < length bytes
unfolding prefix_in
prefix_shorter constrained pinned [] p rest e = absurd cc
prefix_shorter constrained pinned (c ∷ bytes) p rest e =
    let h = shorter_by (is_modifier c) (constrained && is_pinned c) bytes (token_in bytes) pinned p rest refl e in
    omega arith

err_at_end : (constrained pinned : Bool) (left : ℕ) → prefix_in constrained pinned [] ≡ Err left → ⊥
unfolding prefix_in
err_at_end constrained pinned left e = cc

-- one is read, and the others after it
pub prefix_next : (constrained pinned : Bool) (bytes : List ℕ) (p : Bool) (rest : List ℕ) → prefix_in constrained pinned bytes ≡ Ok (Some (p, rest)) → prefixes_in constrained (length bytes) pinned bytes ≡ prefixes_in constrained (length rest) p rest
unfolding prefixes_in
prefix_next constrained pinned [] p rest e = absurd (omega (arith, prefix_shorter constrained pinned [] p rest e))
prefix_next constrained pinned (c ∷ bytes) p rest e =
    let h = prefix_shorter constrained pinned (c ∷ bytes) p rest e in
    ap (λ m. m >>= go_on (prefixes_in constrained (length bytes)) pinned (c ∷ bytes)) e
    ∙ prefixes_enough constrained (length bytes) (length rest) p rest (omega arith) (omega arith)

pub prefix_none : (constrained pinned : Bool) (bytes : List ℕ) → prefix_in constrained pinned bytes ≡ Ok None → prefixes_in constrained (length bytes) pinned bytes ≡ Ok (pinned, bytes)
unfolding prefixes_in
prefix_none constrained pinned [] e = refl
prefix_none constrained pinned (c ∷ bytes) e = ap (λ m. m >>= go_on (prefixes_in constrained (length bytes)) pinned (c ∷ bytes)) e

pub prefix_err : (constrained pinned : Bool) (bytes : List ℕ) (left : ℕ) → prefix_in constrained pinned bytes ≡ Err left → prefixes_in constrained (length bytes) pinned bytes ≡ Err left
unfolding prefixes_in
prefix_err constrained pinned [] left e = absurd (err_at_end constrained pinned left e)
prefix_err constrained pinned (c ∷ bytes) left e = ap (λ m. m >>= go_on (prefixes_in constrained (length bytes)) pinned (c ∷ bytes)) e

pub prefix_refused : (e : Stop) (constrained pinned : Bool) (bytes : List ℕ) (m : Read Bool) → prefixes_in constrained (length bytes) pinned bytes ≡ m → Refuses left_at e (prefix_in constrained pinned bytes) → Refuses left_at e m
prefix_refused (stops.Left left) constrained pinned bytes m i r = sym i ∙ prefix_err constrained pinned bytes left r
prefix_refused stops.Memory constrained pinned bytes m i r = tt
