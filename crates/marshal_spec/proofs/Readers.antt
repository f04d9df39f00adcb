-- Readers that read a language: what they read is in it, what is in it is read, and a refusal is at
-- the end of the longest front with which something of the language begins.
use Rattle.std.proofs.Common.{◌≡◌, ℕ, ◌+◌, Bool, true, false, List, [], ◌∷◌, ◌++◌, length, Result, Ok, Err, refl, sym, ap, ◌∙◌, arith, length-append, add-zero, append_assoc}
use Rattle.std.specs.Prelude.{nat_le, if◌then◌else◌, slice_index}
use Rattle.std.proofs.Math.Seq.{get_or-append_seam}
use Rattle.std.proofs.lemmas.Bool.{le-leb, lt-leb}
use Rattle.byte_view.proofs.Reading.{bind_ok, bind_err}
use Rattle.marshal_spec.specs.declared.spec.Spec.{Spec}
use Rattle.marshal_spec.specs.Grammar.{IsNumber}
use Rattle.marshal_spec.specs.Reading.{Reader, ended, if_ended, byte_at, number_in, byte_then, number_then}
use Rattle.marshal_spec.proofs.Numbers.{before_end, at_end, number_stable, number_read, number_not_read}

pub record Refusal (R : Reader) (L : List ℕ → Spec → Type 0) (front rest : List ℕ) (place : ℕ) : Type 0 where
  pub mid : List ℕ
  pub tail : List ℕ
  pub more : List ℕ
  pub spec : Spec
  pub whole : rest ≡ mid ++ tail
  pub place_is : place ≡ length front + length mid
  pub begins : L (mid ++ more) spec
  pub alike : (t : ℕ) (ts us : List ℕ) → tail ≡ t ∷ ts → R (front ++ (mid ++ t ∷ us)) (length front) ≡ Err place

pub record Good (R : Reader) (L : List ℕ → Spec → Type 0) : Type 0 where
  pub sound : (front rest : List ℕ) (spec : Spec) → R (front ++ rest) (length front) ≡ Ok spec → L rest spec
  pub complete : (front rest : List ℕ) (spec : Spec) → L rest spec → R (front ++ rest) (length front) ≡ Ok spec
  pub refused : (front rest : List ℕ) (place : ℕ) → R (front ++ rest) (length front) ≡ Err place → Refusal R L front rest place
  pub sample : List ℕ
  pub sample_spec : Spec
  pub sample_in : L sample sample_spec

-- the end

pub at_the_end : (front : List ℕ) → nat_le (length (front ++ [])) (length front) ≡ true
at_the_end front = le-leb _ _ (omega (arith, length-append front []))

pub not_at_end : (front : List ℕ) (x : ℕ) (xs : List ℕ) → nat_le (length (front ++ x ∷ xs)) (length front) ≡ false
not_at_end front x xs = lt-leb _ _ (omega (arith, length-append front (x ∷ xs)))

ended_at_end : (spec : Spec) (front : List ℕ) → ended spec (front ++ []) (length front) ≡ Ok spec
ended_at_end spec front = rw (at_the_end front) refl

ended_before : (spec : Spec) (front : List ℕ) (x : ℕ) (xs : List ℕ) → ended spec (front ++ x ∷ xs) (length front) ≡ Err (length front)
ended_before spec front x xs = rw (not_at_end front x xs) refl

abbrev pub Ended : Spec → List ℕ → Spec → Type 0
Ended spec [] other = spec ≡ other
Ended spec (x ∷ xs) other = ⊥

pub same_spec : (a b : Spec) → ◌≡◌ {A = Result Spec ℕ} (Ok a) (Ok b) → a ≡ b
same_spec a b e = cc

pub same_place : (a b : ℕ) → ◌≡◌ {A = Result Spec ℕ} (Err a) (Err b) → a ≡ b
same_place a b e = cc

pub not_both : {A : Type 0} (r : Result Spec ℕ) (spec : Spec) (place : ℕ) → r ≡ Ok spec → r ≡ Err place → A
not_both r spec place e f = absurd (cc)

pub ended_good : (spec : Spec) → Good (ended spec) (Ended spec)
ended_good spec = record {
  sound = sound;
  complete = complete;
  refused = refused;
  sample = [];
  sample_spec = spec;
  sample_in = refl;
}
  where
    sound : (front rest : List ℕ) (other : Spec) → ended spec (front ++ rest) (length front) ≡ Ok other → Ended spec rest other
    sound front [] other e = same_spec _ _ (sym (ended_at_end spec front) ∙ e)
    sound front (x ∷ xs) other e = not_both _ _ _ e (ended_before spec front x xs)

    complete : (front rest : List ℕ) (other : Spec) → Ended spec rest other → ended spec (front ++ rest) (length front) ≡ Ok other
    complete front [] other e = ended_at_end spec front ∙ ap (λ s. Ok s) e
    complete front (x ∷ xs) other e = absurd e

    refused : (front rest : List ℕ) (place : ℕ) → ended spec (front ++ rest) (length front) ≡ Err place → Refusal (ended spec) (Ended spec) front rest place
    refused front [] place e = not_both _ _ _ (ended_at_end spec front) e
    refused front (x ∷ xs) place e =
        let here : length front ≡ place = same_place _ _ (sym (ended_before spec front x xs) ∙ e) in
        record {
          mid = [];
          tail = x ∷ xs;
          more = [];
          spec = spec;
          whole = refl;
          place_is = sym here ∙ sym (add-zero (length front));
          begins = refl;
          alike = λ t ts us same. ended_before spec front t us ∙ ap (λ n. Err n) here;
        }

-- perhaps the end

abbrev pub OrEnded : Spec → (List ℕ → Spec → Type 0) → List ℕ → Spec → Type 0
OrEnded spec L [] other = spec ≡ other
OrEnded spec L (x ∷ xs) other = L (x ∷ xs) other

if_at_end : (spec : Spec) (R : Reader) (front : List ℕ) → if_ended spec R (front ++ []) (length front) ≡ Ok spec
if_at_end spec R front = rw (at_the_end front) refl

if_before : (spec : Spec) (R : Reader) (front : List ℕ) (x : ℕ) (xs : List ℕ) → if_ended spec R (front ++ x ∷ xs) (length front) ≡ R (front ++ x ∷ xs) (length front)
if_before spec R front x xs = rw (not_at_end front x xs) refl

pub if_ended_good : (spec : Spec) (R : Reader) (L : List ℕ → Spec → Type 0) → Good R L → Good (if_ended spec R) (OrEnded spec L)
if_ended_good spec R L good = record {
  sound = sound;
  complete = complete;
  refused = refused;
  sample = [];
  sample_spec = spec;
  sample_in = refl;
}
  where
    sound : (front rest : List ℕ) (other : Spec) → if_ended spec R (front ++ rest) (length front) ≡ Ok other → OrEnded spec L rest other
    sound front [] other e = same_spec _ _ (sym (if_at_end spec R front) ∙ e)
    sound front (x ∷ xs) other e = good.sound front (x ∷ xs) other (sym (if_before spec R front x xs) ∙ e)

    complete : (front rest : List ℕ) (other : Spec) → OrEnded spec L rest other → if_ended spec R (front ++ rest) (length front) ≡ Ok other
    complete front [] other e = if_at_end spec R front ∙ ap (λ s. Ok s) e
    complete front (x ∷ xs) other e = if_before spec R front x xs ∙ good.complete front (x ∷ xs) other e

    -- alike, whether or not anything of the rest was taken
    alike : (front mid : List ℕ) (t : ℕ) (us : List ℕ) (place : ℕ) → R (front ++ (mid ++ t ∷ us)) (length front) ≡ Err place → if_ended spec R (front ++ (mid ++ t ∷ us)) (length front) ≡ Err place
    alike front [] t us place e = if_before spec R front t us ∙ e
    alike front (m ∷ mid) t us place e = if_before spec R front m (mid ++ t ∷ us) ∙ e

    made : (front : List ℕ) (x : ℕ) (xs mid tail more : List ℕ) (other : Spec) (place : ℕ) → x ∷ xs ≡ mid ++ tail → place ≡ length front + length mid → L (mid ++ more) other → ((t : ℕ) (ts us : List ℕ) → tail ≡ t ∷ ts → R (front ++ (mid ++ t ∷ us)) (length front) ≡ Err place) → Refusal (if_ended spec R) (OrEnded spec L) front (x ∷ xs) place
    made front x xs [] tail more other place whole place_is begins same =
        record {
          mid = [];
          tail = tail;
          more = [];
          spec = spec;
          whole = whole;
          place_is = place_is;
          begins = refl;
          alike = λ t ts us e. alike front [] t us place (same t ts us e);
        }
    made front x xs (m ∷ mid) tail more other place whole place_is begins same =
        record {
          mid = m ∷ mid;
          tail = tail;
          more = more;
          spec = other;
          whole = whole;
          place_is = place_is;
          begins = begins;
          alike = λ t ts us e. alike front (m ∷ mid) t us place (same t ts us e);
        }

    refused : (front rest : List ℕ) (place : ℕ) → if_ended spec R (front ++ rest) (length front) ≡ Err place → Refusal (if_ended spec R) (OrEnded spec L) front rest place
    refused front [] place e = not_both _ _ _ (if_at_end spec R front) e
    refused front (x ∷ xs) place e =
        let r = good.refused front (x ∷ xs) place (sym (if_before spec R front x xs) ∙ e) in
        made front x xs r.mid r.tail r.more r.spec place r.whole r.place_is r.begins r.alike

-- a byte

abbrev pub ByteThen : (ℕ → Bool) → (ℕ → List ℕ → Spec → Type 0) → List ℕ → Spec → Type 0
ByteThen passes L [] spec = ⊥
ByteThen passes L (x ∷ xs) spec = (passes x ≡ true) × L x xs spec

pub byte_there : (passes : ℕ → Bool) (front : List ℕ) (x : ℕ) (xs : List ℕ) → byte_at passes (front ++ x ∷ xs) (length front) ≡ (if passes x then Ok (x, length front + 1) else Err (length front))
byte_there passes front x xs =
    let here : slice_index (front ++ x ∷ xs) (length front) ≡ x = get_or-append_seam front x xs 0 in
    rw (before_end front x xs, here) refl

pub byte_missing : (passes : ℕ → Bool) (front : List ℕ) → byte_at passes (front ++ []) (length front) ≡ Err (length front)
byte_missing passes front = rw (at_end front) refl

pub one_more : (front : List ℕ) (x : ℕ) → length front + 1 ≡ length (front ++ x ∷ [])
one_more front x = omega (arith, length-append front (x ∷ []))

pub byte_then_good : (passes : ℕ → Bool) (K : ℕ → Reader) (L : ℕ → List ℕ → Spec → Type 0) (sample : ℕ) → passes sample ≡ true → ((x : ℕ) → Good (K x) (L x)) → Good (byte_then passes K) (ByteThen passes L)
byte_then_good passes K L sample ok good = record {
  sound = sound;
  complete = complete;
  refused = refused;
  sample = sample ∷ (good sample).sample;
  sample_spec = (good sample).sample_spec;
  sample_in = (ok, (good sample).sample_in);
}
  where
    goes_on : (front : List ℕ) (x : ℕ) (xs : List ℕ) → passes x ≡ true → byte_then passes K (front ++ x ∷ xs) (length front) ≡ K x ((front ++ x ∷ []) ++ xs) (length (front ++ x ∷ []))
    goes_on front x xs e =
        let whole : (front ++ x ∷ []) ++ xs ≡ front ++ x ∷ xs = append_assoc front (x ∷ []) xs in
        rw (byte_there passes front x xs, e, one_more front x, whole) refl

    stops : (front : List ℕ) (x : ℕ) (xs : List ℕ) → passes x ≡ false → byte_then passes K (front ++ x ∷ xs) (length front) ≡ Err (length front)
    stops front x xs e = rw (byte_there passes front x xs, e) refl

    missing : (front : List ℕ) → byte_then passes K (front ++ []) (length front) ≡ Err (length front)
    missing front = rw (byte_missing passes front) refl

    sound_at : (front : List ℕ) (x : ℕ) (xs : List ℕ) (spec : Spec) (t : Bool) → passes x ≡ t → byte_then passes K (front ++ x ∷ xs) (length front) ≡ Ok spec → ByteThen passes L (x ∷ xs) spec
    sound_at front x xs spec true t e = (t, (good x).sound (front ++ x ∷ []) xs spec (sym (goes_on front x xs t) ∙ e))
    sound_at front x xs spec false t e = not_both _ _ _ e (stops front x xs t)

    sound : (front rest : List ℕ) (spec : Spec) → byte_then passes K (front ++ rest) (length front) ≡ Ok spec → ByteThen passes L rest spec
    sound front [] spec e = not_both _ _ _ e (missing front)
    sound front (x ∷ xs) spec e = sound_at front x xs spec _ refl e

    complete : (front rest : List ℕ) (spec : Spec) → ByteThen passes L rest spec → byte_then passes K (front ++ rest) (length front) ≡ Ok spec
    complete front [] spec h = absurd h
    complete front (x ∷ xs) spec h = goes_on front x xs h.0 ∙ (good x).complete (front ++ x ∷ []) xs spec h.1

    here : (front rest : List ℕ) (place : ℕ) → length front ≡ place → ((t : ℕ) (ts us : List ℕ) → rest ≡ t ∷ ts → byte_then passes K (front ++ t ∷ us) (length front) ≡ Err (length front)) → Refusal (byte_then passes K) (ByteThen passes L) front rest place
    here front rest place e same =
        record {
          mid = [];
          tail = rest;
          more = sample ∷ (good sample).sample;
          spec = (good sample).sample_spec;
          whole = refl;
          place_is = sym e ∙ sym (add-zero (length front));
          begins = (ok, (good sample).sample_in);
          alike = λ t ts us f. same t ts us f ∙ ap (λ n. Err n) e;
        }

    first_same : (x t : ℕ) (xs ts : List ℕ) → x ∷ xs ≡ t ∷ ts → x ≡ t
    first_same x t xs ts e = cc

    no_first : {A : Type 0} (t : ℕ) (ts : List ℕ) → [] ≡ t ∷ ts → A
    no_first t ts e = absurd (cc)

    refused_at : (front : List ℕ) (x : ℕ) (xs : List ℕ) (place : ℕ) (t : Bool) → passes x ≡ t → byte_then passes K (front ++ x ∷ xs) (length front) ≡ Err place → Refusal (byte_then passes K) (ByteThen passes L) front (x ∷ xs) place
    refused_at front x xs place true t e =
        let r = (good x).refused (front ++ x ∷ []) xs place (sym (goes_on front x xs t) ∙ e) in
        record {
          mid = x ∷ r.mid;
          tail = r.tail;
          more = r.more;
          spec = r.spec;
          whole = ap (λ (l : List ℕ). x ∷ l) r.whole;
          place_is = omega (arith, r.place_is, one_more front x);
          begins = (t, r.begins);
          alike = λ u us vs f. goes_on front x (r.mid ++ u ∷ vs) t ∙ r.alike u us vs f;
        }
    refused_at front x xs place false t e =
        here front (x ∷ xs) place (same_place _ _ (sym (stops front x xs t) ∙ e))
        (λ u us vs f. let same : x ≡ u = first_same x u xs us f in stops front u vs (rw (← same) t))

    refused : (front rest : List ℕ) (place : ℕ) → byte_then passes K (front ++ rest) (length front) ≡ Err place → Refusal (byte_then passes K) (ByteThen passes L) front rest place
    refused front [] place e = here front [] place (same_place _ _ (sym (missing front) ∙ e)) (λ u us vs f. no_first u us f)
    refused front (x ∷ xs) place e = refused_at front x xs place _ refl e

-- a number

pub record NumberThen (L : ℕ → List ℕ → Spec → Type 0) (rest : List ℕ) (spec : Spec) : Type 0 where
  pub n : ℕ
  pub count : List ℕ
  pub tail : List ℕ
  pub whole : rest ≡ count ++ tail
  pub number : IsNumber count n
  pub then_ : L n tail spec

pub number_then_good : (K : ℕ → Reader) (L : ℕ → List ℕ → Spec → Type 0) → ((n : ℕ) → Good (K n) (L n)) → Good (number_then K) (NumberThen L)
number_then_good K L good = record {
  sound = sound;
  complete = complete;
  refused = refused;
  sample = (0 ∷ []) ++ (good 0).sample;
  sample_spec = (good 0).sample_spec;
  sample_in = record { n = 0; count = 0 ∷ []; tail = (good 0).sample; whole = refl; number = refl; then_ = (good 0).sample_in };
}
  where
    goes_on : (front count tail : List ℕ) (n : ℕ) → IsNumber count n → number_then K (front ++ (count ++ tail)) (length front) ≡ K n ((front ++ count) ++ tail) (length (front ++ count))
    goes_on front count tail n e =
        let whole : (front ++ count) ++ tail ≡ front ++ (count ++ tail) = append_assoc front count tail in
        rw (number_stable front count tail n e, whole) refl

    sound : (front rest : List ℕ) (spec : Spec) → number_then K (front ++ rest) (length front) ≡ Ok spec → NumberThen L rest spec
    sound front rest spec e =
        let b = bind_ok (number_in (front ++ rest) (length front)) (λ x. K x.0 (front ++ rest) x.1) spec e in
        let r = number_read front rest b.0.0 b.0.1 b.1 in
        let again : number_then K (front ++ (r.count ++ r.tail)) (length front) ≡ Ok spec = rw (← r.whole) e in
        record {
          n = b.0.0;
          count = r.count;
          tail = r.tail;
          whole = r.whole;
          number = r.number;
          then_ = (good b.0.0).sound (front ++ r.count) r.tail spec (sym (goes_on front r.count r.tail b.0.0 r.number) ∙ again);
        }

    complete : (front rest : List ℕ) (spec : Spec) → NumberThen L rest spec → number_then K (front ++ rest) (length front) ≡ Ok spec
    complete front rest spec h =
        rw h.whole (goes_on front h.count h.tail h.n h.number ∙ (good h.n).complete (front ++ h.count) h.tail spec h.then_)

    unread : (front rest : List ℕ) (place : ℕ) → number_in (front ++ rest) (length front) ≡ Err place → Refusal (number_then K) (NumberThen L) front rest place
    unread front rest place e =
        let r = number_not_read front rest place e in
        let g = good r.cut.n in
        record {
          mid = r.cut.mid;
          tail = r.cut.tail;
          more = r.cut.more ++ g.sample;
          spec = g.sample_spec;
          whole = r.cut.whole;
          place_is = r.place_is;
          begins = record {
            n = r.cut.n;
            count = r.cut.mid ++ r.cut.more;
            tail = g.sample;
            whole = sym (append_assoc r.cut.mid r.cut.more g.sample);
            number = r.cut.begins;
            then_ = g.sample_in;
          };
          alike = λ t ts us f. bind_err _ _ place (r.alike t ts us f);
        }

    after : (front count tail : List ℕ) (n place : ℕ) → IsNumber count n → number_then K (front ++ (count ++ tail)) (length front) ≡ Err place → Refusal (number_then K) (NumberThen L) front (count ++ tail) place
    after front count tail n place number e =
        let r = (good n).refused (front ++ count) tail place (sym (goes_on front count tail n number) ∙ e) in
        let sizes : length (count ++ r.mid) ≡ length count + length r.mid = length-append count r.mid in
        let fronts : length (front ++ count) ≡ length front + length count = length-append front count in
        record {
          mid = count ++ r.mid;
          tail = r.tail;
          more = r.more;
          spec = r.spec;
          whole = ap (λ (l : List ℕ). count ++ l) r.whole ∙ sym (append_assoc count r.mid r.tail);
          place_is = omega (arith, r.place_is, sizes, fronts);
          begins = record { n = n; count = count; tail = r.mid ++ r.more; whole = append_assoc count r.mid r.more; number = number; then_ = r.begins };
          alike = λ t ts us f.
              let same : front ++ ((count ++ r.mid) ++ t ∷ us) ≡ front ++ (count ++ (r.mid ++ t ∷ us)) = ap (λ (l : List ℕ). front ++ l) (append_assoc count r.mid (t ∷ us)) in
              rw same (goes_on front count (r.mid ++ t ∷ us) n number ∙ r.alike t ts us f);
        }

    refused_by : (front rest : List ℕ) (place : ℕ) (r : Result (ℕ × ℕ) ℕ) → number_in (front ++ rest) (length front) ≡ r → number_then K (front ++ rest) (length front) ≡ Err place → Refusal (number_then K) (NumberThen L) front rest place
    refused_by front rest place (Ok x) f e =
        let r = number_read front rest x.0 x.1 f in
        let again : number_then K (front ++ (r.count ++ r.tail)) (length front) ≡ Err place = rw (← r.whole) e in
        rw r.whole (after front r.count r.tail x.0 place r.number again)
    refused_by front rest place (Err d) f e =
        unread front rest place (f ∙ ap (λ n. Err n) (same_place _ _ (sym (bind_err _ _ d f) ∙ e)))

    refused : (front rest : List ℕ) (place : ℕ) → number_then K (front ++ rest) (length front) ≡ Err place → Refusal (number_then K) (NumberThen L) front rest place
    refused front rest place e = refused_by front rest place _ refl e
