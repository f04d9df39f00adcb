-- Reading is the grammar: what is read is spelled, what is spelled is read, and what is refused is
-- refused where the grammar says.
use Rattle.std.proofs.Common.{◌≡◌, ℕ, suc, ◌+◌, ◌-◌, ◌<◌, ◌≤◌, ◌⊎◌, Bool, true, false, List, [], ◌∷◌, ◌++◌, length, take, drop, Option, Some, None, Result, Ok, Err, refl, sym, ap, ◌∙◌, inl, inr, arith, length-append, append_assoc}
use Rattle.std.specs.Prelude.{◌==◌}
use Rattle.std.proofs.Math.Seq.{take-append-add, take-append_seam}
use Rattle.std.proofs.lemmas.Bool.{eqb-true, cases_lt}
use Rattle.std.proofs.lemmas.List.{append-nil, take-append-drop}
use Rattle.marshal_spec.specs.declared.spec.Spec.{Spec}
use Rattle.marshal_spec.specs.declared.spec.Spec.TheVariants.{Plain, ByValText, ByValArray, LpArray}
use Rattle.marshal_spec.specs.NativeTypes.{is_plain, IsPlain, by_val_text, by_val_array, lp_array, no_element}
use Rattle.marshal_spec.specs.Grammar.{IsNumber, IsElement, AreNumbers, Spells, Begins, IsRefusedAt}
use Rattle.marshal_spec.specs.Grammar as grammar
use Rattle.marshal_spec.specs.Reading.{Reader, ended, text_rest, array_rest, is_element, element_of, numbers_rest, lp_array_rest, is_first, rest_after, spec_read, spec_of, value_of}
use Rattle.marshal_spec.specs.Laws.{ReadingIsTheGrammar, BytesSpellOne, RefusedByFront}
use Rattle.marshal_spec.proofs.Readers.{Good, Refusal, Ended, OrEnded, ByteThen, NumberThen, ended_good, if_ended_good, byte_then_good, number_then_good, byte_there, not_both, same_place, same_spec}

-- the four readers of the rest of a descriptor, with their languages

abbrev pub Text : List ℕ → Spec → Type 0
Text = NumberThen (λ n. Ended (ByValText n))

abbrev pub Array : List ℕ → Spec → Type 0
Array = NumberThen (λ n. OrEnded (ByValArray n None) (ByteThen is_plain (λ code. Ended (ByValArray n (Some code)))))

abbrev pub Flag : Option ℕ → ℕ → ℕ → List ℕ → Spec → Type 0
Flag element p c = NumberThen (λ f. Ended (LpArray element (Some p) (Some c) (Some f)))

abbrev pub Count : Option ℕ → ℕ → List ℕ → Spec → Type 0
Count element p = NumberThen (λ c. OrEnded (LpArray element (Some p) (Some c) None) (Flag element p c))

abbrev pub Parameter : Option ℕ → List ℕ → Spec → Type 0
Parameter element = NumberThen (λ p. OrEnded (LpArray element (Some p) None None) (Count element p))

abbrev pub Numbers : Option ℕ → List ℕ → Spec → Type 0
Numbers element = OrEnded (LpArray element None None None) (Parameter element)

abbrev pub Pointed : List ℕ → Spec → Type 0
Pointed = OrEnded (LpArray None None None None) (ByteThen is_element (λ code. Numbers (element_of code)))

text_good : Good text_rest Text
text_good = number_then_good _ _ (λ n. ended_good (ByValText n))

array_good : Good array_rest Array
array_good =
    number_then_good _ _ (λ n. if_ended_good (ByValArray n None) _ _
    (byte_then_good is_plain _ _ 0x02 refl (λ code. ended_good (ByValArray n (Some code)))))

numbers_good : (element : Option ℕ) → Good (numbers_rest element) (Numbers element)
numbers_good element =
    if_ended_good (LpArray element None None None) _ _
    (number_then_good _ _ (λ p. if_ended_good (LpArray element (Some p) None None) _ _
    (number_then_good _ _ (λ c. if_ended_good (LpArray element (Some p) (Some c) None) _ _
    (number_then_good _ _ (λ f. ended_good (LpArray element (Some p) (Some c) (Some f))))))))

pointed_good : Good lp_array_rest Pointed
pointed_good =
    if_ended_good (LpArray None None None None) _ _
    (byte_then_good is_element _ _ 0x50 refl (λ code. numbers_good (element_of code)))

-- what is of a language is spelled

text_ends : (n : ℕ) (count tail rest : List ℕ) (spec : Spec) → rest ≡ count ++ tail → IsNumber count n → Ended (ByValText n) tail spec → Spells (by_val_text ∷ rest) spec
text_ends n count [] rest spec whole number e =
    let same : rest ≡ count = whole ∙ append-nil count in
    rw (same, ← e) (grammar.text number)
text_ends n count (x ∷ xs) rest spec whole number e = absurd e

text_spells : (rest : List ℕ) (spec : Spec) → Text rest spec → Spells (by_val_text ∷ rest) spec
text_spells rest spec h = text_ends h.n h.count h.tail rest spec h.whole h.number h.then_

element_ends : (n : ℕ) (count : List ℕ) (code : ℕ) (tail : List ℕ) (spec : Spec) → IsNumber count n → IsPlain code → Ended (ByValArray n (Some code)) tail spec → Spells (by_val_array ∷ count ++ code ∷ tail) spec
element_ends n count code [] spec number plain e = rw (← e) (grammar.array_of count number plain)
element_ends n count code (x ∷ xs) spec number plain e = absurd e

array_ends : (n : ℕ) (count tail rest : List ℕ) (spec : Spec) → rest ≡ count ++ tail → IsNumber count n → OrEnded (ByValArray n None) (ByteThen is_plain (λ code. Ended (ByValArray n (Some code)))) tail spec → Spells (by_val_array ∷ rest) spec
array_ends n count [] rest spec whole number e =
    let same : rest ≡ count = whole ∙ append-nil count in
    rw (same, ← e) (grammar.array number)
array_ends n count (code ∷ xs) rest spec whole number e = rw whole (element_ends n count code xs spec number e.0 e.1)

array_spells : (rest : List ℕ) (spec : Spec) → Array rest spec → Spells (by_val_array ∷ rest) spec
array_spells rest spec h = array_ends h.n h.count h.tail rest spec h.whole h.number h.then_

flag_ends : (element : Option ℕ) (code p c f : ℕ) (one two three tail : List ℕ) (spec : Spec) → IsElement code element → IsNumber one p → IsNumber two c → IsNumber three f → Ended (LpArray element (Some p) (Some c) (Some f)) tail spec → Spells (lp_array ∷ code ∷ one ++ (two ++ (three ++ tail))) spec
flag_ends element code p c f one two three [] spec k a b d e =
    rw (← e, append-nil three) (grammar.pointed_of k (grammar.flagged one two three a b d))
flag_ends element code p c f one two three (x ∷ xs) spec k a b d e = absurd e

count_ends : (element : Option ℕ) (code p c : ℕ) (one two tail : List ℕ) (spec : Spec) → IsElement code element → IsNumber one p → IsNumber two c → OrEnded (LpArray element (Some p) (Some c) None) (Flag element p c) tail spec → Spells (lp_array ∷ code ∷ one ++ (two ++ tail)) spec
count_ends element code p c one two [] spec k a b e =
    rw (← e, append-nil two) (grammar.pointed_of k (grammar.counted one two a b))
count_ends element code p c one two (x ∷ xs) spec k a b h =
    rw h.whole (flag_ends element code p c h.n one two h.count h.tail spec k a b h.number h.then_)

parameter_ends : (element : Option ℕ) (code p : ℕ) (one tail : List ℕ) (spec : Spec) → IsElement code element → IsNumber one p → OrEnded (LpArray element (Some p) None None) (Count element p) tail spec → Spells (lp_array ∷ code ∷ one ++ tail) spec
parameter_ends element code p one [] spec k a e =
    rw (← e, append-nil one) (grammar.pointed_of k (grammar.parameter a))
parameter_ends element code p one (x ∷ xs) spec k a h =
    rw h.whole (count_ends element code p h.n one h.count h.tail spec k a h.number h.then_)

numbers_spell : (element : Option ℕ) (code : ℕ) (rest : List ℕ) (spec : Spec) → IsElement code element → Numbers element rest spec → Spells (lp_array ∷ code ∷ rest) spec
numbers_spell element code [] spec k e = rw (← e) (grammar.pointed_of k grammar.none)
numbers_spell element code (x ∷ xs) spec k h =
    rw h.whole (parameter_ends element code h.n h.count h.tail spec k h.number h.then_)

element_is_by : (code : ℕ) (t : Bool) → (code == no_element) ≡ t → is_element code ≡ true → IsElement code (element_of code)
element_is_by code true e passes =
    let same : code ≡ no_element = eqb-true code no_element e in
    rw e (rw same grammar.missing)
element_is_by code false e passes =
    let plain : IsPlain code = rw e at passes in
    rw e (grammar.given plain)

element_is : (code : ℕ) → is_element code ≡ true → IsElement code (element_of code)
element_is code passes = element_is_by code _ refl passes

pointed_spells : (rest : List ℕ) (spec : Spec) → Pointed rest spec → Spells (lp_array ∷ rest) spec
pointed_spells [] spec e = rw (← e) grammar.pointed
pointed_spells (code ∷ xs) spec h = numbers_spell (element_of code) code xs spec (element_is code h.0) h.1

-- what is spelled is of a language

no_empty_number : {A : Type 0} (n : ℕ) → IsNumber [] n → A
no_empty_number n e = absurd (cc)

or_ended_by : (spec : Spec) (L : ℕ → List ℕ → Spec → Type 0) (n : ℕ) (count tail : List ℕ) (other : Spec) → IsNumber count n → L n tail other → OrEnded spec (NumberThen L) (count ++ tail) other
or_ended_by spec L n [] tail other number h = no_empty_number n number
or_ended_by spec L n (x ∷ xs) tail other number h =
    record { n = n; count = x ∷ xs; tail = tail; whole = refl; number = number; then_ = h }

ended_number : (spec : Spec) (n : ℕ) (count : List ℕ) → IsNumber count n → (L : ℕ → List ℕ → Spec → Type 0) → L n [] spec → NumberThen L count spec
ended_number spec n count number L h =
    record { n = n; count = count; tail = []; whole = sym (append-nil count); number = number; then_ = h }

or_ended_number : (spec other : Spec) (n : ℕ) (count : List ℕ) → IsNumber count n → (L : ℕ → List ℕ → Spec → Type 0) → L n [] other → OrEnded spec (NumberThen L) count other
or_ended_number spec other n count number L h = rw (append-nil count) at (or_ended_by spec L n count [] other number h)

numbers_in : {rest : List ℕ} {p c f : Option ℕ} (element : Option ℕ) → AreNumbers rest p c f → Numbers element rest (LpArray element p c f)
numbers_in element grammar.none = refl
numbers_in element (grammar.parameter {one} {p} a) = or_ended_number _ _ p one a _ refl
numbers_in element (grammar.counted one two {p} {c} a b) =
    or_ended_by _ _ p one two _ a (or_ended_number _ _ c two b _ refl)
numbers_in element (grammar.flagged one two three {p} {c} {f} a b d) =
    or_ended_by _ _ p one (two ++ three) _ a (or_ended_by _ _ c two three _ b (or_ended_number _ _ f three d _ refl))

-- the first byte

first_there : (code : ℕ) (rest : List ℕ) → is_first code ≡ true → spec_read (code ∷ rest) ≡ rest_after code (code ∷ rest) 1
unfolding spec_read
first_there code rest e = rw (byte_there is_first [] code rest, e) refl

first_fits_not : (code : ℕ) (rest : List ℕ) → is_first code ≡ false → spec_read (code ∷ rest) ≡ Err 0
unfolding spec_read
first_fits_not code rest e = rw (byte_there is_first [] code rest, e) refl

-- a byte other than the three of descriptors with parts
record IsOther (code : ℕ) : Type 0 where
  text : (code == by_val_text) ≡ false
  array : (code == by_val_array) ≡ false
  pointed : (code == lp_array) ≡ false

other_reads : (code : ℕ) → IsOther code → rest_after code ≡ ended (Plain code)
other_reads code o = rw (o.text, o.array, o.pointed) refl

other_first : (code : ℕ) → IsOther code → is_first code ≡ is_plain code
other_first code o = rw (o.text, o.array, o.pointed) refl

not_plain : (code other : ℕ) (t : Bool) → (code == other) ≡ t → is_plain code ≡ true → is_plain other ≡ false → (code == other) ≡ false
not_plain code other true e holds never =
    let same : code ≡ other = eqb-true code other e in
    absurd (let plain_other : is_plain other ≡ true = rw (← same) holds in cc)
not_plain code other false e holds never = e

plain_is_other : (code : ℕ) → IsPlain code → IsOther code
plain_is_other code plain = record {
  text = not_plain code by_val_text _ refl plain refl;
  array = not_plain code by_val_array _ refl plain refl;
  pointed = not_plain code lp_array _ refl plain refl;
}

plain_reads : (code : ℕ) → IsPlain code → spec_read (code ∷ []) ≡ Ok (Plain code)
plain_reads code plain =
    let o = plain_is_other code plain in
    let first : is_first code ≡ true = other_first code o ∙ plain in
    first_there code [] first ∙ rw (other_reads code o) refl

element_in : {code : ℕ} {element : Option ℕ} → IsElement code element → (is_element code ≡ true) × (element_of code ≡ element)
element_in (grammar.given {code} plain) =
    let other : (code == no_element) ≡ false = not_plain code no_element _ refl plain refl in
    (rw other plain, rw other refl)
element_in grammar.missing = (refl, refl)

pointed_in : (code : ℕ) (rest : List ℕ) (element : Option ℕ) (spec : Spec) → IsElement code element → Numbers element rest spec → Pointed (code ∷ rest) spec
pointed_in code rest element spec k h = let e = element_in k in (e.0, rw e.1 h)

-- what is spelled is read
pub spelled_is_read : {bytes : List ℕ} {spec : Spec} → Spells bytes spec → spec_read bytes ≡ Ok spec
unfolding spec_read
spelled_is_read (grammar.plain {code} plain) = plain_reads code plain
spelled_is_read (grammar.text {count} {n} number) =
    first_there by_val_text count refl ∙ text_good.complete (by_val_text ∷ []) count (ByValText n) (ended_number _ n count number _ refl)
spelled_is_read (grammar.array {count} {n} number) =
    first_there by_val_array count refl ∙ array_good.complete (by_val_array ∷ []) count (ByValArray n None) (ended_number _ n count number _ refl)
spelled_is_read (grammar.array_of count {n} {code} number plain) =
    first_there by_val_array (count ++ code ∷ []) refl
    ∙ array_good.complete (by_val_array ∷ []) (count ++ code ∷ []) (ByValArray n (Some code))
    (record { n = n; count = count; tail = code ∷ []; whole = refl; number = number; then_ = (plain, refl) })
spelled_is_read grammar.pointed = refl
spelled_is_read (grammar.pointed_of {code} {rest} {element} {p} {c} {f} k numbers) =
    first_there lp_array (code ∷ rest) refl
    ∙ pointed_good.complete (lp_array ∷ []) (code ∷ rest) (LpArray element p c f)
    (pointed_in code rest element _ k (numbers_in element numbers))

-- what is read is spelled

-- what a first byte leads to
data Leads : ℕ → Type 0 where
  text : Leads by_val_text
  array : Leads by_val_array
  pointed : Leads lp_array
  plain : {code : ℕ} → IsOther code → IsPlain code → Leads code

leads_by : (code : ℕ) (a b c : Bool) → (code == by_val_text) ≡ a → (code == by_val_array) ≡ b → (code == lp_array) ≡ c → is_first code ≡ true → Leads code
leads_by code true b c e f g first = let same : code ≡ by_val_text = eqb-true code by_val_text e in rw same text
leads_by code false true c e f g first = let same : code ≡ by_val_array = eqb-true code by_val_array f in rw same array
leads_by code false false true e f g first = let same : code ≡ lp_array = eqb-true code lp_array g in rw same pointed
leads_by code false false false e f g first =
    let o : IsOther code = record { text = e; array = f; pointed = g } in
    plain o (sym (other_first code o) ∙ first)

plain_spells : (code : ℕ) (rest : List ℕ) (spec : Spec) → IsPlain code → Ended (Plain code) rest spec → Spells (code ∷ rest) spec
plain_spells code [] spec p e = rw (← e) (grammar.plain p)
plain_spells code (x ∷ xs) spec p e = absurd e

rest_spelled : {code : ℕ} (rest : List ℕ) (spec : Spec) → Leads code → rest_after code (code ∷ rest) 1 ≡ Ok spec → Spells (code ∷ rest) spec
rest_spelled rest spec text e = text_spells rest spec (text_good.sound (by_val_text ∷ []) rest spec e)
rest_spelled rest spec array e = array_spells rest spec (array_good.sound (by_val_array ∷ []) rest spec e)
rest_spelled rest spec pointed e = pointed_spells rest spec (pointed_good.sound (lp_array ∷ []) rest spec e)
rest_spelled rest spec (plain {code} o p) e =
    plain_spells code rest spec p ((ended_good (Plain code)).sound (code ∷ []) rest spec (rw (other_reads code o) at e))

read_by : (code : ℕ) (rest : List ℕ) (spec : Spec) (t : Bool) → is_first code ≡ t → spec_read (code ∷ rest) ≡ Ok spec → Spells (code ∷ rest) spec
read_by code rest spec true first e =
    rest_spelled rest spec (leads_by code _ _ _ refl refl refl first) (sym (first_there code rest first) ∙ e)
read_by code rest spec false first e = not_both _ _ _ e (first_fits_not code rest first)

pub read_is_spelled : (bytes : List ℕ) (spec : Spec) → spec_read bytes ≡ Ok spec → Spells bytes spec
unfolding spec_read
read_is_spelled [] spec e = absurd (cc)
read_is_spelled (code ∷ rest) spec e = read_by code rest spec _ refl e

-- where reading stops

record Stop (bytes : List ℕ) (place : ℕ) : Type 0 where
  front : List ℕ
  tail : List ℕ
  more : List ℕ
  spec : Spec
  whole : bytes ≡ front ++ tail
  place_is : place ≡ length front
  begins : Spells (front ++ more) spec
  alike : (t : ℕ) (ts us : List ℕ) → tail ≡ t ∷ ts → spec_read (front ++ t ∷ us) ≡ Err place

stop_after : (code : ℕ) (rest : List ℕ) (place : ℕ) (R : Reader) (L : List ℕ → Spec → Type 0) → is_first code ≡ true → rest_after code ≡ R → ((rest : List ℕ) (spec : Spec) → L rest spec → Spells (code ∷ rest) spec) → Refusal R L (code ∷ []) rest place → Stop (code ∷ rest) place
stop_after code rest place R L first reads spells r =
    record {
      front = code ∷ r.mid;
      tail = r.tail;
      more = r.more;
      spec = r.spec;
      whole = ap (λ (l : List ℕ). code ∷ l) r.whole;
      place_is = omega (arith, r.place_is);
      begins = spells (r.mid ++ r.more) r.spec r.begins;
      alike = λ t ts us e. first_there code (r.mid ++ t ∷ us) first ∙ rw reads (r.alike t ts us e);
    }

rest_stops : {code : ℕ} (rest : List ℕ) (place : ℕ) → Leads code → rest_after code (code ∷ rest) 1 ≡ Err place → Stop (code ∷ rest) place
rest_stops rest place text e =
    stop_after by_val_text rest place _ _ refl refl text_spells (text_good.refused (by_val_text ∷ []) rest place e)
rest_stops rest place array e =
    stop_after by_val_array rest place _ _ refl refl array_spells (array_good.refused (by_val_array ∷ []) rest place e)
rest_stops rest place pointed e =
    stop_after lp_array rest place _ _ refl refl pointed_spells (pointed_good.refused (lp_array ∷ []) rest place e)
rest_stops rest place (plain {code} o p) e =
    stop_after code rest place _ _ (other_first code o ∙ p) (other_reads code o) (λ rest spec h. plain_spells code rest spec p h)
    ((ended_good (Plain code)).refused (code ∷ []) rest place (rw (other_reads code o) at e))

stops_by : (code : ℕ) (rest : List ℕ) (place : ℕ) (t : Bool) → is_first code ≡ t → spec_read (code ∷ rest) ≡ Err place → Stop (code ∷ rest) place
stops_by code rest place true first e =
    rest_stops rest place (leads_by code _ _ _ refl refl refl first) (sym (first_there code rest first) ∙ e)
stops_by code rest place false first e =
    let none : 0 ≡ place = same_place _ _ (sym (first_fits_not code rest first) ∙ e) in
    record {
      front = [];
      tail = code ∷ rest;
      more = 0x02 ∷ [];
      spec = Plain 0x02;
      whole = refl;
      place_is = sym none;
      begins = grammar.plain refl;
      alike = λ t ts us f. let same : code ≡ t = first_same code t rest ts f in first_fits_not t us (rw (← same) first) ∙ ap (λ n. Err n) none;
    }
  where
    first_same : (x t : ℕ) (xs ts : List ℕ) → x ∷ xs ≡ t ∷ ts → x ≡ t
    first_same x t xs ts e = cc

stops : (bytes : List ℕ) (place : ℕ) → spec_read bytes ≡ Err place → Stop bytes place
unfolding spec_read
stops [] place e =
    record {
      front = [];
      tail = [];
      more = 0x02 ∷ [];
      spec = Plain 0x02;
      whole = refl;
      place_is = sym (same_place _ _ e);
      begins = grammar.plain refl;
      alike = λ t ts us f. absurd (let no : [] ≡ t ∷ ts = f in cc);
    }
stops (code ∷ rest) place e = stops_by code rest place _ refl e

-- the longest front with which something begins ends where reading stops

take_past : (front : List ℕ) (t : ℕ) (ts : List ℕ) (k : ℕ) → length front < k → take k (front ++ t ∷ ts) ≡ front ++ t ∷ take (k - length front - 1) ts
take_past front t ts k h =
    let size : k ≡ length front + suc (k - length front - 1) = omega arith in
    ap (λ n. take n (front ++ t ∷ ts)) size ∙ take-append-add front (t ∷ ts) (suc (k - length front - 1))

not_longer : (front tail : List ℕ) (place k : ℕ) → place ≡ length front → ((t : ℕ) (ts us : List ℕ) → tail ≡ t ∷ ts → spec_read (front ++ t ∷ us) ≡ Err place) → k ≤ length (front ++ tail) → Begins (take k (front ++ tail)) → place < k → ⊥
not_longer front [] place k is alike within b past = omega (arith, length-append front [])
not_longer front (t ∷ ts) place k is alike within b past =
    let cut : take k (front ++ t ∷ ts) ≡ front ++ t ∷ take (k - length front - 1) ts = take_past front t ts k (omega arith) in
    let whole : take k (front ++ t ∷ ts) ++ b.rest ≡ front ++ t ∷ (take (k - length front - 1) ts ++ b.rest) =
    ap (λ (l : List ℕ). l ++ b.rest) cut ∙ append_assoc front (t ∷ take (k - length front - 1) ts) b.rest in
    let read : spec_read (front ++ t ∷ (take (k - length front - 1) ts ++ b.rest)) ≡ Ok b.spec = rw (← whole) (spelled_is_read b.spells) in
    not_both _ _ _ read (alike t ts (take (k - length front - 1) ts ++ b.rest) refl)

stop_is_refusal : (bytes : List ℕ) (place : ℕ) → spec_read bytes ≡ Err place → Stop bytes place → IsRefusedAt bytes place
stop_is_refusal bytes place e s =
    record {
      nothing = λ spec spells. not_both _ _ _ (spelled_is_read spells) e;
      within = rw s.whole (omega (arith, s.place_is, length-append s.front s.tail));
      begins = record { spec = s.spec; rest = s.more; spells = rw (s.whole, s.place_is, take-append_seam s.front s.tail) s.begins };
      longest = λ k within b. not_above k within b (cases_lt place k);
    }
  where
    not_above : (k : ℕ) → k ≤ length bytes → Begins (take k bytes) → ((place < k) ⊎ (k ≤ place)) → k ≤ place
    not_above k within b (inl past) =
        absurd (not_longer s.front s.tail place k s.place_is s.alike (rw s.whole at within) (rw s.whole at b) past)
    not_above k within b (inr below) = below

pub refused_is_refused : (bytes : List ℕ) (place : ℕ) → spec_read bytes ≡ Err place → IsRefusedAt bytes place
refused_is_refused bytes place e = stop_is_refusal bytes place e (stops bytes place e)

-- a place of refusal is one
one_place : (bytes : List ℕ) (p q : ℕ) → IsRefusedAt bytes p → IsRefusedAt bytes q → p ≡ q
one_place bytes p q a b =
    let above : q ≤ p = a.longest q b.within b.begins in
    let below : p ≤ q = b.longest p a.within a.begins in
    omega arith

refused_by : (bytes : List ℕ) (place : ℕ) (r : Result Spec ℕ) → spec_read bytes ≡ r → IsRefusedAt bytes place → spec_read bytes ≡ Err place
refused_by bytes place (Ok spec) e h = absurd (h.nothing spec (read_is_spelled bytes spec e))
refused_by bytes place (Err q) e h =
    let same : q ≡ place = one_place bytes q place (refused_is_refused bytes q e) h in
    e ∙ ap (λ n. Err n) same

pub refusal_is_refused : (bytes : List ℕ) (place : ℕ) → IsRefusedAt bytes place → spec_read bytes ≡ Err place
refusal_is_refused bytes place h = refused_by bytes place _ refl h

-- the laws

option_of : (r : Result Spec ℕ) (spec : Spec) → value_of r ≡ Some spec → r ≡ Ok spec
option_of (Ok other) spec e = cc
option_of (Err place) spec e = absurd (cc)

pub reading_is_the_grammar : ReadingIsTheGrammar
unfolding spec_of
reading_is_the_grammar = record {
  spelled = λ bytes spec. (read_is_spelled bytes spec, spelled_is_read);
  refused = λ bytes place. (refused_is_refused bytes place, refusal_is_refused bytes place);
  option = λ bytes spec. (λ e. read_is_spelled bytes spec (option_of _ spec e), λ h. ap value_of (spelled_is_read h));
}

pub bytes_spell_one : BytesSpellOne
bytes_spell_one bytes one two a b = same_spec one two (sym (spelled_is_read a) ∙ spelled_is_read b)

alike_by : (bytes others front tail : List ℕ) (place : ℕ) → bytes ≡ front ++ tail → place ≡ length front → ((t : ℕ) (ts us : List ℕ) → tail ≡ t ∷ ts → spec_read (front ++ t ∷ us) ≡ Err place) → place < length bytes → take (place + 1) bytes ≡ take (place + 1) others → spec_read others ≡ Err place
alike_by bytes others front [] place whole is same before fronts =
    absurd (let size : length bytes ≡ length front + 0 = ap length whole ∙ length-append front [] in omega arith)
alike_by bytes others front (t ∷ ts) place whole is same before fronts =
    let first : take (place + 1) bytes ≡ front ++ t ∷ [] =
    rw (whole, is, take-append-add front (t ∷ ts) 1) refl in
    let cut : others ≡ front ++ t ∷ drop (place + 1) others =
    sym (take-append-drop (place + 1) others)
    ∙ ap (λ (l : List ℕ). l ++ drop (place + 1) others) (sym fronts ∙ first)
    ∙ append_assoc front (t ∷ []) (drop (place + 1) others) in
    rw cut (same t ts (drop (place + 1) others) refl)

pub refused_by_front : RefusedByFront
refused_by_front = record {
  within = λ bytes place h. h.within;
  alike = λ bytes others place h before fronts.
      let s = stops bytes place (refusal_is_refused bytes place h) in
      refused_is_refused others place (alike_by bytes others s.front s.tail place s.whole s.place_is s.alike before fronts);
}
