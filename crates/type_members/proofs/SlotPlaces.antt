-- Slots as they stand in a list, and what becomes of them there.
use Rattle.std.proofs.Common.{◌≡◌, ℕ, zero, suc, ◌+◌, ◌<◌, ◌≤◌, Bool, true, false, cond, ◌&&◌, ◌||◌, List, [], ◌∷◌, ◌++◌, length, map, reverse, take, drop, get_or, slice_set, refl, sym, ap, ◌∙◌, arith}
use Rattle.std.specs.Prelude.{filter, fold}
use Rattle.std.specs.List.{list_any}
use Rattle.std.proofs.lemmas.List.{map-append, reverse-append}
use Rattle.std.proofs.lemmas.List.Elements.{filter-append}
use Rattle.std.proofs.lemmas.List.Folds.{list_any-append}
use Rattle.std.proofs.lemmas.List.Sums.{fold-append}
use Rattle.type_model.specs.Module.{Module}
use Rattle.type_members.specs.declared.member.Member.{Member}
use Rattle.type_members.specs.declared.slots.Slot.{Slot as CodeSlot}
use Rattle.type_members.specs.Chosen.{Slot, slot_of, take_place}
use Rattle.type_members.specs.Akin.{like, taken, place_for}
use Rattle.type_members.specs.View.{view_slot, view_slots}

pub last_first : {A : Type 0} (xs : List A) (x : A) → reverse (xs ++ x ∷ []) ≡ x ∷ reverse xs
last_first xs x = reverse-append xs (x ∷ [])

or_turned : (a b : Bool) → (a || (b || false)) ≡ (b || a)
or_turned true true = refl
or_turned true false = refl
or_turned false true = refl
or_turned false false = refl

pub any_reverse : {A : Type 0} (p : A → Bool) (xs : List A) → list_any p (reverse xs) ≡ list_any p xs
any_reverse p [] = refl
any_reverse p (x ∷ xs) =
    ap (list_any p) (reverse-append (x ∷ []) xs) ∙ list_any-append p (reverse xs) (x ∷ [])
    ∙ or_turned (list_any p (reverse xs)) (p x) ∙ ap (λ (b : Bool). p x || b) (any_reverse p xs)

pub one_more_slot : (slots : List CodeSlot) (slot : CodeSlot) → view_slots (slots ++ slot ∷ []) ≡ view_slots slots ++ view_slot slot ∷ []
one_more_slot slots slot = map-append view_slot slots (slot ∷ [])

module _ (m : Module) (x : Member) where
  pub place_here : (slots : List CodeSlot) (k : ℕ) (d : CodeSlot) → k < length slots → like m (get_or slots k d).first x ≡ true
      → place_for m x (view_slots (drop k slots)) ≡ 0
  place_here [] k d within is = absurd (omega (arith, within))
  place_here (s ∷ slots) zero d within is = ap (λ (b : Bool). cond b 0 (suc (place_for m x (view_slots slots)))) is
  place_here (s ∷ slots) (suc k) d within is = place_here slots k d (omega (arith, within)) is

  pub place_next : (slots : List CodeSlot) (k next : ℕ) (d : CodeSlot) → next ≡ k + 1 → k < length slots → like m (get_or slots k d).first x ≡ false
      → place_for m x (view_slots (drop k slots)) ≡ suc (place_for m x (view_slots (drop next slots)))
  place_next [] k next d after within is = absurd (omega (arith, within))
  place_next (s ∷ slots) zero zero d after within is = absurd (omega (arith, after))
  place_next (s ∷ slots) zero (suc zero) d after within is = ap (λ (b : Bool). cond b 0 (suc (place_for m x (view_slots slots)))) is
  place_next (s ∷ slots) zero (suc (suc n)) d after within is = absurd (omega (arith, after))
  place_next (s ∷ slots) (suc k) zero d after within is = absurd (omega (arith, after))
  place_next (s ∷ slots) (suc k) (suc next) d after within is = place_next slots k next d (omega (arith, after)) (omega (arith, within)) is

  pub place_end : (slots : List CodeSlot) (k : ℕ) → length slots ≤ k → place_for m x (view_slots (drop k slots)) ≡ 0
  place_end [] zero past = refl
  place_end [] (suc k) past = refl
  place_end (s ∷ slots) zero past = absurd (omega (arith, past))
  place_end (s ∷ slots) (suc k) past = place_end slots k (omega (arith, past))

  taken_if : (slot s : CodeSlot) (slots : List CodeSlot) (k : ℕ) (d : CodeSlot) (b : Bool) → like m slot.first x ≡ b
      → k ≡ cond b 0 (suc (place_for m x (view_slots slots))) → k < suc (length slots)
      → view_slot s ≡ taken (view_slot (get_or (slot ∷ slots) k d)) x
      → ((j : ℕ) → j ≡ place_for m x (view_slots slots) → j < length slots → view_slot s ≡ taken (view_slot (get_or slots j d)) x
      → view_slots (slice_set slots j s) ≡ take_place m x (view_slots slots))
      → view_slots (slice_set (slot ∷ slots) k s) ≡ cond b (taken (view_slot slot) x ∷ view_slots slots) (view_slot slot ∷ take_place m x (view_slots slots))
  taken_if slot s slots zero d true is at within new rest = ap (λ (t : Slot). t ∷ view_slots slots) new
  taken_if slot s slots (suc k) d true is at within new rest = absurd (omega (arith, at))
  taken_if slot s slots zero d false is at within new rest = absurd (omega (arith, at))
  taken_if slot s slots (suc k) d false is at within new rest =
      ap (λ (ts : List Slot). view_slot slot ∷ ts) (rest k (omega (arith, at)) (omega (arith, within)) new)

  pub taken_at : (slots : List CodeSlot) (s : CodeSlot) (k : ℕ) (d : CodeSlot) → k ≡ place_for m x (view_slots slots) → k < length slots
      → view_slot s ≡ taken (view_slot (get_or slots k d)) x → view_slots (slice_set slots k s) ≡ take_place m x (view_slots slots)
  taken_at [] s k d at within new = absurd (omega (arith, within))
  taken_at (slot ∷ slots) s k d at within new =
      taken_if slot s slots k d (like m slot.first x) refl at within new (λ j at within new. taken_at slots s j d at within new)

  begun_if : (slot : CodeSlot) (slots : List CodeSlot) (b : Bool) → like m slot.first x ≡ b
      → suc (length slots) ≤ cond b 0 (suc (place_for m x (view_slots slots)))
      → (length slots ≤ place_for m x (view_slots slots) → take_place m x (view_slots slots) ≡ view_slots slots ++ slot_of x ∷ [])
      → cond b (taken (view_slot slot) x ∷ view_slots slots) (view_slot slot ∷ take_place m x (view_slots slots))
      ≡ view_slot slot ∷ (view_slots slots ++ slot_of x ∷ [])
  begun_if slot slots true is past rest = absurd (omega (arith, past))
  begun_if slot slots false is past rest = ap (λ (ts : List Slot). view_slot slot ∷ ts) (rest (omega (arith, past)))

  pub begun_after : (slots : List CodeSlot) → length slots ≤ place_for m x (view_slots slots)
      → take_place m x (view_slots slots) ≡ view_slots slots ++ slot_of x ∷ []
  begun_after [] past = refl
  begun_after (slot ∷ slots) past = begun_if slot slots (like m slot.first x) refl past (begun_after slots)

  pub begun_at : (slots : List CodeSlot) (s : CodeSlot) (k : ℕ) → k ≡ place_for m x (view_slots slots) → length slots ≤ k
      → view_slot s ≡ slot_of x → view_slots (slots ++ s ∷ []) ≡ take_place m x (view_slots slots)
  begun_at slots s k at past new =
      one_more_slot slots s ∙ ap (λ (t : Slot). view_slots slots ++ t ∷ []) new
      ∙ sym (begun_after slots (omega (arith, at, past)))

module _ {A B : Type 0} (f : B → A → B) (p : A → Bool) where
  -- one more of those that pass a test
  pub folded_more : (a b c : B) (ys : List A) (y : A) → b ≡ fold f a (filter p ys) → c ≡ fold f b (filter p (y ∷ []))
      → c ≡ fold f a (filter p (ys ++ y ∷ []))
  folded_more a b c ys y before after =
      after ∙ ap (λ (b : B). fold f b (filter p (y ∷ []))) before
      ∙ sym (ap (fold f a) (filter-append p ys (y ∷ [])) ∙ fold-append f a (filter p ys) (filter p (y ∷ [])))

filtered_if : {A : Type 0} (p q : A → Bool) (x : A) (xs : List A) (b : Bool) → p x ≡ b → filter q (filter p xs) ≡ filter (λ z. p z && q z) xs
    → filter q (cond b (x ∷ filter p xs) (filter p xs)) ≡ cond (b && q x) (x ∷ filter (λ z. p z && q z) xs) (filter (λ z. p z && q z) xs)
filtered_if p q x xs true is rest = ap (λ (r : List _). cond (q x) (x ∷ r) r) rest
filtered_if p q x xs false is rest = rest

pub filtered_twice : {A : Type 0} (p q : A → Bool) (xs : List A) → filter q (filter p xs) ≡ filter (λ z. p z && q z) xs
filtered_twice p q [] = refl
filtered_twice p q (x ∷ xs) = filtered_if p q x xs (p x) refl (filtered_twice p q xs)

-- a list from a place on
pub opened : {A : Type 0} (rows : List A) (k next : ℕ) (d : A) → next ≡ k + 1 → k < length rows → drop k rows ≡ get_or rows k d ∷ drop next rows
opened [] k next d after within = absurd (omega (arith, within))
opened (x ∷ rows) zero zero d after within = absurd (omega (arith, after))
opened (x ∷ rows) zero (suc zero) d after within = refl
opened (x ∷ rows) zero (suc (suc n)) d after within = absurd (omega (arith, after))
opened (x ∷ rows) (suc k) zero d after within = absurd (omega (arith, after))
opened (x ∷ rows) (suc k) (suc next) d after within = opened rows k next d (omega (arith, after)) (omega (arith, within))

module _ {A B : Type 0} (f : B → A → B) (p : A → Bool) where
  last_if : (a : B) (x : A) (xs : List A) (b : Bool) → p x ≡ b
      → cond b (f (fold f a (reverse (filter p xs))) x) (fold f a (reverse (filter p xs)))
      ≡ fold f a (reverse (cond b (x ∷ filter p xs) (filter p xs)))
  last_if a x xs true is =
      sym (ap (fold f a) (reverse-append (x ∷ []) (filter p xs)) ∙ fold-append f a (reverse (filter p xs)) (x ∷ []))
  last_if a x xs false is = refl

  -- from the last row that passes a test to the first
  pub back_more : (a b c : B) (rows : List A) (k next : ℕ) (d : A) → next ≡ k + 1 → k < length rows
      → b ≡ fold f a (reverse (filter p (drop next rows))) → c ≡ cond (p (get_or rows k d)) (f b (get_or rows k d)) b
      → c ≡ fold f a (reverse (filter p (drop k rows)))
  back_more a b c rows k next d after within before now =
      now ∙ ap (λ (b : B). cond (p (get_or rows k d)) (f b (get_or rows k d)) b) before
      ∙ last_if a (get_or rows k d) (drop next rows) (p (get_or rows k d)) refl
      ∙ sym (ap (λ (xs : List A). fold f a (reverse (filter p xs))) (opened rows k next d after within))

  pub back_none : (a : B) (rows : List A) (k : ℕ) → length rows ≤ k → a ≡ fold f a (reverse (filter p (drop k rows)))
  back_none a [] zero past = refl
  back_none a [] (suc k) past = refl
  back_none a (x ∷ rows) zero past = absurd (omega (arith, past))
  back_none a (x ∷ rows) (suc k) past = back_none a rows k (omega (arith, past))

module _ {A : Type 0} (f : A → A) where
  set_list : (ws : List A) (k next : ℕ) (d : A) → next ≡ k + 1 → k < length ws
      → slice_set (map f (take k ws) ++ drop k ws) k (f (get_or ws k d)) ≡ map f (take next ws) ++ drop next ws
  set_list [] k next d after within = absurd (omega (arith, within))
  set_list (w ∷ ws) zero zero d after within = absurd (omega (arith, after))
  set_list (w ∷ ws) zero (suc zero) d after within = refl
  set_list (w ∷ ws) zero (suc (suc n)) d after within = absurd (omega (arith, after))
  set_list (w ∷ ws) (suc k) zero d after within = absurd (omega (arith, after))
  set_list (w ∷ ws) (suc k) (suc next) d after within = ap (λ (us : List A). f w ∷ us) (set_list ws k next d (omega (arith, after)) (omega (arith, within)))

  get_list : (ws : List A) (k : ℕ) (d : A) → k < length ws → get_or (map f (take k ws) ++ drop k ws) k d ≡ get_or ws k d
  get_list [] k d within = absurd (omega (arith, within))
  get_list (w ∷ ws) zero d within = refl
  get_list (w ∷ ws) (suc k) d within = get_list ws k d (omega (arith, within))

  pub set_more : (ws us : List A) (k next : ℕ) (d w : A) → next ≡ k + 1 → k < length ws → us ≡ map f (take k ws) ++ drop k ws
      → w ≡ f (get_or us k d) → slice_set us k w ≡ map f (take next ws) ++ drop next ws
  set_more ws us k next d w after within before new =
      ap (λ (w : A). slice_set us k w) (new ∙ ap (λ (us : List A). f (get_or us k d)) before ∙ ap f (get_list ws k d within))
      ∙ ap (λ (us : List A). slice_set us k (f (get_or ws k d))) before
      ∙ set_list ws k next d after within

view_set : (slots : List CodeSlot) (k : ℕ) (s : CodeSlot) → view_slots (slice_set slots k s) ≡ slice_set (view_slots slots) k (view_slot s)
view_set [] k s = refl
view_set (slot ∷ slots) zero s = refl
view_set (slot ∷ slots) (suc k) s = ap (λ (ts : List Slot). view_slot slot ∷ ts) (view_set slots k s)

view_get : (slots : List CodeSlot) (k : ℕ) (d : CodeSlot) → view_slot (get_or slots k d) ≡ get_or (view_slots slots) k (view_slot d)
view_get [] k d = refl
view_get (slot ∷ slots) zero d = refl
view_get (slot ∷ slots) (suc k) d = view_get slots k d

-- one more of the slots is changed
pub changed_more : (f : Slot → Slot) (ws : List Slot) (slots : List CodeSlot) (k next : ℕ) (d s : CodeSlot) → next ≡ k + 1 → k < length ws
    → view_slots slots ≡ map f (take k ws) ++ drop k ws → view_slot s ≡ f (view_slot (get_or slots k d))
    → view_slots (slice_set slots k s) ≡ map f (take next ws) ++ drop next ws
changed_more f ws slots k next d s after within before new =
    view_set slots k s
    ∙ set_more f ws (view_slots slots) k next (view_slot d) (view_slot s) after within before (new ∙ ap f (view_get slots k d))

view_length : (slots : List CodeSlot) → length (view_slots slots) ≡ length slots
view_length [] = refl
view_length (slot ∷ slots) = ap suc (view_length slots)

pub changed_here : (f : Slot → Slot) (olds slots : List CodeSlot) (k : ℕ) (d s : CodeSlot) → length slots ≡ length olds → k < length slots
    → view_slots slots ≡ map f (take k (view_slots olds)) ++ drop k (view_slots olds) → view_slot s ≡ f (view_slot (get_or slots k d))
    → view_slots (slice_set slots k s) ≡ map f (take (k + 1) (view_slots olds)) ++ drop (k + 1) (view_slots olds)
changed_here f olds slots k d s size within before new =
    let so_many : length (view_slots olds) ≡ length olds = view_length olds in
    changed_more f (view_slots olds) slots k (k + 1) d s refl (omega (arith, size, within, so_many)) before new
