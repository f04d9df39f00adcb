-- The first places of marks, found one mark after another.
use Rattle.std.proofs.Common.{◌≡◌, ℕ, zero, suc, ◌+◌, ◌<◌, ◌≤◌, Bool, true, false, cond, List, [], ◌∷◌, ◌++◌, length, map, take, get_or, Option, Some, None, option_map, unwrap_or, refl, sym, ap, ◌∙◌, arith, Bor}
use Rattle.std.specs.Prelude.{bytes_eq}
use Rattle.std.specs.Ordering.{nat_cmp}
use Rattle.std.specs.Cmp.Lexicographic.{slice_cmp}
use Rattle.std.specs.BTreeMap.{BTreeMap, UpdatesBy}
use Rattle.std.proofs.lemmas.Map.Text.{btree_map_updates_str}
use Rattle.std.proofs.lemmas.List.{map-append}
use Rattle.std.proofs.lemmas.Slice.Eq.{bytes_eq-Decides}
use Rattle.type_members.specs.Akin.{place_of, number_in}
use Rattle.type_members.specs.FirstPlaces.{known_place, KnowsPlace, numbered}

pub new_place : (w : List ℕ) (place : ℕ) (old new : BTreeMap (Bor (List ℕ)) ℕ) → known_place w old ≡ None
    → UpdatesBy (λ x y. slice_cmp nat_cmp x.now y.now) (λ k. slice_cmp nat_cmp w k.now) old new (Some place)
    → KnowsPlace w (unwrap_or (known_place w old) place) old new
new_place w place old new none updates other =
    btree_map_updates_str w old new (Some place) updates other
    ∙ sym (ap (λ (o : Option ℕ). cond (bytes_eq w other) (Some (unwrap_or o place)) (known_place other old)) none)

old_if : (w other : List ℕ) (place first : ℕ) (old : BTreeMap (Bor (List ℕ)) ℕ) (b : Bool) → bytes_eq w other ≡ b → known_place w old ≡ Some first
    → known_place other old ≡ cond b (Some (unwrap_or (known_place w old) place)) (known_place other old)
old_if w other place first old true is there =
    ap (λ (v : List ℕ). known_place v old) (sym ((bytes_eq-Decides w other).0 is)) ∙ there
    ∙ sym (ap (λ (o : Option ℕ). Some (unwrap_or o place)) there)
old_if w other place first old false is there = refl

pub old_place : (w : List ℕ) (place first : ℕ) (old : BTreeMap (Bor (List ℕ)) ℕ) → known_place w old ≡ Some first
    → KnowsPlace w (unwrap_or (known_place w old) place) old old
old_place w place first old there other = old_if w other place first old (bytes_eq w other) refl there

-- where a mark stands first, if it does
abbrev pub seen : List ℕ → List (List ℕ) → Option ℕ
seen w [] = None
seen w (x ∷ xs) = cond (bytes_eq x w) (Some 0) (option_map suc (seen w xs))

suc_or : (o : Option ℕ) (n : ℕ) → suc (unwrap_or o n) ≡ unwrap_or (option_map suc o) (suc n)
suc_or None n = refl
suc_or (Some k) n = refl

same_if : (w v : List ℕ) (xs : List (List ℕ)) (b : Bool) → seen w (xs ++ v ∷ []) ≡ Some (unwrap_or (seen w xs) (length xs))
    → cond b (Some 0) (option_map suc (seen w (xs ++ v ∷ []))) ≡ Some (unwrap_or (cond b (Some 0) (option_map suc (seen w xs))) (suc (length xs)))
same_if w v xs true rest = refl
same_if w v xs false rest = ap (option_map suc) rest ∙ ap Some (suc_or (seen w xs) (length xs))

seen_same : (w v : List ℕ) (xs : List (List ℕ)) → bytes_eq v w ≡ true → seen w (xs ++ v ∷ []) ≡ Some (unwrap_or (seen w xs) (length xs))
seen_same w v [] is = ap (λ (b : Bool). cond b (Some 0) None) is
seen_same w v (x ∷ xs) is = same_if w v xs (bytes_eq x w) (seen_same w v xs is)

seen_other : (w v : List ℕ) (xs : List (List ℕ)) → bytes_eq v w ≡ false → seen w (xs ++ v ∷ []) ≡ seen w xs
seen_other w v [] is = ap (λ (b : Bool). cond b (Some 0) None) is
seen_other w v (x ∷ xs) is = ap (λ (o : Option ℕ). cond (bytes_eq x w) (Some 0) (option_map suc o)) (seen_other w v xs is)

more_if : (w v : List ℕ) (xs : List (List ℕ)) (b : Bool) → bytes_eq v w ≡ b
    → cond b (Some (unwrap_or (seen v xs) (length xs))) (seen w xs) ≡ seen w (xs ++ v ∷ [])
more_if w v xs true is =
    ap (λ (u : List ℕ). Some (unwrap_or (seen u xs) (length xs))) ((bytes_eq-Decides v w).0 is) ∙ sym (seen_same w v xs is)
more_if w v xs false is = sym (seen_other w v xs is)

-- one more mark is known
pub known_more : (v : List ℕ) (xs : List (List ℕ)) (k : ℕ) (old new : BTreeMap (Bor (List ℕ)) ℕ) → k ≡ length xs
    → ((w : List ℕ) → known_place w old ≡ seen w xs) → KnowsPlace v (unwrap_or (known_place v old) k) old new
    → (w : List ℕ) → known_place w new ≡ seen w (xs ++ v ∷ [])
known_more v xs k old new so_many before after w =
    after w
    ∙ ap (λ (o : Option ℕ). cond (bytes_eq v w) (Some (unwrap_or o k)) (known_place w old)) (before v)
    ∙ ap (λ (n : ℕ). cond (bytes_eq v w) (Some (unwrap_or (seen v xs) n)) (known_place w old)) so_many
    ∙ ap (λ (o : Option ℕ). cond (bytes_eq v w) (Some (unwrap_or (seen v xs) (length xs))) o) (before w)
    ∙ more_if w v xs (bytes_eq v w) refl

first_if : (w : List ℕ) (marks : List (List ℕ)) (k : ℕ) (b : Bool) → place_of w marks ≡ unwrap_or (seen w (take k marks)) k
    → cond b 0 (suc (place_of w marks)) ≡ unwrap_or (cond b (Some 0) (option_map suc (seen w (take k marks)))) (suc k)
first_if w marks k true rest = refl
first_if w marks k false rest = ap suc rest ∙ suc_or (seen w (take k marks)) k

-- the first place of a mark is where it was seen, or the place at hand
pub first_is : (w : List ℕ) (marks : List (List ℕ)) (k : ℕ) (d : List ℕ) → k < length marks → get_or marks k d ≡ w
    → place_of w marks ≡ unwrap_or (seen w (take k marks)) k
first_is w [] k d within is = absurd (omega (arith, within))
first_is w (x ∷ marks) zero d within is = ap (λ (b : Bool). cond b 0 (suc (place_of w marks))) ((bytes_eq-Decides x w).1 is)
first_is w (x ∷ marks) (suc k) d within is = first_if w marks k (bytes_eq x w) (first_is w marks k d (omega (arith, within)) is)

within_if : (w : List ℕ) (marks : List (List ℕ)) (k : ℕ) (b : Bool) → place_of w marks ≤ k → cond b 0 (suc (place_of w marks)) ≤ suc k
within_if w marks k true rest = omega arith
within_if w marks k false rest = omega (arith, rest)

pub first_within : (w : List ℕ) (marks : List (List ℕ)) (k : ℕ) (d : List ℕ) → k < length marks → get_or marks k d ≡ w → place_of w marks ≤ k
first_within w [] k d within is = absurd (omega (arith, within))
first_within w (x ∷ marks) zero d within is =
    let none : place_of w (x ∷ marks) ≡ 0 = ap (λ (b : Bool). cond b 0 (suc (place_of w marks))) ((bytes_eq-Decides x w).1 is) in
    omega (arith, none)
first_within w (x ∷ marks) (suc k) d within is = within_if w marks k (bytes_eq x w) (first_within w marks k d (omega (arith, within)) is)

pub numbered_so : (w : List ℕ) (marks : List (List ℕ)) (place : ℕ) → place ≡ place_of w marks → numbered w place ≡ number_in marks w
numbered_so [] marks place is = refl
numbered_so (x ∷ xs) marks place is = ap suc is

taken_more : {A : Type 0} (xs : List A) (k next : ℕ) (d : A) → next ≡ k + 1 → k < length xs → take next xs ≡ take k xs ++ get_or xs k d ∷ []
taken_more [] k next d after within = absurd (omega (arith, within))
taken_more (x ∷ xs) zero zero d after within = absurd (omega (arith, after))
taken_more (x ∷ xs) zero (suc zero) d after within = refl
taken_more (x ∷ xs) zero (suc (suc n)) d after within = absurd (omega (arith, after))
taken_more (x ∷ xs) (suc k) zero d after within = absurd (omega (arith, after))
taken_more (x ∷ xs) (suc k) (suc next) d after within = ap (λ (l : List _). x ∷ l) (taken_more xs k next d (omega (arith, after)) (omega (arith, within)))

taken_size : {A : Type 0} (xs : List A) (k : ℕ) → k < length xs → k ≡ length (take k xs)
taken_size [] k within = absurd (omega (arith, within))
taken_size (x ∷ xs) zero within = refl
taken_size (x ∷ xs) (suc k) within = ap suc (taken_size xs k (omega (arith, within)))

-- at a mark of a list
module _ (marks : List (List ℕ)) (k : ℕ) (d w : List ℕ) (within : k < length marks) (is : get_or marks k d ≡ w) where
  more : take (k + 1) marks ≡ take k marks ++ w ∷ []
  more = taken_more marks k (k + 1) d refl within ∙ ap (λ (v : List ℕ). take k marks ++ v ∷ []) is

  pub first_so : (first : ℕ) (old : BTreeMap (Bor (List ℕ)) ℕ) → ((v : List ℕ) → known_place v old ≡ seen v (take k marks))
      → first ≡ unwrap_or (known_place w old) k → first ≡ place_of w marks
  first_so first old known told =
      told ∙ ap (λ (o : Option ℕ). unwrap_or o k) (known w) ∙ sym (first_is w marks k d within is)

  pub numbers_more : (first : ℕ) (now new : List ℕ) → first ≡ place_of w marks → now ≡ map (number_in marks) (take k marks)
      → new ≡ now ++ numbered w first ∷ [] → new ≡ map (number_in marks) (take (k + 1) marks)
  numbers_more first now new told before after =
      after ∙ ap (λ (n : ℕ). now ++ n ∷ []) (numbered_so w marks first told)
      ∙ ap (λ (l : List ℕ). l ++ number_in marks w ∷ []) before
      ∙ sym (ap (map (number_in marks)) more ∙ map-append (number_in marks) (take k marks) (w ∷ []))

  pub places_more : (old new : BTreeMap (Bor (List ℕ)) ℕ) → ((v : List ℕ) → known_place v old ≡ seen v (take k marks))
      → KnowsPlace w (unwrap_or (known_place w old) k) old new → (v : List ℕ) → known_place v new ≡ seen v (take (k + 1) marks)
  places_more old new known told v =
      known_more w (take k marks) k old new (taken_size marks k within) known told v ∙ sym (ap (seen v) more)
