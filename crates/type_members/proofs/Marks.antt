-- Numbers of methods tell which are like each other.
use Rattle.std.proofs.Common.{◌≡◌, ℕ, zero, suc, ◌+◌, ◌-◌, ◌<◌, ◌≤◌, ◌⊎◌, inl, inr, Bool, true, false, cond, eqb, ltb, List, [], ◌∷◌, ◌++◌, length, map, get_or, slice_get, Option, Some, None, option_map, refl, sym, ap, ◌∙◌, arith, eqb-true, eq-eqb, ltb-true, ltb-false, lt-ltb, leb, append_assoc, length-append}
use Rattle.std.specs.Prelude.{bytes_eq, option_and_then}
use Rattle.std.specs.List.{range_with_len}
use Rattle.std.proofs.lemmas.Bool.{true≢false, and_from, and_parts, eqb-false, leb-true, leb-false}
use Rattle.std.proofs.lemmas.List.FromFn.{map-range_with_len_more, get_or-map-range_with_len, length-map-range_with_len}
use Rattle.std.proofs.lemmas.Option.{slice_get_past}
use Rattle.std.proofs.lemmas.List.{get_or-append-add}
use Rattle.std.proofs.Math.ListN.{get_or-append}
use Rattle.std.proofs.lemmas.Slice.Eq.{bytes_eq-Decides}
use Rattle.type_model.specs.Module.{Module, row_count, row, rows}
use Rattle.type_model.specs.Rows.{method_defs, method_name}
use Rattle.type_model.specs.Members.{sig_of, sig_in}
use Rattle.type_members.specs.declared.member.Member.{Member}
use Rattle.type_members.specs.declared.member.Member.TheVariants.{Method, Field, Core, Named}
use Rattle.type_members.specs.CoreMembers.{CoreMember, core_member_at, core_members}
use Rattle.type_members.specs.Found.{method_words, core_words}
use Rattle.type_members.specs.Chosen.{name_of, words_of, name_if}
use Rattle.type_members.specs.Akin.{like, mark_by, mark, core_marks, row_marks, all_marks, place_of, number_in, key_at, same_key, TellsLike}
use Rattle.type_members.proofs.Likeness.{alike, from_alike}

pub one_more : {A : Type 0} (f : ℕ → A) (n : ℕ) → map f (range_with_len 0 (n + 1)) ≡ map f (range_with_len 0 n) ++ f n ∷ []
one_more f n = map-range_with_len_more f 0 n n (omega arith)

pub row_more : {A : Type 0} (f : ℕ → A) (n : ℕ) → map f (range_with_len 1 (n + 1)) ≡ map f (range_with_len 1 n) ++ f (n + 1) ∷ []
row_more f n = map-range_with_len_more f 1 n (n + 1) (omega arith)

pub all_core : (m : Module) (k : ℕ) (marks : List (List ℕ)) → k ≡ 179 → marks ≡ map (λ place. mark m (Core place)) (range_with_len 0 k) → marks ≡ core_marks m
unfolding core_marks
all_core m k marks so_many are = are ∙ ap (λ (n : ℕ). map (λ place. mark m (Core place)) (range_with_len 0 n)) so_many

-- places in lists
get_map : {A B : Type 0} (f : A → B) (xs : List A) (k : ℕ) (d : A) (e : B) → k < length xs → get_or (map f xs) k e ≡ f (get_or xs k d)
get_map f [] k d e within = absurd (omega (arith, within))
get_map f (x ∷ xs) zero d e within = refl
get_map f (x ∷ xs) (suc k) d e within = get_map f xs k d e (omega (arith, within))

get_past : {A : Type 0} (xs : List A) (k : ℕ) (d : A) → length xs ≤ k → get_or xs k d ≡ d
get_past [] k d past = refl
get_past (x ∷ xs) zero d past = absurd (omega (arith, past))
get_past (x ∷ xs) (suc k) d past = get_past xs k d (omega (arith, past))

length_of_map : {A B : Type 0} (f : A → B) (xs : List A) → length (map f xs) ≡ length xs
length_of_map f [] = refl
length_of_map f (x ∷ xs) = ap suc (length_of_map f xs)

-- a mark stands in a list
abbrev Located : List (List ℕ) → List ℕ → Type 0
Located marks w = (k : ℕ) × (k < length marks) × (get_or marks k [] ≡ w)

-- and so it does at the place that is found
abbrev Found : List (List ℕ) → List ℕ → Type 0
Found marks w = (place_of w marks < length marks) × (get_or marks (place_of w marks) [] ≡ w)

found_if : (w x : List ℕ) (marks : List (List ℕ)) (b : Bool) → bytes_eq x w ≡ b → (b ≡ false → Found marks w)
    → (cond b 0 (suc (place_of w marks)) < suc (length marks)) × (get_or (x ∷ marks) (cond b 0 (suc (place_of w marks))) [] ≡ w)
found_if w x marks true is rest = (omega arith, (bytes_eq-Decides x w).0 is)
found_if w x marks false is rest = let there = rest refl in (omega (arith, there.0), there.1)

found_at : (w : List ℕ) (marks : List (List ℕ)) (k : ℕ) → k < length marks → get_or marks k [] ≡ w → Found marks w
found_at w [] k within is = absurd (omega (arith, within))
found_at w (x ∷ marks) zero within is =
    found_if w x marks (bytes_eq x w) refl (λ other. absurd (true≢false (sym ((bytes_eq-Decides x w).1 is) ∙ other)))
found_at w (x ∷ marks) (suc k) within is =
    found_if w x marks (bytes_eq x w) refl (λ other. found_at w marks k (omega (arith, within)) is)

-- a mark says both the name and the signature
heads : (a b : ℕ) (xs ys : List ℕ) → a ∷ xs ≡ b ∷ ys → a ≡ b
heads a b xs ys is = cc

tails : (a b : ℕ) (xs ys : List ℕ) → a ∷ xs ≡ b ∷ ys → xs ≡ ys
tails a b xs ys is = cc

parted : (xs ys vs ws : List ℕ) → length xs ≡ length ys → xs ++ vs ≡ ys ++ ws → (xs ≡ ys) × (vs ≡ ws)
parted [] [] vs ws size is = (refl, is)
parted [] (y ∷ ys) vs ws size is = absurd (omega (arith, size))
parted (x ∷ xs) [] vs ws size is = absurd (omega (arith, size))
parted (x ∷ xs) (y ∷ ys) vs ws size is =
    let rest = parted xs ys vs ws (omega (arith, size)) (tails x y (xs ++ vs) (ys ++ ws) is) in
    let first : x ∷ xs ≡ y ∷ xs = ap (λ (n : ℕ). n ∷ xs) (heads x y (xs ++ vs) (ys ++ ws) is) in
    (first ∙ ap (λ (l : List ℕ). y ∷ l) rest.0, rest.1)

same_answer : (a b : Bool) → (a ≡ true → b ≡ true) → (b ≡ true → a ≡ true) → a ≡ b
same_answer true b there back = sym (there refl)
same_answer false true there back = back refl
same_answer false false there back = refl

same_number : (a b p : ℕ) → a ≡ suc p → b ≡ a → same_key a b ≡ true
same_number a b p is same = and_from (ltb 0 a) (eqb a b) (lt-ltb 0 a (omega (arith, is))) (eq-eqb a b (sym same))

module _ (marks : List (List ℕ)) where
  abbrev whole : List ℕ → List ℕ → List ℕ
  whole name words = length name ∷ name ++ words

  to_found : (name words : List ℕ) → (whole name words ≡ []) ⊎ Located marks (whole name words) → Found marks (whole name words)
  to_found name words (inl none) = cc
  to_found name words (inr (k, within, is)) = found_at (whole name words) marks k within is

  one_mark : (a b : List ℕ) → Found marks a → Found marks b → place_of a marks ≡ place_of b marks → a ≡ b
  one_mark a b at there same = sym at.1 ∙ ap (λ (k : ℕ). get_or marks k []) same ∙ there.1

  back_by : (xn yn : List ℕ) (xw yw : Option (List ℕ))
      → (mark_by xn xw ≡ []) ⊎ Located marks (mark_by xn xw) → (mark_by yn yw ≡ []) ⊎ Located marks (mark_by yn yw)
      → same_key (number_in marks (mark_by xn xw)) (number_in marks (mark_by yn yw)) ≡ true
      → (w : List ℕ) × (xw ≡ Some w) × (yw ≡ Some w) × (yn ≡ xn)
  back_by xn yn None yw at there same = cc
  back_by xn yn (Some w) None at there same =
      absurd (omega (arith, eqb-true (suc (place_of (whole xn w) marks)) 0 (and_parts (ltb 0 (suc (place_of (whole xn w) marks))) (eqb (suc (place_of (whole xn w) marks)) 0) same).1))
  back_by xn yn (Some w) (Some v) at there same =
      let p : ℕ = place_of (whole xn w) marks in
      let q : ℕ = place_of (whole yn v) marks in
      let equal : suc p ≡ suc q = eqb-true (suc p) (suc q) (and_parts (ltb 0 (suc p)) (eqb (suc p) (suc q)) same).1 in
      let one : whole xn w ≡ whole yn v =
      one_mark (whole xn w) (whole yn v) (to_found xn w at) (to_found yn v there) (omega (arith, equal)) in
      let both = parted xn yn w v (heads (length xn) (length yn) (xn ++ w) (yn ++ v) one) (tails (length xn) (length yn) (xn ++ w) (yn ++ v) one) in
      (w, refl, ap Some (sym both.1), sym both.0)

-- what is known of a method: its number is that of its mark, which stands in the list, if it isn't empty
record Known (m : Module) (keys : List ℕ) (x : Member) : Type 0 where
  key : key_at keys x ≡ number_in (all_marks m) (mark m x)
  stands : (mark m x ≡ []) ⊎ Located (all_marks m) (mark m x)

like_there : (m : Module) (x y : Member) → like m x y ≡ true
    → same_key (number_in (all_marks m) (mark m x)) (number_in (all_marks m) (mark m y)) ≡ true
unfolding mark
like_there m x y is =
    let a = alike m (name_of m x) (words_of m x) y is in
    let own : mark m x ≡ length (name_of m x) ∷ name_of m x ++ a.words = ap (mark_by (name_of m x)) a.one in
    let other : mark m y ≡ length (name_of m x) ∷ name_of m x ++ a.words =
    ap (mark_by (name_of m y)) a.other ∙ ap (λ (n : List ℕ). length n ∷ n ++ a.words) a.named in
    same_number (number_in (all_marks m) (mark m x)) (number_in (all_marks m) (mark m y))
    (place_of (length (name_of m x) ∷ name_of m x ++ a.words) (all_marks m))
    (ap (number_in (all_marks m)) own) (ap (number_in (all_marks m)) (other ∙ sym own))

like_back_again : (m : Module) (x y : Member) → (mark m x ≡ []) ⊎ Located (all_marks m) (mark m x) → (mark m y ≡ []) ⊎ Located (all_marks m) (mark m y)
    → same_key (number_in (all_marks m) (mark m x)) (number_in (all_marks m) (mark m y)) ≡ true → like m x y ≡ true
unfolding mark
like_back_again m x y at there same =
    let found = back_by (all_marks m) (name_of m x) (name_of m y) (words_of m x) (words_of m y) at there same in
    from_alike m (name_of m x) (words_of m x) y
    (record { words = found.0; one = found.1; other = found.2; named = found.3 })

like_known : (m : Module) (keys : List ℕ) (x y : Member) → Known m keys x → Known m keys y → like m x y ≡ same_key (key_at keys x) (key_at keys y)
like_known m keys x y known other =
    same_answer (like m x y) (same_key (number_in (all_marks m) (mark m x)) (number_in (all_marks m) (mark m y)))
    (like_there m x y) (like_back_again m x y known.stands other.stands)
    ∙ sym (ap (λ (a : ℕ). same_key a (key_at keys y)) known.key
    ∙ ap (λ (b : ℕ). same_key (number_in (all_marks m) (mark m x)) b) other.key)

core_none : (m : Module) (place : ℕ) → 179 ≤ place → mark m (Core place) ≡ []
unfolding mark core_member_at core_members
core_none m place past =
    let none : core_member_at place ≡ None = slice_get_past core_members place past in
    ap (λ (known : Option CoreMember). mark_by (name_if known) (option_map core_words known)) none

row_none : (m : Module) (n : ℕ) → row m method_defs n ≡ None → mark m (Method n) ≡ []
unfolding mark sig_of
row_none m n none =
    ap (λ (numbers : Option (List ℕ)). mark_by (method_name m n) (option_map (method_words m) (option_and_then (sig_in m) numbers))) none

past_rows : (m : Module) (n : ℕ) (b : Bool) → eqb n 0 ≡ b → row_count m method_defs < n → cond b None (slice_get (rows m method_defs) (n - 1)) ≡ None
past_rows m n true is past = refl
past_rows m n false is past = slice_get_past (rows m method_defs) (n - 1) (omega (arith, past))

core_length : (m : Module) → length (core_marks m) ≡ 179
unfolding core_marks
core_length m = length-map-range_with_len (λ place. mark m (Core place)) 0 179

core_place : (m : Module) (place : ℕ) → place < 179 → get_or (all_marks m) place [] ≡ mark m (Core place)
unfolding core_marks
core_place m place within =
    get_or-append (core_marks m) (row_marks m) [] place (omega (arith, within, core_length m))
    ∙ get_or-map-range_with_len (λ place. mark m (Core place)) 0 179 place place [] (omega arith) (omega (arith, within))

row_place : (m : Module) (n : ℕ) → 1 ≤ n → n ≤ row_count m method_defs → get_or (all_marks m) (179 + (n - 1)) [] ≡ mark m (Method n)
row_place m n above within =
    let seam : 179 + (n - 1) ≡ length (core_marks m) + (n - 1) = omega (arith, core_length m) in
    ap (λ (k : ℕ). get_or (all_marks m) k []) seam
    ∙ get_or-append-add (core_marks m) (row_marks m) (n - 1) []
    ∙ get_or-map-range_with_len (λ n. mark m (Method n)) 1 (row_count m method_defs) (n - 1) n [] (omega (arith, above)) (omega (arith, above, within))

all_length : (m : Module) → length (all_marks m) ≡ 179 + row_count m method_defs
all_length m =
    length-append (core_marks m) (row_marks m)
    ∙ ap (λ (k : ℕ). k + length (row_marks m)) (core_length m)
    ∙ ap (λ (k : ℕ). 179 + k) (length-map-range_with_len (λ n. mark m (Method n)) 1 (row_count m method_defs))

module _ (m : Module) (keys : List ℕ) (are : keys ≡ map (number_in (all_marks m)) (all_marks m)) where
  key_there : (k : ℕ) (w : List ℕ) → k < length (all_marks m) → get_or (all_marks m) k [] ≡ w → get_or keys k 0 ≡ number_in (all_marks m) w
  key_there k w within is =
      ap (λ (l : List ℕ). get_or l k 0) are ∙ get_map (number_in (all_marks m)) (all_marks m) k [] 0 within ∙ ap (number_in (all_marks m)) is

  key_past : (k : ℕ) → length (all_marks m) ≤ k → get_or keys k 0 ≡ 0
  key_past k past =
      let size : length keys ≡ length (all_marks m) = ap length are ∙ length_of_map (number_in (all_marks m)) (all_marks m) in
      get_past keys k 0 (omega (arith, size, past))

  without : (x : Member) → key_at keys x ≡ 0 → mark m x ≡ [] → Known m keys x
  without x none empty = record { key = none ∙ sym (ap (number_in (all_marks m)) empty); stands = inl empty }

  with_one : (x : Member) (k : ℕ) → key_at keys x ≡ get_or keys k 0 → k < length (all_marks m) → get_or (all_marks m) k [] ≡ mark m x → Known m keys x
  with_one x k own within is = record { key = own ∙ key_there k (mark m x) within is; stands = inr (k, within, is) }

  known_core : (place : ℕ) (b : Bool) → ltb place 179 ≡ b → Known m keys (Core place)
  known_core place true is =
      let within : place < 179 = ltb-true place 179 is in
      with_one (Core place) place (ap (λ (b : Bool). cond b (get_or keys place 0) 0) is) (omega (arith, within, all_length m)) (core_place m place within)
  known_core place false is =
      without (Core place) (ap (λ (b : Bool). cond b (get_or keys place 0) 0) is) (core_none m place (ltb-false place 179 is))

  known_row_by : (n : ℕ) (b : Bool) → eqb n 0 ≡ false → leb n (row_count m method_defs) ≡ b → Known m keys (Method n)
  known_row_by n true above is =
      let own : key_at keys (Method n) ≡ get_or keys (179 + (n - 1)) 0 = ap (λ (b : Bool). cond b 0 (get_or keys (179 + (n - 1)) 0)) above in
      let some : 1 ≤ n = omega (arith, eqb-false n 0 above) in
      let within : n ≤ row_count m method_defs = leb-true n (row_count m method_defs) is in
      with_one (Method n) (179 + (n - 1)) own (omega (arith, some, within, all_length m)) (row_place m n some within)
  known_row_by n false above is =
      let own : key_at keys (Method n) ≡ get_or keys (179 + (n - 1)) 0 = ap (λ (b : Bool). cond b 0 (get_or keys (179 + (n - 1)) 0)) above in
      let past : row_count m method_defs < n = omega (arith, leb-false n (row_count m method_defs) is) in
      without (Method n) (own ∙ key_past (179 + (n - 1)) (omega (arith, past, all_length m))) (row_none m n (past_rows m n (eqb n 0) refl past))

  known_row : (n : ℕ) (b : Bool) → eqb n 0 ≡ b → Known m keys (Method n)
  known_row n true is =
      without (Method n) (ap (λ (b : Bool). cond b 0 (get_or keys (179 + (n - 1)) 0)) is)
      (row_none m n (ap (λ (b : Bool). cond b None (slice_get (rows m method_defs) (n - 1))) is))
  known_row n false is = known_row_by n (leb n (row_count m method_defs)) is refl

  known : (x : Member) → Known m keys x
  unfolding mark
  known (Core place) = known_core place (ltb place 179) refl
  known (Method n) = known_row n (eqb n 0) refl
  known (Field f) = without (Field f) refl refl
  known (Named id) = without (Named id) refl refl

pub tells : (m : Module) (keys : List ℕ) → keys ≡ map (number_in (all_marks m)) (all_marks m) → TellsLike m keys
tells m keys are x y = like_known m keys x y (known m keys are x) (known m keys are y)

-- the marks of the methods of the file, row after row
pub rows_more : (m : Module) (old now new : List (List ℕ)) (n : ℕ) → now ≡ old ++ map (λ n. mark m (Method n)) (range_with_len 1 n)
    → new ≡ now ++ mark m (Method (n + 1)) ∷ [] → new ≡ old ++ map (λ n. mark m (Method n)) (range_with_len 1 (n + 1))
rows_more m old now new n before after =
    after ∙ ap (λ (l : List (List ℕ)). l ++ mark m (Method (n + 1)) ∷ []) before
    ∙ append_assoc old (map (λ n. mark m (Method n)) (range_with_len 1 n)) (mark m (Method (n + 1)) ∷ [])
    ∙ ap (λ (l : List (List ℕ)). old ++ l) (sym (row_more (λ n. mark m (Method n)) n))
