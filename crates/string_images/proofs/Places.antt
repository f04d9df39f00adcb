-- The last place up to another that passes a test, and where a text is cut.
use Rattle.std.proofs.Common.{◌≡◌, ◌⊎◌, ℕ, zero, suc, ◌+◌, ◌-◌, ◌*◌, ◌<◌, ◌≤◌, Bool, true, false, cond, not, ◌&&◌, List, [], ◌∷◌, ◌++◌, length, take, replicate, get_or, refl, sym, ap, ◌∙◌, subst, arith, min, length-append}
use Rattle.std.proofs.Math.ListN.{get_or-eq_default}
use Rattle.std.proofs.Math.Logic.{⊎_elim}
use Rattle.std.proofs.str.Laws.{order}
use Rattle.std.proofs.lemmas.Bool.Decides.{nat_tests}
use Rattle.std.proofs.lemmas.List.{take_all, length-take}
use Rattle.std.proofs.lemmas.Grind.{flat_map-append}
use Rattle.std.specs.Int.{w16, to_le_bytes}
use Rattle.std.specs.Char.Utf16.{is_high_surrogate, is_low_surrogate}
use Rattle.string_images.specs.Texts.{utf16_bytes}
use Rattle.string_images.specs.Inline.{last_place, cut, parts_no_pair, starts_character, padded}

pub last_place_here : (p : ℕ → Bool) (n : ℕ) → p n ≡ true → last_place p n ≡ n
last_place_here p zero here = refl
last_place_here p (suc n) here = ap (λ b. cond b (suc n) (last_place p n)) here

pub last_place_before : (p : ℕ → Bool) (n : ℕ) → 0 < n → p n ≡ false → last_place p n ≡ last_place p (n - 1)
last_place_before p zero some not_here = absurd (omega arith)
last_place_before p (suc n) some not_here =
    let before : n ≡ suc n - 1 = omega arith in
    ap (λ b. cond b (suc n) (last_place p n)) not_here ∙ ap (last_place p) before

either : (P : ℕ → Type 0) (b : Bool) (m n : ℕ) → P m → P n → P (cond b m n)
either P true m n x y = x
either P false m n x y = y

pub last_place_within : (p : ℕ → Bool) (n : ℕ) → last_place p n ≤ n
last_place_within p zero = omega arith
last_place_within p (suc n) =
    let within = last_place_within p n in
    either (λ m. m ≤ suc n) (p (suc n)) (suc n) (last_place p n) (omega arith) (omega arith)

-- ---- surrogate pairs
pub cut_here : (units : List ℕ) (most end : ℕ) → end ≡ min most (length units) → parts_no_pair units end ≡ true → cut parts_no_pair most units ≡ take end units
cut_here units most end is whole =
    ⊎_elim
    (λ short.
    let past : length units ≤ most = omega arith in
    let ended : get_or units most 0 ≡ 0 = get_or-eq_default units 0 past in
    let plain : parts_no_pair units most ≡ true = no_low _ (get_or units most 0) (omega arith) in
    let all : end ≡ length units = omega arith in
    ap (λ n. take n units) (last_place_here (parts_no_pair units) most plain) ∙ take_all most units past
    ∙ sym (take_all end units (omega arith)))
    (λ long.
    let same : most ≡ end = omega arith in
    ap (λ n. take n units) (last_place_here (parts_no_pair units) most (subst (λ n. parts_no_pair units n ≡ true) (sym same) whole) ∙ same))
    (order (length units) most)
  where
    no_low : (high : Bool) (low : ℕ) → low < 0xDC00 → not (high && is_low_surrogate low) ≡ true
    no_low high low below = grind (arith, nat_tests, below)

-- at the start and from the end on no pair is parted
parted_within : (units : List ℕ) (end : ℕ) → parts_no_pair units end ≡ false → (0 < end) × (end < length units)
parted_within units zero parted = absurd (both_halves (get_or units 0 0) parted)
  where
    both_halves : (u : ℕ) → not (is_high_surrogate u && is_low_surrogate u) ≡ false → ⊥
    both_halves u pair = grind (arith, nat_tests, pair)
parted_within units (suc end) parted =
    ⊎_elim (λ within. (omega arith, within))
    (λ past. absurd (no_half (get_or units (suc end - 1) 0) (get_or units (suc end) 0) (get_or-eq_default units 0 past) parted))
    (order (suc end) (length units))
  where
    no_half : (u v : ℕ) → v ≡ 0 → not (is_high_surrogate u && is_low_surrogate v) ≡ false → ⊥
    no_half u v none pair = grind (arith, nat_tests, none, pair)

-- a unit that is the first half of a pair is the second half of none
pub cut_before : (units : List ℕ) (most end : ℕ) → end ≡ min most (length units) → parts_no_pair units end ≡ false → cut parts_no_pair most units ≡ take (end - 1) units
cut_before units most end is parted =
    let within = parted_within units end parted in
    let same : most ≡ end = omega (arith, within.0, within.1) in
    let here = subst (λ n. parts_no_pair units n ≡ false) (sym same) parted in
    let whole : parts_no_pair units (most - 1) ≡ true = first_of_pair (get_or units (most - 1) 0) (get_or units most 0) (get_or units (most - 1 - 1) 0) here in
    ap (λ n. take n units) (last_place_before (parts_no_pair units) most (omega (arith, within.0)) here ∙ last_place_here (parts_no_pair units) (most - 1) whole ∙ ap (λ n. n - 1) same)
  where
    first_of_pair : (u v w : ℕ) → not (is_high_surrogate u && is_low_surrogate v) ≡ false → not (is_high_surrogate w && is_low_surrogate u) ≡ true
    first_of_pair u v w pair = grind (arith, nat_tests, pair)

-- ---- zeros behind
zero_bytes : (n : ℕ) → utf16_bytes (replicate n 0) ≡ replicate (2 * n) 0
zero_bytes zero = refl
zero_bytes (suc n) =
    let two_more : 2 * suc n ≡ suc (suc (2 * n)) = omega arith in
    ap (λ bs. 0 ∷ 0 ∷ bs) (zero_bytes n) ∙ ap (λ k. replicate k 0) (sym two_more)

pub utf16_bytes_length : (units : List ℕ) → length (utf16_bytes units) ≡ 2 * length units
utf16_bytes_length [] = refl
utf16_bytes_length (u ∷ us) =
    let rest = utf16_bytes_length us in omega (arith, rest, length-append (to_le_bytes w16 u) (utf16_bytes us))

pub padded_units : (count : ℕ) (front : List ℕ) → length front ≤ count → padded (2 * count) (utf16_bytes front) ≡ utf16_bytes (padded count front)
padded_units count front within =
    let size = utf16_bytes_length front in
    let zeros : 2 * count - length (utf16_bytes front) ≡ 2 * (count - length front) = omega (arith, size) in
    ap (λ n. utf16_bytes front ++ replicate n 0) zeros ∙ ap (λ bs. utf16_bytes front ++ bs) (sym (zero_bytes (count - length front)))
    ∙ sym (flat_map-append (to_le_bytes w16) front (replicate (count - length front) 0))

-- ---- a test of a bool that failed
pub true_unless_false : (b t : Bool) → b ≡ false → (t ≡ false → b ≡ true) → t ≡ true
true_unless_false b true isnt h = refl
true_unless_false b false isnt h = let yes = h refl in absurd (cc)

pub cut_length : (p : List ℕ → ℕ → Bool) (n : ℕ) (text : List ℕ) → length (cut p n text) ≤ n
cut_length p n text =
    let within = last_place_within (p text) n in omega (arith, length-take (last_place (p text) n) text)
