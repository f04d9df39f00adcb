-- Units of UTF-16, and the characters that they spell.
use Rattle.std.proofs.Common.{◌≡◌, ◌≢◌, ◌⊎◌, ℕ, ◌+◌, ◌-◌, ◌*◌, ◌/◌, ◌%◌, ◌^◌, ◌<◌, ◌≤◌, Bool, true, false, cond, not, ◌&&◌, ◌||◌, List, [], ◌∷◌, ◌++◌, map, length, get_or, refl, sym, ap, ◌∙◌, subst, inl, inr, arith, Some, None, Option, encode_utf8_all}
use Rattle.std.proofs.Math.Logic.{⊎_elim}
use Rattle.std.proofs.Math.Utf8.{scalar, scalars, next, encode, encodes, low_scalar, scalar_cases}
use Rattle.std.proofs.lemmas.Bool.Decides.{nat_tests}
use Rattle.std.proofs.lemmas.List.Elements.{All-nil, All-head, All-tail, All-cons, All-append}
use Rattle.std.proofs.lemmas.Str.{utf16_chars-nil, utf16_chars_lone, utf16_chars_pair, chars-encodes, utf8_lossy-IsUtf8, scalars-chars}
use Rattle.std.proofs.str.Utf16.{IsPair, one_unit, two_units, pair_units, lone_unit_char_low, lone_unit_char_high, lone_unit_char_surrogate}
use Rattle.std.proofs.str.Laws.{order, both, one, two, three, four}
use Rattle.std.specs.Prelude.{All, chars, is_some, unwrap_or}
use Rattle.std.specs.List.{flat_map, list_any}
use Rattle.std.specs.Char.Escape.{encode_utf16}
use Rattle.std.specs.Char.Utf16.{utf16_chars, utf16_lossy_chars, lone_unit_char, surrogate_pair_char, has_unpaired_surrogate}
use Rattle.std.specs.Str.{IsUtf8}
use Rattle.std.specs.Str.Lossy.{utf8_lossy}
use Rattle.string_images.specs.Texts.{utf8_of, units_of}
use Rattle.string_images.specs.Laws.{IsUnits, TextsRoundTrip, ReadSurrogatesArePaired, EndsAreFirst}

-- two units are a pair of surrogates, or they aren't
pair_or_not : (u v : ℕ) → IsPair u v ⊎ (¬ (IsPair u v))
pair_or_not u v =
    ⊎_elim (λ a. inr (λ p. omega (arith, p.0))) (λ a.
    ⊎_elim (λ b.
    ⊎_elim (λ c. inr (λ p. omega (arith, p.2))) (λ c.
    ⊎_elim (λ d. inl (a, b, c, d)) (λ d. inr (λ p. omega (arith, p.3))) (order v 0xE000))
    (order v 0xDC00))
    (λ b. inr (λ p. omega (arith, p.1))) (order u 0xDC00))
    (order u 0xD800)

-- a fact about the characters of all texts, by the character at the front
module _ (P : List ℕ → List (Option ℕ) → Type 0)
    (none : P [] [])
    (lone : (u : ℕ) (us : List ℕ) → P us (utf16_chars us) → P (u ∷ us) (lone_unit_char u ∷ utf16_chars us))
    (pair : (u v : ℕ) (us : List ℕ) → IsPair u v → P us (utf16_chars us) → P (u ∷ v ∷ us) (Some (surrogate_pair_char u v) ∷ utf16_chars us)) where
  pub by_characters : (units : List ℕ) → P units (utf16_chars units)
  by_characters [] = subst (P []) (sym utf16_chars-nil) none
  by_characters (u ∷ []) =
      let rest = subst (P []) (sym utf16_chars-nil) none in
      subst (P (u ∷ [])) (sym (utf16_chars_lone u [] (λ p. omega (arith, p.2)))) (lone u [] rest)
  by_characters (u ∷ v ∷ us) =
      ⊎_elim
      (λ p. subst (P (u ∷ v ∷ us)) (sym (utf16_chars_pair u v us p)) (pair u v us p (by_characters us)))
      (λ n. subst (P (u ∷ v ∷ us)) (sym (utf16_chars_lone u (v ∷ us) n)) (lone u (v ∷ us) (by_characters (v ∷ us))))
      (pair_or_not u v)

abbrev IsUnit : ℕ → Type 0
IsUnit unit = unit < 2 ^ 16

abbrev IsNonzero : ℕ → Type 0
IsNonzero n = n ≢ 0

both_true : (a b : Bool) → a ≡ true → b ≡ true → (a && b) ≡ true
both_true a b p q = λ i. p i && q i

high_scalar : (c : ℕ) → 0xE000 ≤ c → c < 0x11_0000 → scalar c ≡ true
high_scalar c low below = grind (arith, nat_tests, low, below)

lone_scalar : (u : ℕ) → u < 2 ^ 16 → scalar (unwrap_or (lone_unit_char u) 0xFFFD) ≡ true
lone_scalar u fits =
    ⊎_elim (λ a. rw (lone_unit_char_low u a) (low_scalar u a))
    (λ a. ⊎_elim (λ b. rw (lone_unit_char_surrogate u a b) refl)
    (λ b. rw (lone_unit_char_high u b) (high_scalar u b (omega arith)))
    (order u 0xE000))
    (order u 0xD800)

pair_scalar : (u v : ℕ) → IsPair u v → scalar (surrogate_pair_char u v) ≡ true
pair_scalar u v p = high_scalar (surrogate_pair_char u v) (omega (arith, p.0)) (omega (arith, p.0, p.1, p.2, p.3))

-- the characters of a text are Unicode scalar values
pub scalars_of : (units : List ℕ) → IsUnits units → scalars (utf16_lossy_chars units) ≡ true
scalars_of = by_characters
    (λ units cs. IsUnits units → scalars (map (λ o. unwrap_or o 0xFFFD) cs) ≡ true)
    (λ _. refl)
    (λ u us rest fit. both_true _ _ (lone_scalar u (All-head IsUnit u us fit)) (rest (All-tail IsUnit u us fit)))
    (λ u v us p rest fit. both_true _ _ (pair_scalar u v p) (rest (All-tail IsUnit v us (All-tail IsUnit u (v ∷ us) fit))))

either_false : (a b : Bool) → (a || b) ≡ false → (a ≡ false) × (b ≡ false)
either_false true b h = absurd (cc)
either_false false b h = (refl, h)

lone_unit : (u : ℕ) → not (is_some (lone_unit_char u)) ≡ false → u < 2 ^ 16 → encode_utf16 (unwrap_or (lone_unit_char u) 0xFFFD) ≡ u ∷ []
lone_unit u paired fits =
    ⊎_elim (λ a. rw (lone_unit_char_low u a) (one_unit u fits))
    (λ a. ⊎_elim (λ b.
    let none : not (is_some (lone_unit_char u)) ≡ true = rw (lone_unit_char_surrogate u a b) refl in absurd cc)
    (λ b. rw (lone_unit_char_high u b) (one_unit u fits))
    (order u 0xE000))
    (order u 0xD800)

pair_back : (u v : ℕ) → IsPair u v → encode_utf16 (surrogate_pair_char u v) ≡ u ∷ v ∷ []
pair_back u v p =
    let same : surrogate_pair_char u v ≡ 0x1_0000 + ((u - 0xD800) * 0x400 + (v - 0xDC00)) = omega arith in
    ap encode_utf16 same ∙ pair_units u v p.0 p.2 p.3

-- a text without a lone surrogate is the units of its characters
pub spelled_back : (units : List ℕ) → IsUnits units → has_unpaired_surrogate units ≡ false → flat_map encode_utf16 (utf16_lossy_chars units) ≡ units
spelled_back = by_characters
    (λ units cs. IsUnits units → list_any (λ o. not (is_some o)) cs ≡ false → flat_map encode_utf16 (map (λ o. unwrap_or o 0xFFFD) cs) ≡ units)
    (λ _ _. refl)
    (λ u us rest fit paired.
    let parts = either_false _ _ paired in
    λ i. lone_unit u parts.0 (All-head IsUnit u us fit) i ++ rest (All-tail IsUnit u us fit) parts.1 i)
    (λ u v us p rest fit paired. λ i. pair_back u v p i ++ rest (All-tail IsUnit v us (All-tail IsUnit u (v ∷ us) fit)) paired i)

pub texts_round_trip : TextsRoundTrip
texts_round_trip units fit paired =
    let cs = utf16_lossy_chars units in
    let good = scalars_of units fit in
    let utf8 : IsUtf8 (encodes cs) = (cs, (good, refl)) in
    ap (λ bs. flat_map encode_utf16 (chars bs)) (utf8_lossy-IsUtf8 (encodes cs) utf8)
    ∙ ap (flat_map encode_utf16) (chars-encodes cs good)
    ∙ spelled_back units fit paired

-- ---- what is read
scalar_lone : (c : ℕ) → scalar c ≡ true → lone_unit_char c ≡ Some c
scalar_lone c s =
    ⊎_elim (λ a. lone_unit_char_low c a) (λ a. lone_unit_char_high c a.0) (scalar_cases c s)

scalar_unpaired : (c v : ℕ) → scalar c ≡ true → ¬ (IsPair c v)
scalar_unpaired c v s p = ⊎_elim (λ a. omega (arith, p.0)) (λ a. omega (arith, p.1, a.0)) (scalar_cases c s)

units_spell : (c : ℕ) (us : List ℕ) → scalar c ≡ true → utf16_chars (encode_utf16 c ++ us) ≡ Some c ∷ utf16_chars us
units_spell c us s =
    ⊎_elim
    (λ a. rw (one_unit c a) (utf16_chars_lone c us (scalar_unpaired c _ s) ∙ ap (λ o. o ∷ utf16_chars us) (scalar_lone c s)))
    (λ a.
    let top : c < 0x11_0000 = ⊎_elim (λ b. omega (arith, b)) (λ b. b.1) (scalar_cases c s) in
    let high = 0xD800 + (c - 0x1_0000) / 0x400 in
    let low = 0xDC00 + (c - 0x1_0000) % 0x400 in
    let same : surrogate_pair_char high low ≡ c = omega arith in
    let pair : IsPair high low = (omega arith, omega (arith, top), omega arith, omega arith) in
    rw (two_units c a) (utf16_chars_pair high low us pair ∙ ap (λ n. Some n ∷ utf16_chars us) same))
    (order c 0x1_0000)

-- no surrogate is alone among the units of characters
pub paired_units : (cs : List ℕ) → scalars cs ≡ true → has_unpaired_surrogate (flat_map encode_utf16 cs) ≡ false
paired_units [] s = ap (list_any (λ o. not (is_some o))) utf16_chars-nil
paired_units (c ∷ cs) s =
    let parts = both _ _ s in
    ap (list_any (λ o. not (is_some o))) (units_spell c (flat_map encode_utf16 cs) parts.0) ∙ paired_units cs parts.1

-- ---- ends
above_zero : (n : ℕ) → 0 < n → IsNonzero n
above_zero n above same = omega (arith, above, same)

nonzero-cons : (n : ℕ) (ns : List ℕ) → 0 < n → All IsNonzero ns → All IsNonzero (n ∷ ns)
nonzero-cons n ns above rest = All-cons IsNonzero n ns (above_zero n above) rest

encode_nonzero : (c : ℕ) → c ≢ 0 → All IsNonzero (encode c)
encode_nonzero c some =
    let last = nonzero-cons (next c) [] (omega arith) (All-nil IsNonzero) in
    let last_two = nonzero-cons (next (c / 64)) (next c ∷ []) (omega arith) last in
    let last_three = nonzero-cons (next (c / 4096)) (next (c / 64) ∷ next c ∷ []) (omega arith) last_two in
    let of_two = nonzero-cons (192 + c / 64) (next c ∷ []) (omega arith) last in
    let of_three = nonzero-cons (224 + c / 4096) (next (c / 64) ∷ next c ∷ []) (omega arith) last_two in
    let of_four = nonzero-cons (240 + c / 262144) (next (c / 4096) ∷ next (c / 64) ∷ next c ∷ []) (omega arith) last_three in
    ⊎_elim (λ a. subst (All IsNonzero) (sym (one c a)) (All-cons IsNonzero c [] some (All-nil IsNonzero))) (λ a.
    ⊎_elim (λ b. subst (All IsNonzero) (sym (two c a b)) of_two) (λ b.
    ⊎_elim (λ d. subst (All IsNonzero) (sym (three c b d)) of_three)
    (λ d. subst (All IsNonzero) (sym (four c d)) of_four)
    (order c 65536)) (order c 2048)) (order c 128)

lone_nonzero : (u : ℕ) → u ≢ 0 → unwrap_or (lone_unit_char u) 0xFFFD ≢ 0
lone_nonzero u some =
    ⊎_elim (λ a. rw (lone_unit_char_low u a) some)
    (λ a. ⊎_elim (λ b. rw (lone_unit_char_surrogate u a b) (λ e. omega arith))
    (λ b. rw (lone_unit_char_high u b) some)
    (order u 0xE000))
    (order u 0xD800)

pub ends_are_first : EndsAreFirst
ends_are_first = by_characters
    (λ units cs. All (λ unit. unit ≢ 0) units → All (λ byte. byte ≢ 0) (encodes (map (λ o. unwrap_or o 0xFFFD) cs)))
    (λ _. All-nil IsNonzero)
    (λ u us rest some. All-append IsNonzero (encode (unwrap_or (lone_unit_char u) 0xFFFD)) _ (encode_nonzero (unwrap_or (lone_unit_char u) 0xFFFD) (lone_nonzero u (All-head IsNonzero u us some))) (rest (All-tail IsNonzero u us some)))
    (λ u v us p rest some. All-append IsNonzero (encode (surrogate_pair_char u v)) _ (encode_nonzero (surrogate_pair_char u v) (above_zero (surrogate_pair_char u v) (omega arith))) (rest (All-tail IsNonzero v us (All-tail IsNonzero u (v ∷ us) some))))
