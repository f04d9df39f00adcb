-- Numbers as words: what `from_str_radix` and `strip_prefix` say, in the words of the grammar.
use Rattle.std.proofs.Common.{◌≡◌, ℕ, ◌<◌, ◌≤◌, true, false, List, [], ◌∷◌, length, drop, get_or, Option, Some, None, Result, Ok, Err, ◌≢◌, ◌^◌, sym, ◌∙◌, ap, subst, refl, arith, Bor}
use Rattle.std.proofs.lemmas.Bool.{and_from, and_parts, lt-ltb, le-leb, ltb-true, leb-true, cond-true, cond-false, false_from_ne_true}
use Rattle.std.proofs.lemmas.Result.{OkIff-at_ok, OkIff-at_err}
use Rattle.std.proofs.lemmas.Str.Parse.{without_leading_plus_none}
use Rattle.std.proofs.lemmas.Str.Pattern.{starts_text}
use Rattle.std.specs.Prelude.{MatchOption, IsCharBoundary}
use Rattle.std.specs.List.{list_all}
use Rattle.std.specs.Char.{is_digit, digit_value}
use Rattle.std.specs.Option.{option_copied}
use Rattle.std.specs.Str.Parse.{AllDigits, IsNumeral, digits_value, ParsesUnsigned, without_leading_plus}
use Rattle.std.specs.Str.Pattern.{FindsTextPrefix, StripsPrefix}
use Rattle.host_run.specs.Grammar.{number, after}

-- digits, as a test and as a fact
pub all_digits : (base : ℕ) (ds : List ℕ) → AllDigits base ds → list_all (λ d. is_digit d base) ds ≡ true
all_digits base [] h = refl
all_digits base (d ∷ ds) h = and_from _ _ (lt-ltb (digit_value d) base h.0) (all_digits base ds h.1)

pub digits_all : (base : ℕ) (ds : List ℕ) → list_all (λ d. is_digit d base) ds ≡ true → AllDigits base ds
digits_all base [] h = tt
digits_all base (d ∷ ds) h =
    let p = and_parts (is_digit d base) (list_all (λ d. is_digit d base) ds) h in
    (ltb-true (digit_value d) base p.0, digits_all base ds p.1)

pub number_some : (base most greatest : ℕ) (ds : List ℕ) → IsNumeral base ds → length ds ≤ most → digits_value base ds ≤ greatest → number base most greatest ds ≡ Some (digits_value base ds)
unfolding number
number_some base most greatest ds n short small =
    cond-true _ _ _ (and_from _ _ (and_from _ _ (and_from _ _ (lt-ltb 0 (length ds) n.0) (le-leb (length ds) most short)) (all_digits base ds n.1)) (le-leb (digits_value base ds) greatest small))

pub number_none : (base most greatest : ℕ) (ds : List ℕ) → (IsNumeral base ds → length ds ≤ most → digits_value base ds ≤ greatest → ⊥) → number base most greatest ds ≡ None
unfolding number
number_none base most greatest ds never =
    cond-false _ _ _ (false_from_ne_true _ (λ e.
    let p = and_parts _ _ e in
    let q = and_parts _ _ p.0 in
    let r = and_parts _ _ q.0 in
    never (ltb-true 0 (length ds) r.0, digits_all base ds q.1) (leb-true (length ds) most r.1) (leb-true (digits_value base ds) greatest p.1)))

-- a plus is no digit
pub number_plus : (base most greatest : ℕ) (ds : List ℕ) → base ≤ 36 → get_or ds 0 0 ≡ 43 → number base most greatest ds ≡ None
number_plus base most greatest [] small plus = number_none base most greatest [] (λ n. absurd (omega (arith, n.0)))
number_plus base most greatest (d ∷ ds) small plus =
    number_none base most greatest (d ∷ ds) (λ n _ _.
    let below : digit_value 43 < base = subst (λ b. digit_value b < base) plus n.1.0 in
    omega arith)

as_it_is : (ds : List ℕ) → get_or ds 0 0 ≢ 43 → without_leading_plus ds ≡ ds
as_it_is ds plain = without_leading_plus_none ds plain

-- what `from_str_radix` gives for a text that doesn't begin with a plus
module _ {E : Type 0} (base most greatest : ℕ) (ds : List ℕ) (plain : get_or ds 0 0 ≢ 43) where
  pub number_read : (r : Result ℕ E) (v : ℕ) → ParsesUnsigned 64 base ds r → r ≡ Ok v → length ds ≤ most → v ≤ greatest → number base most greatest ds ≡ Some v
  number_read r v parses was short small =
      let p = OkIff-at_ok r _ _ v parses was in
      let value : v ≡ digits_value base ds = p.1 ∙ ap (digits_value base) (as_it_is ds plain) in
      number_some base most greatest ds (subst (IsNumeral base) (as_it_is ds plain) p.0.0) short (omega (arith, value, small)) ∙ ap Some (sym value)

  pub number_above : (r : Result ℕ E) (v : ℕ) → ParsesUnsigned 64 base ds r → r ≡ Ok v → greatest < v → number base most greatest ds ≡ None
  number_above r v parses was large =
      let p = OkIff-at_ok r _ _ v parses was in
      let value : v ≡ digits_value base ds = p.1 ∙ ap (digits_value base) (as_it_is ds plain) in
      number_none base most greatest ds (λ _ _ small. absurd (omega (arith, value, small, large)))

  pub number_unread : (r : Result ℕ E) (e : E) → ParsesUnsigned 64 base ds r → r ≡ Err e → greatest < 2 ^ 64 → number base most greatest ds ≡ None
  number_unread r e parses was small =
      number_none base most greatest ds (λ numeral _ within.
      OkIff-at_err r _ _ e parses was (subst (λ (t : List ℕ). IsNumeral base t × (digits_value base t < 2 ^ 64)) (sym (as_it_is ds plain)) (numeral, omega (arith, within, small))))

-- what `strip_prefix` gives
pub stripped : (start word : List ℕ) (r : Option (Bor (List ℕ))) → MatchOption r (FindsTextPrefix start word None) (λ x. StripsPrefix (FindsTextPrefix start) word x.now) → option_copied r ≡ after start word
unfolding after
stripped start word None lacks = sym (cond-false _ _ _ (sym (starts_text false start word lacks)))
stripped start word (Some x) found =
    let at = found.1 in
    let begins = starts_text true start word (found.0, at, subst (IsCharBoundary word) (sym at.0) at.2) in
    ap Some (found.2 ∙ ap (λ k. drop k word) at.0) ∙ sym (cond-true _ _ _ (sym begins))
