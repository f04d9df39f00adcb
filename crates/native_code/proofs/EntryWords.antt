-- Where argument words are at an entry.
use Rattle.std.proofs.Common.{◌≡◌, ◌≢◌, ◌∙◌, ℕ, zero, suc, ◌+◌, ◌-◌, ◌*◌, ◌<◌, Bool, true, false, cond, nat_lt, List, [], ◌∷◌, length, replicate, get_or, arith, refl, sym, ap}
use Rattle.std.proofs.lemmas.Bool.{ltb-true}
use Rattle.std.proofs.lemmas.List.{length-set, get_or-set_same, get_or-set_other}
use Rattle.lp64_convention.specs.declared.places.Slot.{Slot}
use Rattle.lp64_convention.specs.declared.places.Slot.TheVariants.{Reg, Stack}
use Rattle.lp64_convention.specs.Places.{place_of}
use Rattle.native_code.specs.Entry.{with_word, with_words, bare_registers, entry_registers}
use Rattle.native_code.specs.Laws.{EntriesHoldWords}

-- the register of word k is a0 + k, and there is one only for the first eight
record InRegister (k number : ℕ) : Type 0 where
  low : k < 8
  is : number ≡ 10 + k

register_if : (k number : ℕ) (low : Bool) → nat_lt k 8 ≡ low → cond low (Reg (10 + k)) (Stack (8 * (k - 8))) ≡ Reg number → InRegister k number
register_if k number true is e = record { low = ltb-true k 8 is; is = let same : Reg (10 + k) ≡ Reg number = e in cc }
register_if k number false is e = absurd (let no : Stack (8 * (k - 8)) ≡ Reg number = e in cc)

in_register : (k number : ℕ) → place_of k ≡ Reg number → InRegister k number
in_register k number e = register_if k number (nat_lt k 8) refl e

word_length : (x : List ℕ) (slot : Slot) (word : ℕ) → length (with_word x slot word) ≡ length x
word_length x (Reg number) word = length-set x number word
word_length x (Stack _) word = refl

words_length : (k : ℕ) (x words : List ℕ) → length (with_words k x words) ≡ length x
words_length k x [] = refl
words_length k x (word ∷ words) = words_length (k + 1) (with_word x (place_of k) word) words ∙ word_length x (place_of k) word

-- a register that a word isn't passed in
word_other : (x : List ℕ) (slot : Slot) (word number : ℕ) → slot ≢ Reg number → get_or (with_word x slot word) number 0 ≡ get_or x number 0
word_other x (Reg to) word number other = get_or-set_other x to number word 0 (λ e. other (ap (λ r. Reg r) (sym e)))
word_other x (Stack at) word number other = refl

words_other : (k : ℕ) (x words : List ℕ) (number : ℕ) → ((j : ℕ) → j < length words → place_of (k + j) ≢ Reg number)
    → get_or (with_words k x words) number 0 ≡ get_or x number 0
words_other k x [] number others = refl
words_other k x (word ∷ words) number others =
    words_other (k + 1) (with_word x (place_of k) word) words number
    (λ j low is. others (j + 1) (omega arith) (ap (λ n. place_of n) (let same : k + (j + 1) ≡ k + 1 + j = omega arith in same) ∙ is))
    ∙ word_other x (place_of k) word number (λ is. others 0 (omega arith) (ap (λ n. place_of n) (let same : k + 0 ≡ k = omega arith in same) ∙ is))

-- one that it is passed in
word_there : (x : List ℕ) (k word number : ℕ) → length x ≡ 32 → place_of k ≡ Reg number → get_or (with_word x (place_of k) word) number 0 ≡ word
word_there x k word number count is =
    let there = in_register k number is in
    ap (λ slot. get_or (with_word x slot word) number 0) is ∙ get_or-set_same x number word 0 (omega (arith, there.low, there.is))

words_there : (k : ℕ) (x words : List ℕ) (j number : ℕ) → length x ≡ 32 → j < length words → place_of (k + j) ≡ Reg number
    → get_or (with_words k x words) number 0 ≡ get_or words j 0
words_there k x [] j number count low is = absurd (omega arith)
words_there k x (word ∷ words) zero number count low is =
    let here : place_of k ≡ Reg number = ap (λ n. place_of n) (let same : k ≡ k + 0 = omega arith in same) ∙ is in
    let first = in_register k number here in
    words_other (k + 1) (with_word x (place_of k) word) words number
    (λ i _ later. let there = in_register (k + 1 + i) number later in omega (arith, first.is, there.is))
    ∙ word_there x k word number count here
words_there k x (word ∷ words) (suc j) number count low is =
    words_there (k + 1) (with_word x (place_of k) word) words j number (word_length x (place_of k) word ∙ count) (omega arith)
    (ap (λ n. place_of n) (let same : k + 1 + j ≡ k + suc j = omega arith in same) ∙ is)

zeros : (count n : ℕ) → get_or (replicate count zero) n zero ≡ zero
zeros zero n = refl
zeros (suc count) zero = refl
zeros (suc count) (suc n) = zeros count n

bare_others : (sp number : ℕ) → number ≢ 1 → number ≢ 2 → get_or (bare_registers sp) number 0 ≡ 0
bare_others sp zero ra stack = refl
bare_others sp (suc zero) ra stack = absurd (ra refl)
bare_others sp (suc (suc zero)) ra stack = absurd (stack refl)
bare_others sp (suc (suc (suc n))) ra stack = zeros 29 n

below_words : (k number : ℕ) → number < 10 → place_of k ≢ Reg number
below_words k number low is = let there = in_register k number is in omega (arith, there.is)

from_none : (k : ℕ) → place_of (0 + k) ≡ place_of k
from_none k = ap (λ n. place_of n) (let same : 0 + k ≡ k = omega arith in same)

pub entries_hold_words : EntriesHoldWords
unfolding entry_registers
entries_hold_words at sp words = record {
  pc = refl;
  count = words_length 0 (bare_registers sp) words;
  ra = words_other 0 (bare_registers sp) words 1 (λ k _. below_words (0 + k) 1 (omega arith));
  stack = words_other 0 (bare_registers sp) words 2 (λ k _. below_words (0 + k) 2 (omega arith));
  passed = λ k number low is. words_there 0 (bare_registers sp) words k number refl low (from_none k ∙ is);
  others = λ number ra stack free.
      words_other 0 (bare_registers sp) words number (λ k low is. free k low (sym (from_none k) ∙ is)) ∙ bare_others sp number ra stack;
}
