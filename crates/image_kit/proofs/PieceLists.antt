-- Pieces one after another, and tests of each number below one.
use Rattle.std.proofs.Common.{◌≡◌, ℕ, zero, suc, ◌+◌, ◌*◌, ◌<◌, Bool, true, false, ◌&&◌, List, [], ◌++◌, length, refl, ap, ◌∙◌, inl, inr, subst, add-one, arith}
use Rattle.std.proofs.lemmas.Bool.{cases_lt, and_parts}
use Rattle.std.proofs.lemmas.List.{length-append}
use Rattle.image_kit.specs.AssemblyFile.{pieces}
use Rattle.image_kit.specs.AssemblyReads.{all_below}
use Rattle.image_kit.proofs.Stands.{Stands, stands_front, stands_back}
use Rattle.image_kit.proofs.Pieces.{grown}

pub pieces_none : (f : ℕ → List ℕ) → pieces f 0 ≡ []
unfolding pieces
pieces_none f = refl

-- one more piece
pub pieces_more : (f : ℕ → List ℕ) (n : ℕ) → pieces f (n + 1) ≡ pieces f n ++ f n
unfolding pieces
pieces_more f n = rw add-one refl

pub pieces_next : (f : ℕ → List ℕ) (n : ℕ) → pieces f (suc n) ≡ pieces f n ++ f n
unfolding pieces
pieces_next f n = refl

-- what was put behind some bytes, with one more piece
pub pieces_grown : (old before after : List ℕ) (f : ℕ → List ℕ) (n : ℕ) → before ≡ old ++ pieces f n → after ≡ before ++ f n → after ≡ old ++ pieces f (n + 1)
pieces_grown old before after f n b a = grown old (pieces f n) (pieces f (n + 1)) (f n) before after b a (pieces_more f n)

-- a piece among the pieces
pub piece_stands : (bytes : List ℕ) (at : ℕ) (f : ℕ → List ℕ) (n k : ℕ) → Stands bytes at (pieces f n) → k < n → Stands bytes (at + length (pieces f k)) (f k)
unfolding pieces
piece_stands bytes at f zero k s h = absurd (omega arith)
piece_stands bytes at f (suc n) k s h =
    elim (cases_lt k n) [
      | inl l ↦ piece_stands bytes at f n k (stands_front bytes at (pieces f n) (f n) s) l
      | inr g ↦ (let same : n ≡ k = omega arith in
          let place : at + length (pieces f n) ≡ at + length (pieces f k) = ap (λ m. at + length (pieces f m)) same in
          let P : ℕ → Type 0 = λ m. Stands bytes (at + length (pieces f k)) (f m) in
          subst P same (stands_back bytes at (at + length (pieces f k)) (pieces f n) (f n) s place))
    ]

-- ---- tests

and_false : (b : Bool) → (b && false) ≡ false
and_false true = refl
and_false false = refl

pub all_below_at : (test : ℕ → Bool) (n k : ℕ) → all_below test n ≡ true → k < n → test k ≡ true
unfolding all_below
all_below_at test zero k e h = absurd (omega arith)
all_below_at test (suc n) k e h =
    let both = and_parts (all_below test n) (test n) e in
    elim (cases_lt k n) [
      | inl l ↦ all_below_at test n k both.0 l
      | inr g ↦ (let same : k ≡ n = omega arith in rw same both.1)
    ]

pub all_below_none : (test : ℕ → Bool) → all_below test 0 ≡ true
unfolding all_below
all_below_none test = refl

-- one more number that passes
pub all_below_more : (test : ℕ → Bool) (n : ℕ) → all_below test n ≡ true → test n ≡ true → all_below test (n + 1) ≡ true
unfolding all_below
all_below_more test n before here = rw (add-one, before, here) refl

-- a number that fails
pub all_below_fails : (test : ℕ → Bool) (n k : ℕ) → k < n → test k ≡ false → all_below test n ≡ false
unfolding all_below
all_below_fails test zero k h e = absurd (omega arith)
all_below_fails test (suc n) k h e =
    elim (cases_lt k n) [
      | inl l ↦ (let before : all_below test n ≡ false = all_below_fails test n k l e in rw before refl)
      | inr g ↦ (let same : k ≡ n = omega arith in
          let here : test n ≡ false = rw same at e in
          rw here (and_false (all_below test n)))
    ]

-- equal pieces make equal lists
pub pieces_same : (f g : ℕ → List ℕ) (n : ℕ) → ((k : ℕ) → k < n → f k ≡ g k) → pieces f n ≡ pieces g n
unfolding pieces
pieces_same f g zero h = refl
pieces_same f g (suc n) h =
    let before : pieces f n ≡ pieces g n = pieces_same f g n (λ k l. h k (omega arith)) in
    let last : f n ≡ g n = h n (omega arith) in
    rw (before, last) refl

-- the length of pieces of one length
pub length-pieces : (f : ℕ → List ℕ) (n size : ℕ) → ((k : ℕ) → k < n → length (f k) ≡ size) → length (pieces f n) ≡ n * size
unfolding pieces
length-pieces f zero size h = omega arith
length-pieces f (suc n) size h =
    let before : length (pieces f n) ≡ n * size = length-pieces f n size (λ k l. h k (omega arith)) in
    let here : length (f n) ≡ size = h n (omega arith) in
    length-append (pieces f n) (f n) ∙ ap (λ m. m + length (f n)) before ∙ ap (λ m. n * size + m) here ∙ (grind arith)
