-- Reading, or binding, step after step: a value, or what was refused first. Whoever reads says what
-- a refusal is; for a file of many fields it is `Broken`, the first part that is broken and the
-- offset of its first field that is missing or wrong. A reader of the code answers by an error of
-- its own, which says such a refusal or want of memory.
use Rattle.std.specs.Prelude.{◌≡◌, ℕ, zero, suc, ◌+◌, Bool, nat_le, List, [], ◌∷◌, ◌++◌, length, Option, Some, None, Result, Ok, Err, ⊤, if◌then◌else◌}
use Rattle.byte_view.specs.Numbers.{le}

infixl 10 ◌>>=◌
abbrev pub ◌>>=◌ : {A B R : Type 0} → Result A R → (A → Result B R) → Result B R
(Ok x) >>= f = f x
(Err e) >>= f = Err e

-- refused unless a test holds
abbrev pub must : {R : Type 0} → Bool → R → Result ℕ R
must holds refusal = if holds then Ok 0 else Err refusal

-- what the steps 0 to n - 1 read, one after another
unfoldable pub listed : {A R : Type 0} → (ℕ → Result A R) → ℕ → Result (List A) R
listed step zero = Ok []
listed step (suc n) = listed step n >>= λ before. step n >>= λ last. Ok (before ++ last ∷ [])

-- the steps 0 to n - 1 as tests, one after another
unfoldable pub each : {R : Type 0} → (ℕ → Result ℕ R) → ℕ → Result ℕ R
each step zero = Ok 0
each step (suc n) = each step n >>= λ _. step n

-- a step for each of some things, one after another, from a state to a state
unfoldable pub steps : {S A R : Type 0} → (S → A → Result S R) → S → List A → Result S R
steps step s [] = Ok s
steps step s (x ∷ xs) = step s x >>= λ next. steps step next xs

-- the definition refuses by what an error says; where the error says nothing, it tells nothing
abbrev pub RefusedBy : {R Y : Type 0} → Option R → Result Y R → Type 0
RefusedBy (Some refusal) read = read ≡ Err refusal
RefusedBy None read = ⊤

-- A reader's error is the definition's refusal. `says` tells what an error says; want of memory
-- says nothing, and is free.
abbrev pub Refuses : {E R Y : Type 0} → (E → Option R) → E → Result Y R → Type 0
Refuses says e read = RefusedBy (says e) read

-- what a reader answered, seen by `view`, is what the definition reads
abbrev pub Reads : {E R X Y : Type 0} → (E → Option R) → (X → Y) → Result X E → Result Y R → Type 0
Reads says view (Ok x) read = read ≡ Ok (view x)
Reads says view (Err e) read = Refuses says e read

-- A reader wanted memory: its error says no refusal.
abbrev pub WantsMemory : {E R X : Type 0} → (E → Option R) → Result X E → Type 0
WantsMemory says (Ok x) = ⊥
WantsMemory says (Err e) = says e ≡ None

-- a part of a file, by its place in the reading order, and a file offset
abbrev pub Broken : Type 0
Broken = ℕ × ℕ

-- the number of n bytes at a place, which is missing where the file ends before it does
abbrev pub field : ℕ → List ℕ → ℕ → ℕ → Result ℕ Broken
field part bytes at n =
    if nat_le (at + n) (length bytes) then Ok (le bytes at n) else Err (part, at)

-- the same number, which is wrong unless it passes a test
abbrev pub field_where : (ℕ → Bool) → ℕ → List ℕ → ℕ → ℕ → Result ℕ Broken
field_where passes part bytes at n =
    field part bytes at n >>= λ x. if passes x then Ok x else Err (part, at)
