-- Two names with one printed form are one name: each byte is read back from the front of what is printed.
use Rattle.std.proofs.Common.{◌≡◌, ◌≢◌, ◌⊎◌, ℕ, ◌/◌, ◌%◌, ◌<◌, Bool, true, false, List, [], ◌∷◌, ◌++◌, if◌then◌else◌, refl, sym, inl, inr, arith}
use Rattle.std.proofs.lemmas.Bool.Decides.{nat_tests}
use Rattle.std.specs.Prelude.{All}
use Rattle.std.proofs.lemmas.List.Elements.{All-nil, All-head, All-tail, All-cons, All-append}
use Rattle.bound_base.specs.Names.{stands, digit, escaped_byte, escaped, PrintedNamesDiffer, IsPrintable, PrintedNamesShow}

digit_injective : (m n : ℕ) → m < 16 → n < 16 → digit m ≡ digit n → m ≡ n
digit_injective m n m_lt n_lt same = grind (arith, nat_tests, same)

byte_from_digits : (m n : ℕ) → m < 256 → n < 256 → digit (m / 16) ≡ digit (n / 16) → digit (m % 16) ≡ digit (n % 16) → m ≡ n
byte_from_digits m n m_lt n_lt high low =
    let h : m / 16 ≡ n / 16 = digit_injective (m / 16) (n / 16) (omega arith) (omega arith) high in
    let l : m % 16 ≡ n % 16 = digit_injective (m % 16) (n % 16) (omega arith) (omega arith) low in
    omega arith

-- what is printed for a byte, by whether it stands, and its two digits
printed : Bool → ℕ → ℕ → ℕ → List ℕ
printed p byte high low = if p then byte ∷ [] else 0x5C ∷ high ∷ low ∷ []

-- what stands isn't `\`
backslash_does_not_stand : (byte : ℕ) → stands byte ≡ true → byte ≢ 0x5C
backslash_does_not_stand byte stood same = grind (arith, nat_tests, stood, same)

first_apart : (p q : Bool) (m n mh ml nh nl : ℕ) (s t : List ℕ) → (p ≡ true → m ≢ 0x5C) → (q ≡ true → n ≢ 0x5C) →
    printed p m mh ml ++ s ≡ printed q n nh nl ++ t → ((m ≡ n) ⊎ ((mh ≡ nh) × (ml ≡ nl))) × (s ≡ t)
unfolding printed
first_apart true true m n mh ml nh nl s t hp hq same = (inl cc, cc)
first_apart true false m n mh ml nh nl s t hp hq same = absurd (hp refl cc)
first_apart false true m n mh ml nh nl s t hp hq same = absurd (hq refl cc)
first_apart false false m n mh ml nh nl s t hp hq same = (inr (cc, cc), cc)

escaped_byte_apart : (m n : ℕ) (s t : List ℕ) → m < 256 → n < 256 → escaped_byte m ++ s ≡ escaped_byte n ++ t → (m ≡ n) × (s ≡ t)
unfolding printed escaped_byte
escaped_byte_apart m n s t m_lt n_lt same =
    let apart = first_apart (stands m) (stands n) m n (digit (m / 16)) (digit (m % 16)) (digit (n / 16)) (digit (n % 16)) s t
    (backslash_does_not_stand m) (backslash_does_not_stand n) same in
    (elim apart.0 [ inl e ↦ e | inr e ↦ byte_from_digits m n m_lt n_lt e.0 e.1 ], apart.1)

-- what is printed for a byte isn't empty
printed_some : (p : Bool) (m h l : ℕ) (s : List ℕ) → printed p m h l ++ s ≡ [] → ⊥
unfolding printed
printed_some true m h l s same = cc
printed_some false m h l s same = cc

escaped_byte_some : (m : ℕ) (s : List ℕ) → escaped_byte m ++ s ≡ [] → ⊥
unfolding printed escaped_byte
escaped_byte_some m s same = printed_some (stands m) m (digit (m / 16)) (digit (m % 16)) s same

pub printed_apart : PrintedNamesDiffer
printed_apart [] [] a_bytes b_bytes same = refl
printed_apart [] (n ∷ b) a_bytes b_bytes same = absurd (escaped_byte_some n (escaped b) (sym same))
printed_apart (m ∷ a) [] a_bytes b_bytes same = absurd (escaped_byte_some m (escaped a) same)
printed_apart (m ∷ a) (n ∷ b) a_bytes b_bytes same =
    let apart = escaped_byte_apart m n (escaped a) (escaped b) (All-head (λ byte. byte < 256) m a a_bytes) (All-head (λ byte. byte < 256) n b b_bytes) same in
    let rest : a ≡ b = printed_apart a b (All-tail (λ byte. byte < 256) m a a_bytes) (All-tail (λ byte. byte < 256) n b b_bytes) apart.1 in
    let first : m ≡ n = apart.0 in
    cc

-- what is printed for a byte shows, by whether it stands
printed_shows : (p : Bool) (byte high low : ℕ) → (p ≡ true → IsPrintable byte) → IsPrintable high → IsPrintable low → All IsPrintable (printed p byte high low)
unfolding printed
printed_shows true byte high low stood h l = All-cons IsPrintable byte [] (stood refl) (All-nil IsPrintable)
printed_shows false byte high low stood h l =
    All-cons IsPrintable 0x5C (high ∷ low ∷ []) (omega arith, omega arith)
    (All-cons IsPrintable high (low ∷ []) h (All-cons IsPrintable low [] l (All-nil IsPrintable)))

digit_shows : (value : ℕ) → value < 16 → IsPrintable (digit value)
digit_shows value small = (grind (arith, nat_tests), grind (arith, nat_tests))

stood_shows : (byte : ℕ) → stands byte ≡ true → IsPrintable byte
stood_shows byte stood = (grind (arith, nat_tests, stood), grind (arith, nat_tests, stood))

byte_shows : (byte : ℕ) → byte < 256 → All IsPrintable (escaped_byte byte)
unfolding printed escaped_byte
byte_shows byte small =
    printed_shows (stands byte) byte (digit (byte / 16)) (digit (byte % 16)) (stood_shows byte) (digit_shows (byte / 16) (omega arith)) (digit_shows (byte % 16) (omega arith))

pub all_shows : PrintedNamesShow
all_shows [] bytes = (All-nil IsPrintable)
all_shows (byte ∷ name) bytes =
    All-append IsPrintable (escaped_byte byte) (escaped name) (byte_shows byte (All-head (λ b. b < 256) byte name bytes)) (all_shows name (All-tail (λ b. b < 256) byte name bytes))
