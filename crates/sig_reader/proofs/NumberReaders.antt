-- Compressed numbers are read as the grammar has them.
use Rattle.std.proofs.Common.{◌≡◌, ℕ, zero, suc, ◌+◌, ◌-◌, ◌*◌, ◌%◌, ◌≤◌, Bool, true, false, cond, not, List, [], ◌∷◌, ◌++◌, Ok, refl, sym, ◌∙◌, ap, arith}
use Rattle.std.specs.Prelude.{MatchBool, nat_lt, ◌==◌}
use Rattle.std.proofs.lemmas.Bool.Decides.{nat_tests}
use Rattle.sig_reader.specs.declared.numbers.Numbers.{Numbers}
use Rattle.sig_reader.specs.declared.numbers.Numbers.TheVariants.{Between, Coded}
use Rattle.sig_reader.specs.Numbers.{allows, any_number, token_of, signed_of}
use Rattle.sig_reader.specs.Grammar.{◌▷◌, Gives, IsByte, IsNumber, IsUnsigned, IsSigned, IsToken}
use Rattle.sig_reader.specs.Reading.{byte_where, may_take, opens, two_bytes_in, four_bytes_in, number_after, number_in, unsigned_in, signed_in, token_in}
use Rattle.sig_reader.proofs.Readers.{Reader, gives, joined, same_relation, branch, byte}

-- the place takes a number, and 1 where it doesn't take 0
abbrev pub IsOpen : Numbers → Type 0
IsOpen (Between least most) = (least ≤ 1) × (least ≤ most)
IsOpen Coded = Unit {0}

between : (least most n : ℕ) → least ≤ n → n ≤ most → allows (Between least most) n ≡ true
between least most n a b = grind (arith, nat_tests)

below_most : (least most n : ℕ) → allows (Between least most) n ≡ true → n ≤ most
below_most least most n h = grind (arith, nat_tests)

first_byte : (numbers : Numbers) → IsOpen numbers → (a : ℕ) × (opens numbers a ≡ true)
first_byte (Between least most) o =
    let below : nat_lt least 0x80 ≡ true = grind (arith, nat_tests) in
    (least, rw below (between least most least (omega arith) o.1))
first_byte Coded o = (0, refl)

last_byte : (numbers : Numbers) → IsOpen numbers → (v : ℕ) → may_take numbers (v * 256) ≡ true → (b : ℕ) × (allows numbers (v * 256 + b) ≡ true)
last_byte (Between least most) o zero h = (least, between least most (0 * 256 + least) (omega arith) (omega arith))
last_byte (Between least most) o (suc v) h =
    let within : suc v * 256 ≤ most = grind (arith, nat_tests) in
    (0, between least most (suc v * 256 + 0) (omega arith) (omega arith))
last_byte Coded o v h =
    let even : (v * 256 + 0) % 4 ≡ 0 = omega arith in
    (0, ap (λ r. not (r == 3)) even)

-- a place that takes a number takes those that begin as it does
may_begin : (numbers : Numbers) (n low : ℕ) → low ≤ n → allows numbers n ≡ true → may_take numbers low ≡ true
may_begin (Between least most) n low h a =
    let within : n ≤ most = below_most least most n a in
    grind (arith, nat_tests)
may_begin Coded n low h a = refl

-- the value of two bytes, and of four
abbrev two : ℕ → ℕ → ℕ
two a b = (a - 0x80) * 256 + b

abbrev four : ℕ → ℕ → ℕ → ℕ → ℕ
four a b c d = (((a - 0xC0) * 256 + b) * 256 + c) * 256 + d

-- the bytes after the first
abbrev AreTwo : Numbers → ℕ → List ℕ → ℕ × ℕ → Type 0
AreTwo numbers a = IsByte (λ b. allows numbers (two a b)) ▷ λ b. Gives (two a b, 2)

abbrev AreFour : Numbers → ℕ → List ℕ → ℕ × ℕ → Type 0
AreFour numbers a =
    IsByte (λ b. may_take numbers (((a - 0xC0) * 256 + b) * 0x10000)) ▷ λ b.
    IsByte (λ c. may_take numbers ((((a - 0xC0) * 256 + b) * 256 + c) * 256)) ▷ λ c.
    IsByte (λ d. allows numbers (four a b c d)) ▷ λ d.
    Gives (four a b c d, 4)

abbrev AreMore : Numbers → ℕ → List ℕ → ℕ × ℕ → Type 0
AreMore numbers a bytes x =
    MatchBool (nat_lt a 0x80) (Gives (a, 1) bytes x)
    (MatchBool (nat_lt a 0xC0) (AreTwo numbers a bytes x) (AreFour numbers a bytes x))

two_bytes : (numbers : Numbers) → IsOpen numbers → (a : ℕ) → may_take numbers ((a - 0x80) * 256) ≡ true → Reader (AreTwo numbers a) (two_bytes_in numbers a)
unfolding two_bytes_in
two_bytes numbers o a h =
    let b = last_byte numbers o (a - 0x80) h in
    joined (IsByte (λ b. allows numbers (two a b))) (λ b. Gives (two a b, 2)) _ (λ b bytes. Ok ((two a b, 2), bytes))
    (byte _ b.0 b.1) (λ b front s. gives (two a b, 2))

four_bytes : (numbers : Numbers) → IsOpen numbers → (a : ℕ) → may_take numbers ((a - 0xC0) * 0x1000000) ≡ true → Reader (AreFour numbers a) (four_bytes_in numbers a)
unfolding four_bytes_in
four_bytes numbers o a h =
    let second : ((a - 0xC0) * 256 + 0) * 0x10000 ≡ (a - 0xC0) * 0x1000000 = omega arith in
    joined (IsByte (λ b. may_take numbers (((a - 0xC0) * 256 + b) * 0x10000))) _ _ _
    (byte _ 0 (ap (may_take numbers) second ∙ h))
    (λ b front s.
    let third : (((a - 0xC0) * 256 + b) * 256 + 0) * 256 ≡ ((a - 0xC0) * 256 + b) * 0x10000 = omega arith in
    joined (IsByte (λ c. may_take numbers ((((a - 0xC0) * 256 + b) * 256 + c) * 256))) _ _ _
    (byte _ 0 (ap (may_take numbers) third ∙ s.1))
    (λ c front s.
    let d = last_byte numbers o (((a - 0xC0) * 256 + b) * 256 + c) s.1 in
    joined (IsByte (λ d. allows numbers (four a b c d))) _ _ _ (byte _ d.0 d.1) (λ d front s. gives (four a b c d, 4))))

opens_by : (numbers : Numbers) (a : ℕ) (small medium large : Bool) → cond small (allows numbers a) (cond medium (may_take numbers ((a - 0x80) * 256)) (cond large (may_take numbers ((a - 0xC0) * 0x1000000)) false)) ≡ true → small ≡ false → ((medium ≡ true) → may_take numbers ((a - 0x80) * 256) ≡ true) × ((medium ≡ false) → (large ≡ true) × (may_take numbers ((a - 0xC0) * 0x1000000) ≡ true))
opens_by numbers a true medium large h s = absurd cc
opens_by numbers a false true large h s = (λ m. h, λ m. absurd cc)
opens_by numbers a false false true h s = (λ m. absurd cc, λ m. (refl, h))
opens_by numbers a false false false h s = absurd cc

-- what stands after the first byte
more_bytes : (numbers : Numbers) → IsOpen numbers → (a : ℕ) → opens numbers a ≡ true → Reader (AreMore numbers a) (number_after numbers a)
more_bytes numbers o a h =
    branch (nat_lt a 0x80) (λ small. gives (a, 1)) (λ large.
    let parts = opens_by numbers a (nat_lt a 0x80) (nat_lt a 0xC0) (nat_lt a 0xE0) h large in
    branch (nat_lt a 0xC0)
    (λ medium. two_bytes numbers o a (parts.0 medium))
    (λ huge. four_bytes numbers o a (parts.1 huge).1))

abbrev AreBytes : Numbers → List ℕ → ℕ × ℕ → Type 0
AreBytes numbers = IsByte (opens numbers) ▷ AreMore numbers

bytes_of : (numbers : Numbers) → IsOpen numbers → Reader (AreBytes numbers) (number_in numbers)
unfolding number_in
bytes_of numbers o =
    let a = first_byte numbers o in
    joined (IsByte (opens numbers)) (AreMore numbers) (byte_where (opens numbers)) (number_after numbers) (byte _ a.0 a.1)
    (λ b front s. more_bytes numbers o b s.1)

-- by the size, the bytes after the first are a number's
to_more : (numbers : Numbers) (a : ℕ) (back : List ℕ) (x : ℕ × ℕ) (small medium : Bool) → opens numbers a ≡ true → nat_lt a 0x80 ≡ small → nat_lt a 0xC0 ≡ medium → MatchBool small (Gives (a, 1) back x) (MatchBool medium (AreTwo numbers a back x) (AreFour numbers a back x)) → IsNumber numbers (a ∷ back) x
to_more numbers a back x true medium o s m g =
    let taken : allows numbers a ≡ true =
    ap (λ b. cond b (allows numbers a) (cond (nat_lt a 0xC0) (may_take numbers ((a - 0x80) * 256)) (cond (nat_lt a 0xE0) (may_take numbers ((a - 0xC0) * 0x1000000)) false))) (sym s) ∙ o in
    rw (g.0, g.1) ((s, refl), taken)
to_more numbers a back x false true o s m j =
    let w : back ≡ j.first ∷ [] = j.whole ∙ ap (λ f. f ++ j.back) j.begins.0 ∙ ap (λ r. j.first ∷ r) j.goes_on.0 in
    rw (w, j.goes_on.1) ((s, m, refl), j.begins.1)
to_more numbers a back x false false o s m j =
    let k = j.goes_on in
    let l = k.goes_on in
    let parts = opens_by numbers a (nat_lt a 0x80) (nat_lt a 0xC0) (nat_lt a 0xE0) o s in
    let l_is : k.back ≡ l.first ∷ [] = l.whole ∙ ap (λ f. f ++ l.back) l.begins.0 ∙ ap (λ r. l.first ∷ r) l.goes_on.0 in
    let k_is : j.back ≡ k.first ∷ l.first ∷ [] = k.whole ∙ ap (λ f. f ++ k.back) k.begins.0 ∙ ap (λ r. k.first ∷ r) l_is in
    let w : back ≡ j.first ∷ k.first ∷ l.first ∷ [] = j.whole ∙ ap (λ f. f ++ j.back) j.begins.0 ∙ ap (λ r. j.first ∷ r) k_is in
    rw (w, l.goes_on.1) ((s, m, (parts.1 m).0, refl), l.begins.1)

to_number : (numbers : Numbers) (bytes : List ℕ) (x : ℕ × ℕ) → AreBytes numbers bytes x → IsNumber numbers bytes x
to_number numbers bytes x j =
    let w : bytes ≡ j.first ∷ j.back = j.whole ∙ ap (λ f. f ++ j.back) j.begins.0 in
    rw w (to_more numbers j.first j.back x (nat_lt j.first 0x80) (nat_lt j.first 0xC0) j.begins.1 refl refl j.goes_on)

from_number : (numbers : Numbers) (bytes : List ℕ) (x : ℕ × ℕ) → IsNumber numbers bytes x → AreBytes numbers bytes x
from_number numbers [] x s = absurd s.0
from_number numbers (a ∷ []) x s =
    let taken : allows numbers a ≡ true = ap (λ v. allows numbers v.0) (sym s.0.1) ∙ s.1 in
    record {
      front = a ∷ [];
      back = [];
      first = a;
      whole = refl;
      begins = (refl, rw s.0.0 taken);
      goes_on = rw s.0.0 (refl, s.0.1);
    }
from_number numbers (a ∷ b ∷ []) x s =
    let taken : allows numbers (two a b) ≡ true = ap (λ v. allows numbers v.0) (sym s.0.2) ∙ s.1 in
    let opened : may_take numbers ((a - 0x80) * 256) ≡ true = may_begin numbers (two a b) ((a - 0x80) * 256) (omega arith) taken in
    record {
      front = a ∷ [];
      back = b ∷ [];
      first = a;
      whole = refl;
      begins = (refl, rw (s.0.0, s.0.1) opened);
      goes_on = rw (s.0.0, s.0.1) (record {
        front = b ∷ [];
        back = [];
        first = b;
        whole = refl;
        begins = (refl, taken);
        goes_on = (refl, s.0.2);
      });
    }
from_number numbers (a ∷ b ∷ c ∷ []) x s = absurd s.0
from_number numbers (a ∷ b ∷ c ∷ d ∷ []) x s =
    let taken : allows numbers (four a b c d) ≡ true = ap (λ v. allows numbers v.0) (sym s.0.3) ∙ s.1 in
    let first : may_take numbers ((a - 0xC0) * 0x1000000) ≡ true = may_begin numbers (four a b c d) _ (omega arith) taken in
    let second : may_take numbers (((a - 0xC0) * 256 + b) * 0x10000) ≡ true = may_begin numbers (four a b c d) _ (omega arith) taken in
    let third : may_take numbers ((((a - 0xC0) * 256 + b) * 256 + c) * 256) ≡ true = may_begin numbers (four a b c d) _ (omega arith) taken in
    record {
      front = a ∷ [];
      back = b ∷ c ∷ d ∷ [];
      first = a;
      whole = refl;
      begins = (refl, rw (s.0.0, s.0.1, s.0.2) first);
      goes_on = rw (s.0.0, s.0.1) (record {
        front = b ∷ [];
        back = c ∷ d ∷ [];
        first = b;
        whole = refl;
        begins = (refl, second);
        goes_on = record {
          front = c ∷ [];
          back = d ∷ [];
          first = c;
          whole = refl;
          begins = (refl, third);
          goes_on = record {
            front = d ∷ [];
            back = [];
            first = d;
            whole = refl;
            begins = (refl, taken);
            goes_on = (refl, s.0.3);
          };
        };
      });
    }
from_number numbers (a ∷ b ∷ c ∷ d ∷ e ∷ bytes) x s = absurd s.0

pub number : (numbers : Numbers) → IsOpen numbers → Reader (IsNumber numbers) (number_in numbers)
number numbers o = same_relation (to_number numbers) (from_number numbers) (bytes_of numbers o)

pub unsigned : (numbers : Numbers) → IsOpen numbers → Reader (IsUnsigned numbers) (unsigned_in numbers)
unfolding unsigned_in
unsigned numbers o = joined (IsNumber numbers) (λ x. Gives x.0) (number_in numbers) (λ x bytes. Ok (x.0, bytes)) (number numbers o) (λ x front s. gives x.0)

pub any_is_open : IsOpen any_number
any_is_open = (omega arith, omega arith)

pub signed : Reader IsSigned signed_in
unfolding signed_in
signed = joined (IsNumber any_number) (λ x. Gives (signed_of x)) (number_in any_number) (λ x bytes. Ok (signed_of x, bytes)) (number any_number any_is_open) (λ x front s. gives (signed_of x))

pub token : Reader IsToken token_in
unfolding token_in
token = joined (IsNumber Coded) (λ x. Gives (token_of x.0)) (number_in Coded) (λ x bytes. Ok (token_of x.0, bytes)) (number Coded tt) (λ x front s. gives (token_of x.0))
