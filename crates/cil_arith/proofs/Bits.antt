-- Which whole numbers fit a width, and what is left of one in the bits of a width.
use Rattle.std.proofs.Common.{◌≡◌, ℕ, ◌%◌, ◌^◌, ◌<◌, true, ℤ, pos, negsuc, ◌*ℤ◌, ◌≤ℤ◌, FitsSigned, bit_and, bit_or, bit_xor, int_le, unsigned_abs, Decides, refl, sym, ap, ◌∙◌, arith, to_z-of_z}
use Rattle.std.proofs.Math.Nat.{mod-eq_of_lt}
use Rattle.std.proofs.lemmas.Int.{ints, int_wrap_fits, of_z-to_z, wrapping_mul-bits, int_wrap-mul_right}
use Rattle.std.proofs.lemmas.Nat.{pow_pos, pow_below, and_le_l, or_lt, xor_lt}
use Rattle.std.proofs.lemmas.Bool.{and_parts, and_from, false≢true}
use Rattle.std.specs.Int.{Width, w8, w16, w32, w64, w128, cast_unsigned, cast_signed, int_wrap, int_shl}
use mir.Val.{bits}
use Rattle.cil_arith.specs.Kinds.{Reading, Signed, Unsigned, read, least, greatest, holds}
use Rattle.cil_arith.specs.Arithmetic.{shifted_left}

-- ---- which numbers fit

at_most : (a b : ℤ) → a ≤ℤ b → int_le a b ≡ true
at_most a b h = grind (arith, ints)

signed_in : (w : Width) (z : ℤ) → holds Signed w z ≡ true → FitsSigned w z
signed_in w8 z e = let h = and_parts (int_le (least Signed w8) z) (int_le z (greatest Signed w8)) e in omega (arith, ints, h.0, h.1)
signed_in w16 z e = let h = and_parts (int_le (least Signed w16) z) (int_le z (greatest Signed w16)) e in omega (arith, ints, h.0, h.1)
signed_in w32 z e = let h = and_parts (int_le (least Signed w32) z) (int_le z (greatest Signed w32)) e in omega (arith, ints, h.0, h.1)
signed_in w64 z e = let h = and_parts (int_le (least Signed w64) z) (int_le z (greatest Signed w64)) e in omega (arith, ints, h.0, h.1)
signed_in w128 z e = let h = and_parts (int_le (least Signed w128) z) (int_le z (greatest Signed w128)) e in omega (arith, ints, h.0, h.1)

signed_out : (w : Width) (z : ℤ) → FitsSigned w z → holds Signed w z ≡ true
signed_out w8 z h = and_from (int_le (least Signed w8) z) (int_le z (greatest Signed w8)) (at_most (least Signed w8) z (omega (arith, ints))) (at_most z (greatest Signed w8) (omega (arith, ints)))
signed_out w16 z h = and_from (int_le (least Signed w16) z) (int_le z (greatest Signed w16)) (at_most (least Signed w16) z (omega (arith, ints))) (at_most z (greatest Signed w16) (omega (arith, ints)))
signed_out w32 z h = and_from (int_le (least Signed w32) z) (int_le z (greatest Signed w32)) (at_most (least Signed w32) z (omega (arith, ints))) (at_most z (greatest Signed w32) (omega (arith, ints)))
signed_out w64 z h = and_from (int_le (least Signed w64) z) (int_le z (greatest Signed w64)) (at_most (least Signed w64) z (omega (arith, ints))) (at_most z (greatest Signed w64) (omega (arith, ints)))
signed_out w128 z h = and_from (int_le (least Signed w128) z) (int_le z (greatest Signed w128)) (at_most (least Signed w128) z (omega (arith, ints))) (at_most z (greatest Signed w128) (omega (arith, ints)))

pub holds_signed : (w : Width) (z : ℤ) → Decides (holds Signed w z) (FitsSigned w z)
holds_signed w z = (signed_in w z, signed_out w z)

pub holds_unsigned : (w : Width) (n : ℕ) → Decides (holds Unsigned w (pos n)) (n < 2 ^ bits w)
holds_unsigned w n = (
  λ e. let h = and_parts (int_le (least Unsigned w) (pos n)) (int_le (pos n) (greatest Unsigned w)) e in omega (arith, ints, h.1, pow_pos (bits w)),
  λ h. and_from (int_le (least Unsigned w) (pos n)) (int_le (pos n) (greatest Unsigned w)) (at_most (least Unsigned w) (pos n) (omega (arith, ints))) (at_most (pos n) (greatest Unsigned w) (omega (arith, ints, pow_pos (bits w)))),
)

-- ---- the low bits

pub int_wrap_bits : (w : Width) (n : ℕ) → n < 2 ^ bits w → int_wrap w (pos n) ≡ cast_signed w n
unfolding int_wrap
int_wrap_bits w n h = ap (cast_signed w) (mod-eq_of_lt h)

pub int_wrap_pos : (w : Width) (n : ℕ) → int_wrap w (pos n) ≡ cast_signed w (n % 2 ^ bits w)
unfolding int_wrap
int_wrap_pos w n = refl

pub of_z_below : (w : Width) (a : ℤ) → FitsSigned w a → cast_unsigned w a < 2 ^ bits w
of_z_below w8 a f = omega (arith, ints)
of_z_below w16 a f = omega (arith, ints)
of_z_below w32 a f = omega (arith, ints)
of_z_below w64 a f = omega (arith, ints)
of_z_below w128 a f = omega (arith, ints)

pub shl_is : (w : Width) (a : ℤ) (k : ℕ) → FitsSigned w a → k < bits w → int_shl w a k ≡ int_wrap w (shifted_left a k)
shl_is w a k f h =
    let small : 2 ^ k < 2 ^ bits w = pow_below k (bits w) h in
    wrapping_mul-bits w (cast_unsigned w a) (2 ^ k) (of_z_below w a f) small
    ∙ ap (λ y. int_wrap w (y *ℤ cast_signed w (2 ^ k))) (to_z-of_z f)
    ∙ ap (λ y. int_wrap w (a *ℤ y)) (sym (int_wrap_bits w (2 ^ k) small))
    ∙ int_wrap-mul_right w a (pos (2 ^ k))

-- the bits of a number are low bits of it
pub same_low_bits : (w : Width) (z : ℤ) → FitsSigned w z → int_wrap w (pos (cast_unsigned w z)) ≡ int_wrap w z
same_low_bits w z f = int_wrap_bits w (cast_unsigned w z) (of_z_below w z f) ∙ to_z-of_z f ∙ sym (int_wrap_fits w z f)

-- a number that is held is read again from its low bits
pub read_wrapped : (reading : Reading) (w : Width) (z : ℤ) → holds reading w z ≡ true → read reading w (int_wrap w z) ≡ z
read_wrapped Signed w z e = int_wrap_fits w z ((holds_signed w z).0 e)
read_wrapped Unsigned w (pos n) e =
    let small = (holds_unsigned w n).0 e in ap (λ y. pos (cast_unsigned w y)) (int_wrap_bits w n small) ∙ ap pos (of_z-to_z w n small)
read_wrapped Unsigned w (negsuc n) e = absurd (false≢true e)

-- a number but 0 has bits
pub nonzero : (w : Width) (b : ℤ) → FitsSigned w b → ¬ (unsigned_abs b ≡ 0) → 0 < cast_unsigned w b
nonzero w (pos n) f deny = omega (arith, deny)
nonzero w8 (negsuc n) f deny = omega arith
nonzero w16 (negsuc n) f deny = omega arith
nonzero w32 (negsuc n) f deny = omega arith
nonzero w64 (negsuc n) f deny = omega arith
nonzero w128 (negsuc n) f deny = omega arith

-- ---- bit by bit

pub and_wrapped : (w : Width) (x y : ℤ) → FitsSigned w x → FitsSigned w y → int_wrap w (pos (bit_and (cast_unsigned w x) (cast_unsigned w y))) ≡ cast_signed w (bit_and (cast_unsigned w x) (cast_unsigned w y))
and_wrapped w x y f g =
    let m = cast_unsigned w x in
    let n = cast_unsigned w y in
    int_wrap_bits w (bit_and m n) (omega (arith, and_le_l m n, of_z_below w x f))

pub or_wrapped : (w : Width) (x y : ℤ) → FitsSigned w x → FitsSigned w y → int_wrap w (pos (bit_or (cast_unsigned w x) (cast_unsigned w y))) ≡ cast_signed w (bit_or (cast_unsigned w x) (cast_unsigned w y))
or_wrapped w x y f g = int_wrap_bits w (bit_or (cast_unsigned w x) (cast_unsigned w y)) (or_lt (bits w) (cast_unsigned w x) (cast_unsigned w y) (of_z_below w x f) (of_z_below w y g))

pub xor_wrapped : (w : Width) (x y : ℤ) → FitsSigned w x → FitsSigned w y → int_wrap w (pos (bit_xor (cast_unsigned w x) (cast_unsigned w y))) ≡ cast_signed w (bit_xor (cast_unsigned w x) (cast_unsigned w y))
xor_wrapped w x y f g = int_wrap_bits w (bit_xor (cast_unsigned w x) (cast_unsigned w y)) (xor_lt (bits w) (cast_unsigned w x) (cast_unsigned w y) (of_z_below w x f) (of_z_below w y g))
