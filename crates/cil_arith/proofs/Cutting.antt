-- What is left of a number in the bits of a conversion's target.
use Rattle.std.proofs.Common.{◌≡◌, ℕ, suc, ◌-◌, ◌*◌, ◌%◌, ◌^◌, ◌<◌, true, ℤ, pos, negsuc, FitsSigned, unsigned_abs, Ok, Err, if◌then◌else◌, refl, sym, ap, ◌∙◌, arith, to_z-of_z}
use Rattle.std.proofs.Math.Nat.{mod-eq_of_lt, mod-lt}
use Rattle.std.proofs.lemmas.Int.{ints, int_wrap_fits, int_rem_euclid_is}
use Rattle.std.proofs.lemmas.Nat.{pow_pos}
use Rattle.std.proofs.lemmas.Bool.{false≢true}
use Rattle.std.specs.Int.{Width, w8, w16, w32, w64, cast_unsigned, cast_signed, int_wrap, int_rem_euclid}
use lib.Signed.{mag}
use mir.Val.{bits}
use Rattle.cil_arith.specs.declared.num.Arith.TheVariants.{Overflow}
use Rattle.cil_arith.specs.declared.num.Num.TheVariants.{I32}
use Rattle.cil_arith.specs.declared.conversions.Target.{Target}
use Rattle.cil_arith.specs.declared.conversions.Target.TheVariants as target
use Rattle.cil_arith.specs.Kinds.{Kind, width, number, wrapped, Reading, Signed, Unsigned, holds}
use Rattle.cil_arith.specs.Conversions.{IntegerType, low_bits, cut, checked}
use Rattle.cil_arith.specs.Targets.{type_of}
use Rattle.cil_arith.proofs.Bits.{holds_signed, holds_unsigned, int_wrap_bits, int_wrap_pos}

-- ---- numbers with the same low bits

-- the residue decides the low bits
by_residue : (r : Reading) (w : Width) (y z : ℤ) → int_rem_euclid y (pos (2 ^ bits w)) ≡ int_rem_euclid z (pos (2 ^ bits w)) → low_bits r w y ≡ low_bits r w z
unfolding int_wrap
by_residue Signed w y z e = ap (λ x. cast_signed w (unsigned_abs x)) e
by_residue Unsigned w y z e = e

-- 64 bits have the low bits of the number
low_bits_of_64 : (r : Reading) (w : Width) (k : ℕ) → 2 ^ 64 ≡ k * 2 ^ bits w → (z : ℤ) → mag z < 2 ^ 64 → low_bits r w (pos (cast_unsigned w64 z)) ≡ low_bits r w z
low_bits_of_64 r w k e (pos n) h = refl
low_bits_of_64 r w k e (negsuc n) h =
    by_residue r w (pos (2 ^ 64 - suc n)) (negsuc n)
    (sym (int_rem_euclid_is (negsuc n) (pos (2 ^ bits w)) (2 ^ bits w) k (2 ^ 64 - suc n) (pow_pos (bits w)) refl (omega (arith, ints))))

cut_of_64 : (t : Target) (z : ℤ) → mag z < 2 ^ 64 → cut (type_of t) (pos (cast_unsigned w64 z)) ≡ cut (type_of t) z
cut_of_64 t z h = ap (wrapped (type_of t).kind) (by t)
  where
    by : (t : Target) → low_bits (type_of t).reading (type_of t).size (pos (cast_unsigned w64 z)) ≡ low_bits (type_of t).reading (type_of t).size z
    by target.I1 = low_bits_of_64 Signed w8 (2 ^ 56) refl z h
    by target.I2 = low_bits_of_64 Signed w16 (2 ^ 48) refl z h
    by target.I4 = low_bits_of_64 Signed w32 (2 ^ 32) refl z h
    by target.I8 = low_bits_of_64 Signed w64 1 refl z h
    by target.I = low_bits_of_64 Signed w64 1 refl z h
    by target.U1 = low_bits_of_64 Unsigned w8 (2 ^ 56) refl z h
    by target.U2 = low_bits_of_64 Unsigned w16 (2 ^ 48) refl z h
    by target.U4 = low_bits_of_64 Unsigned w32 (2 ^ 32) refl z h
    by target.U8 = low_bits_of_64 Unsigned w64 1 refl z h
    by target.U = low_bits_of_64 Unsigned w64 1 refl z h

-- the same of a number of 64 bits, by way of its bits
pub cut_of_bits : (t : Target) (z : ℤ) (n : ℕ) → mag z < 2 ^ 63 → n ≡ cast_unsigned w64 (cast_signed w64 (cast_unsigned w64 z)) → cut (type_of t) (pos n) ≡ cut (type_of t) z
cut_of_bits t z n h e =
    let f : FitsSigned w64 z = record { sfits = h } in
    ap (λ m. cut (type_of t) (pos m)) (e ∙ ap (cast_unsigned w64) (to_z-of_z f)) ∙ cut_of_64 t z (omega arith)

-- ---- a number that is held is its low bits

pub low_bits_fit : (r : Reading) (w : Width) (z : ℤ) → holds r w z ≡ true → low_bits r w z ≡ z
low_bits_fit Signed w z e = int_wrap_fits w z ((holds_signed w z).0 e)
low_bits_fit Unsigned w (pos n) e = ap pos (mod-eq_of_lt ((holds_unsigned w n).0 e))
low_bits_fit Unsigned w (negsuc n) e = absurd (false≢true e)

pub cut_fitting : (t : IntegerType) (z : ℤ) → holds t.reading t.size z ≡ true → Ok (cut t z) ≡ checked t z
cut_fitting t z e = ap (λ y. Ok (wrapped t.kind y)) (low_bits_fit t.reading t.size z e) ∙ ap (λ b. if b then Ok (wrapped t.kind z) else Err Overflow) (sym e)

-- ---- bits as the number of a kind

-- of fewer bits than an int32 has
pub narrow : (w : Width) (r s : ℤ) (n : ℕ) → FitsSigned w32 r → FitsSigned w s → r ≡ cast_signed w (cast_unsigned w s) → s ≡ cast_signed w (n % 2 ^ bits w) → I32 (cast_signed w32 (cast_unsigned w32 r)) ≡ I32 (int_wrap w32 (int_wrap w (pos n)))
narrow w r s n in_r in_s e is =
    let whole : r ≡ int_wrap w (pos n) = e ∙ to_z-of_z in_s ∙ is ∙ sym (int_wrap_pos w n) in
    ap I32 (to_z-of_z in_r ∙ sym (int_wrap_fits w32 r in_r) ∙ ap (int_wrap w32) whole)

-- of as many bits as the kind has
pub full : (kind : Kind) (reading : Reading) (r : ℤ) (n : ℕ) → FitsSigned (width kind) r → r ≡ cast_signed (width kind) (n % 2 ^ bits (width kind)) → number kind (cast_signed (width kind) (cast_unsigned (width kind) r)) ≡ wrapped kind (low_bits reading (width kind) (pos n))
full kind Signed r n in_r is =
    ap (number kind) (to_z-of_z in_r ∙ sym (int_wrap_fits (width kind) r in_r) ∙ ap (int_wrap (width kind)) (is ∙ sym (int_wrap_pos (width kind) n)))
full kind Unsigned r n in_r is =
    ap (number kind) (to_z-of_z in_r ∙ is ∙ sym (int_wrap_bits (width kind) (n % 2 ^ bits (width kind)) (mod-lt n (pow_pos (bits (width kind))))))
