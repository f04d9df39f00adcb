-- The law of neg and not.
use Rattle.std.proofs.Common.{◌≡◌, ℕ, ◌-◌, ◌^◌, ◌<◌, ℤ, pos, negsuc, ◌-ℤ◌, neg_ℤ, FitsSigned, bit_xor, Some, Ok, ap, ◌∙◌, arith}
use Rattle.std.proofs.Math.Nat.{mod-eq_of_lt}
use Rattle.std.proofs.lemmas.Int.{ints}
use Rattle.std.proofs.lemmas.Nat.{and_mask}
use lib.Bits.{xor_add_and}
use lib.IntN.{+ℤ_idl}
use Rattle.std.specs.Int.{w32, w64, cast_unsigned, int_wrap}
use Rattle.cil_arith.specs.declared.num.Num.TheVariants.{I32, I64, N}
use Rattle.cil_arith.specs.Laws.{NegationsAndComplements}
use Rattle.cil_arith.proofs.Bits.{of_z_below, same_low_bits}

-- exclusive or with all ones turns each bit
xor_ones : (k n : ℕ) → n < 2 ^ k → bit_xor n (2 ^ k - 1) ≡ 2 ^ k - 1 - n
xor_ones k n h = omega (arith, xor_add_and n (2 ^ k - 1), and_mask n k, mod-eq_of_lt h)

turned_32 : (z : ℤ) → FitsSigned w32 z → 2 ^ 32 - 1 - cast_unsigned w32 z ≡ cast_unsigned w32 (negsuc 0 -ℤ z)
turned_32 (pos n) f = omega (arith, ints)
turned_32 (negsuc n) f = omega (arith, ints)

turned_64 : (z : ℤ) → FitsSigned w64 z → 2 ^ 64 - 1 - cast_unsigned w64 z ≡ cast_unsigned w64 (negsuc 0 -ℤ z)
turned_64 (pos n) f = omega (arith, ints)
turned_64 (negsuc n) f = omega (arith, ints)

complement_32 : (z : ℤ) → FitsSigned w32 z → int_wrap w32 (pos (bit_xor (cast_unsigned w32 z) (cast_unsigned w32 (negsuc 0)))) ≡ int_wrap w32 (negsuc 0 -ℤ z)
complement_32 z f =
    ap (λ n. int_wrap w32 (pos n)) (xor_ones 32 (cast_unsigned w32 z) (of_z_below w32 z f) ∙ turned_32 z f) ∙ same_low_bits w32 (negsuc 0 -ℤ z) (omega (arith, ints))

complement_64 : (z : ℤ) → FitsSigned w64 z → int_wrap w64 (pos (bit_xor (cast_unsigned w64 z) (cast_unsigned w64 (negsuc 0)))) ≡ int_wrap w64 (negsuc 0 -ℤ z)
complement_64 z f =
    ap (λ n. int_wrap w64 (pos n)) (xor_ones 64 (cast_unsigned w64 z) (of_z_below w64 z f) ∙ turned_64 z f) ∙ same_low_bits w64 (negsuc 0 -ℤ z) (omega (arith, ints))

pub negations_and_complements : NegationsAndComplements
negations_and_complements (I32 z) f = (ap (λ x. Some (Ok (I32 (int_wrap w32 x)))) (+ℤ_idl (neg_ℤ z)), ap (λ x. Some (Ok (I32 x))) (complement_32 z f))
negations_and_complements (I64 z) f = (ap (λ x. Some (Ok (I64 (int_wrap w64 x)))) (+ℤ_idl (neg_ℤ z)), ap (λ x. Some (Ok (I64 x))) (complement_64 z f))
negations_and_complements (N z) f = (ap (λ x. Some (Ok (N (int_wrap w64 x)))) (+ℤ_idl (neg_ℤ z)), ap (λ x. Some (Ok (N x))) (complement_64 z f))
