-- The product of two signed words in 128 bits.
use Rattle.std.proofs.Common.{◌≡◌, ℕ, ◌/◌, ◌^◌, ◌<◌, ◌≤◌, suc, ℤ, pos, negsuc, ◌*ℤ◌, refl, arith, lit<}
use Rattle.std.proofs.lemmas.Int.{ints, to_z-of_z, fits_signed_mul}
use Rattle.std.specs.Int.{w64, w128, cast_signed, cast_unsigned}
use Rattle.std.specs.Int.Signed.{mag, shr_z}
use Rattle.std.specs.Prelude.{FitsSigned, unsigned_abs}
use Rattle.rv_machine.specs.Laws.{HalvesMakeProducts}
use Rattle.rv_machine.specs.Words.{shifted_right}

-- the absolute value of -(n + 1) is one more than n
abs_mag : (z : ℤ) → unsigned_abs z ≤ suc (mag z)
abs_mag (pos n) = omega arith
abs_mag (negsuc n) = omega arith

-- numbers that 128 bits hold
fits_128 : (z : ℤ) → mag z < 2 ^ 127 → FitsSigned w128 z
fits_128 z h = record { sfits = h }

-- a shift to the right, as the code has it
mag_shr : (z : ℤ) (m : ℕ) → mag (shr_z z m) ≡ mag z / m
mag_shr (pos a) m = refl
mag_shr (negsuc a) m = refl

shr_rounds_down : (z : ℤ) (k : ℕ) → shr_z z (2 ^ k) ≡ shifted_right z k
shr_rounds_down (pos a) k = refl
shr_rounds_down (negsuc a) k = refl

-- what the code computes from the two numbers
abbrev pub high_half : ℤ → ℤ → ℤ
high_half x y =
    let wide : ℤ → ℤ = λ z. cast_signed w128 (cast_unsigned w128 z) in
    cast_signed w64 (cast_unsigned w64 (wide (shr_z (wide (wide x *ℤ wide y)) (2 ^ 64))))

pub high_half_is : (x y : ℤ) → mag x < 2 ^ 63 → mag y < 2 ^ 63 → high_half x y ≡ shifted_right (x *ℤ y) 64
high_half_is x y p q =
    let product : FitsSigned w128 (x *ℤ y) = fits_signed_mul w128 x y (2 ^ 63) (2 ^ 63) (omega (arith, abs_mag x)) (omega (arith, abs_mag y)) (lit< tt) in
    let bound : mag (x *ℤ y) < 2 ^ 127 = product.sfits in
    let high : ℤ = shr_z (x *ℤ y) (2 ^ 64) in
    let size : mag high ≡ mag (x *ℤ y) / 2 ^ 64 = mag_shr (x *ℤ y) (2 ^ 64) in
    let a = to_z-of_z w128 x (fits_128 x (omega arith)) in
    let b = to_z-of_z w128 y (fits_128 y (omega arith)) in
    let c = to_z-of_z w128 (x *ℤ y) product in
    let d = to_z-of_z w128 high (fits_128 high (omega arith)) in
    let e = to_z-of_z w64 high (record { sfits = omega arith }) in
    rw (a, b, c, d, e) (shr_rounds_down (x *ℤ y) 64)

pub halves_make_products : HalvesMakeProducts
halves_make_products (pos a) = omega (arith, ints)
halves_make_products (negsuc a) = omega (arith, ints)
