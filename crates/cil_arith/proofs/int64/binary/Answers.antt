use Rattle.std.proofs.Common.{arith, to_z-of_z}
use Rattle.std.proofs.Math.Nat.{mod-le}
use Rattle.std.proofs.lemmas.Int.{int_wrap_fits, wrapping_add_is, wrapping_sub_is}
use lib.Signed.{mag_rem}
use Rattle.cil_arith.proofs.Bits.{int_wrap_bits, and_wrapped, or_wrapped, xor_wrapped, shl_is}
use Rattle.cil_arith.proofs.int64.binary.Goals as goal

pub returns-in-Add : goal.returns-in-Add
returns-in-Add c = grind (arith, wrapping_add_is)

pub returns-in-Sub : goal.returns-in-Sub
returns-in-Sub c = grind (arith, wrapping_sub_is)

pub returns-in-Div : goal.returns-in-Div
returns-in-Div c = grind (arith, to_z-of_z, int_wrap_fits)

pub returns-in-DivUn : goal.returns-in-DivUn
returns-in-DivUn c = grind (arith, to_z-of_z, int_wrap_bits)

pub returns-in-Rem : goal.returns-in-Rem
returns-in-Rem c = grind (arith, to_z-of_z, int_wrap_fits, mag_rem)

pub returns-in-RemUn : goal.returns-in-RemUn
returns-in-RemUn c =
    let less = mod-le c.cast_unsigned-unsigned_a.result c.cast_unsigned-unsigned_b.result in
    grind (arith, to_z-of_z, int_wrap_bits)

pub returns-in-AddOvfUn : goal.returns-in-AddOvfUn
returns-in-AddOvfUn c = grind (arith, to_z-of_z, int_wrap_bits)

pub returns-in-SubOvfUn : goal.returns-in-SubOvfUn
returns-in-SubOvfUn c = grind (arith, to_z-of_z, int_wrap_bits)

pub returns-in-MulOvfUn : goal.returns-in-MulOvfUn
returns-in-MulOvfUn c = grind (arith, to_z-of_z, int_wrap_bits)

pub returns-in-And : goal.returns-in-And
returns-in-And c = grind (arith, and_wrapped)

pub returns-in-Or : goal.returns-in-Or
returns-in-Or c = grind (arith, or_wrapped)

pub returns-in-Xor : goal.returns-in-Xor
returns-in-Xor c = grind (arith, xor_wrapped)

pub returns-in-Shl : goal.returns-in-Shl
returns-in-Shl c = grind (arith, to_z-of_z, shl_is)

pub returns-in-ShrUn : goal.returns-in-ShrUn
returns-in-ShrUn c = grind (arith, to_z-of_z, int_wrap_bits)
