-- Numbers that were worked out by hand, and what the operations give for them.
use Rattle.std.specs.Prelude.{◌≡◌, pos, negsuc, true, false, Some, None, Ok, Err}
use Rattle.cil_arith.specs.declared.num.Num.TheVariants.{I32, I64, N}
use Rattle.cil_arith.specs.declared.num.Arith.TheVariants.{DivideByZero, Overflow}
use Rattle.cil_arith.specs.declared.operations.BinOp.TheVariants.{Add, Div, DivUn, Rem, AddOvfUn, SubOvfUn, Shl, Shr, ShrUn}
use Rattle.cil_arith.specs.declared.operations.UnOp.TheVariants.{Neg, Not}
use Rattle.cil_arith.specs.declared.operations.CmpOp.TheVariants.{Eq, GtUn, Lt, LtUn}
use Rattle.cil_arith.specs.declared.operations.ConvOp.TheVariants as conv
use Rattle.cil_arith.specs.Arithmetic.{binary_of, unary_of}
use Rattle.cil_arith.specs.Comparisons.{comparison_of}
use Rattle.cil_arith.specs.Conversions.{conversion_of}

-- -7 by 2, -7 without a sign by 2, 5 by 0, and the least number by -1
abbrev pub WorkedDivisions : Type 0
WorkedDivisions =
    (binary_of Div (I32 (negsuc 6)) (I32 (pos 2)) ≡ Some (Ok (I32 (negsuc 2))))
    × (binary_of Rem (I32 (negsuc 6)) (I32 (pos 2)) ≡ Some (Ok (I32 (negsuc 0))))
    × (binary_of DivUn (I32 (negsuc 6)) (I32 (pos 2)) ≡ Some (Ok (I32 (pos 0x7FFFFFFC))))
    × (binary_of Div (I64 (pos 5)) (I64 (pos 0)) ≡ Some (Err DivideByZero))
    × (binary_of Div (I64 (negsuc 0x7FFFFFFFFFFFFFFF)) (I64 (negsuc 0)) ≡ Some (Err Overflow))
    × (binary_of Rem (I32 (negsuc 0x7FFFFFFF)) (I32 (negsuc 0)) ≡ Some (Err Overflow))

-- 0xFFFFFFFF and 1, and 0 less 1, without a sign; the sum wraps; an int32 that meets a native int
abbrev pub WorkedSums : Type 0
WorkedSums =
    (binary_of AddOvfUn (I32 (negsuc 0)) (I32 (pos 1)) ≡ Some (Err Overflow))
    × (binary_of SubOvfUn (I64 (pos 0)) (I64 (pos 1)) ≡ Some (Err Overflow))
    × (binary_of Add (I32 (pos 0x7FFFFFFF)) (I32 (pos 1)) ≡ Some (Ok (I32 (negsuc 0x7FFFFFFF))))
    × (binary_of Add (N (pos 5)) (I32 (negsuc 0)) ≡ Some (Ok (N (pos 4))))
    × (binary_of Add (N (pos 5)) (I64 (pos 1)) ≡ None)
    × (unary_of Neg (I32 (negsuc 0x7FFFFFFF)) ≡ I32 (negsuc 0x7FFFFFFF))
    × (unary_of Not (I32 (pos 5)) ≡ I32 (negsuc 5))

-- the amounts 33, -1 and 65 by their low bits, -7 shifted by 1, which rounds down, and an int64 as an amount
abbrev pub WorkedShifts : Type 0
WorkedShifts =
    (binary_of Shl (I32 (pos 1)) (I32 (pos 33)) ≡ Some (Ok (I32 (pos 2))))
    × (binary_of Shl (I32 (pos 1)) (N (negsuc 0)) ≡ Some (Ok (I32 (negsuc 0x7FFFFFFF))))
    × (binary_of Shl (I64 (pos 1)) (I32 (pos 65)) ≡ Some (Ok (I64 (pos 2))))
    × (binary_of Shr (I32 (negsuc 6)) (I32 (pos 1)) ≡ Some (Ok (I32 (negsuc 3))))
    × (binary_of ShrUn (I32 (negsuc 6)) (I32 (pos 1)) ≡ Some (Ok (I32 (pos 0x7FFFFFFC))))
    × (binary_of Shl (I32 (pos 1)) (I64 (pos 1)) ≡ None)

-- 0x1FF as an int8, -1 as a uint32, 0xFFFFFFFF as one, and -1 widened with and without a sign
abbrev pub WorkedConversions : Type 0
WorkedConversions =
    (conversion_of conv.I1 (I32 (pos 0x1FF)) ≡ Ok (I32 (negsuc 0)))
    × (conversion_of conv.OvfI1 (I32 (pos 0x80)) ≡ Err Overflow)
    × (conversion_of conv.OvfU4 (I32 (negsuc 0)) ≡ Err Overflow)
    × (conversion_of conv.OvfU4 (I64 (pos 0xFFFFFFFF)) ≡ Ok (I32 (negsuc 0)))
    × (conversion_of conv.U8 (I32 (negsuc 0)) ≡ Ok (I64 (pos 0xFFFFFFFF)))
    × (conversion_of conv.OvfI8Un (I32 (negsuc 0)) ≡ Ok (I64 (pos 0xFFFFFFFF)))

-- -1 and 1 with and without a sign; -1 as an int32 and as a native int; an int32 and an int64
abbrev pub WorkedComparisons : Type 0
WorkedComparisons =
    (comparison_of Lt (I32 (negsuc 0)) (I32 (pos 1)) ≡ Some true)
    × (comparison_of LtUn (I32 (negsuc 0)) (I32 (pos 1)) ≡ Some false)
    × (comparison_of GtUn (I32 (negsuc 0)) (N (pos 0xFFFFFFFF)) ≡ Some true)
    × (comparison_of Eq (I32 (negsuc 0)) (N (negsuc 0)) ≡ Some true)
    × (comparison_of Lt (I32 (pos 0)) (I64 (pos 1)) ≡ None)
