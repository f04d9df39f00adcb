-- The integers of the evaluation stack as whole numbers (ECMA-335 III.1.1.1), and the kinds in which two of them meet
-- (III.1.5, tables III.2 and III.4 to III.7).
use Rattle.std.specs.Prelude.{◌-◌, ◌^◌, ℤ, pos, neg_ℤ, Bool, ◌&&◌, int_le, Option, Some, None}
use Rattle.std.specs.Int.{Width, w32, w64, cast_unsigned, int_wrap}
use mir.Val.{bits}
use Rattle.cil_arith.specs.declared.num.Num.{Num}
use Rattle.cil_arith.specs.declared.num.Num.TheVariants.{I32, I64, N}

-- int32, int64, native int
pub data Kind : Type 0 where
  Int32 : Kind
  Int64 : Kind
  NativeInt : Kind

-- the kind of a number
abbrev pub kind_of : Num → Kind
kind_of (I32 z) = Int32
kind_of (I64 z) = Int64
kind_of (N z) = NativeInt

-- a native int has 64 bits here
abbrev pub width : Kind → Width
width Int32 = w32
width Int64 = w64
width NativeInt = w64

-- a number's value, read with its sign
abbrev pub whole : Num → ℤ
whole (I32 z) = z
whole (I64 z) = z
whole (N z) = z

-- the number of a kind with this value
abbrev pub number : Kind → ℤ → Num
number Int32 z = I32 z
number Int64 z = I64 z
number NativeInt z = N z

-- the number of a kind whose bits are the low bits of a whole number
abbrev pub wrapped : Kind → ℤ → Num
wrapped kind z = number kind (int_wrap (width kind) z)

-- bits are read with a sign, in two's complement, or without one
pub data Reading : Type 0 where
  Signed : Reading
  Unsigned : Reading

-- what the bits of a number of a width are in a reading, by its value
abbrev pub read : Reading → Width → ℤ → ℤ
read Signed w z = z
read Unsigned w z = pos (cast_unsigned w z)

-- the least number that a width holds in a reading
abbrev pub least : Reading → Width → ℤ
least Signed w = neg_ℤ (pos (2 ^ (bits w - 1)))
least Unsigned w = pos 0

-- the greatest one
abbrev pub greatest : Reading → Width → ℤ
greatest Signed w = pos (2 ^ (bits w - 1) - 1)
greatest Unsigned w = pos (2 ^ bits w - 1)

-- a whole number is one that the width holds in the reading
abbrev pub holds : Reading → Width → ℤ → Bool
holds reading w z = int_le (least reading w) z && int_le z (greatest reading w)

-- The kind in which two numbers meet in arithmetic and comparisons: an int32 is sign-extended where it meets a native int.
abbrev pub common_kind : Kind → Kind → Option Kind
common_kind Int32 Int32 = Some Int32
common_kind Int32 Int64 = None
common_kind Int32 NativeInt = Some NativeInt
common_kind Int64 Int32 = None
common_kind Int64 Int64 = Some Int64
common_kind Int64 NativeInt = None
common_kind NativeInt Int32 = Some NativeInt
common_kind NativeInt Int64 = None
common_kind NativeInt NativeInt = Some NativeInt

-- a shift's result has the value's kind; its amount is an int32 or a native int
abbrev pub shift_kind : Kind → Kind → Option Kind
shift_kind value Int32 = Some value
shift_kind value Int64 = None
shift_kind value NativeInt = Some value
