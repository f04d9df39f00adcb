-- The conversions between integers (ECMA-335 III.1.5, table III.8; III.3.27 to III.3.29).
use Rattle.std.specs.Prelude.{◌^◌, ℤ, pos, if◌then◌else◌, Result, Ok, Err}
use Rattle.std.specs.Int.{Width, w8, w16, w32, w64, int_wrap, int_rem_euclid}
use mir.Val.{bits}
use Rattle.cil_arith.specs.declared.num.Num.{Num}
use Rattle.cil_arith.specs.declared.num.Arith.{Arith}
use Rattle.cil_arith.specs.declared.num.Arith.TheVariants.{Overflow}
use Rattle.cil_arith.specs.declared.operations.ConvOp.{ConvOp}
use Rattle.cil_arith.specs.declared.operations.ConvOp.TheVariants.{I1, I2, I4, I8, I, U1, U2, U4, U8, U, OvfI1, OvfI2, OvfI4, OvfI8, OvfI, OvfU1, OvfU2, OvfU4, OvfU8, OvfU, OvfI1Un, OvfI2Un, OvfI4Un, OvfI8Un, OvfIUn, OvfU1Un, OvfU2Un, OvfU4Un, OvfU8Un, OvfUUn}
use Rattle.cil_arith.specs.Kinds.{Kind, Int32, Int64, NativeInt, kind_of, width, whole, wrapped, Reading, Signed, Unsigned, read, holds}

-- An integer type that a conversion converts to: its width, how its bits are read, and the kind that holds it.
pub record IntegerType : Type 0 where
  pub size : Width
  pub reading : Reading
  pub kind : Kind

-- the types of conv.i1 .. conv.u
abbrev pub int8 : IntegerType
int8 = record { size = w8; reading = Signed; kind = Int32 }

abbrev pub int16 : IntegerType
int16 = record { size = w16; reading = Signed; kind = Int32 }

abbrev pub int32 : IntegerType
int32 = record { size = w32; reading = Signed; kind = Int32 }

abbrev pub int64 : IntegerType
int64 = record { size = w64; reading = Signed; kind = Int64 }

abbrev pub native_int : IntegerType
native_int = record { size = w64; reading = Signed; kind = NativeInt }

abbrev pub uint8 : IntegerType
uint8 = record { size = w8; reading = Unsigned; kind = Int32 }

abbrev pub uint16 : IntegerType
uint16 = record { size = w16; reading = Unsigned; kind = Int32 }

abbrev pub uint32 : IntegerType
uint32 = record { size = w32; reading = Unsigned; kind = Int32 }

abbrev pub uint64 : IntegerType
uint64 = record { size = w64; reading = Unsigned; kind = Int64 }

abbrev pub native_uint : IntegerType
native_uint = record { size = w64; reading = Unsigned; kind = NativeInt }

-- A conversion: to the low bits, or to the number itself where the target holds it, the source in a reading.
pub data Conversion : Type 0 where
  Cuts : IntegerType → Conversion
  Keeps : Reading → IntegerType → Conversion

-- the conversions
abbrev pub conversion : ConvOp → Conversion
conversion I1 = Cuts int8
conversion I2 = Cuts int16
conversion I4 = Cuts int32
conversion I8 = Cuts int64
conversion I = Cuts native_int
conversion U1 = Cuts uint8
conversion U2 = Cuts uint16
conversion U4 = Cuts uint32
conversion U8 = Cuts uint64
conversion U = Cuts native_uint
conversion OvfI1 = Keeps Signed int8
conversion OvfI2 = Keeps Signed int16
conversion OvfI4 = Keeps Signed int32
conversion OvfI8 = Keeps Signed int64
conversion OvfI = Keeps Signed native_int
conversion OvfU1 = Keeps Signed uint8
conversion OvfU2 = Keeps Signed uint16
conversion OvfU4 = Keeps Signed uint32
conversion OvfU8 = Keeps Signed uint64
conversion OvfU = Keeps Signed native_uint
conversion OvfI1Un = Keeps Unsigned int8
conversion OvfI2Un = Keeps Unsigned int16
conversion OvfI4Un = Keeps Unsigned int32
conversion OvfI8Un = Keeps Unsigned int64
conversion OvfIUn = Keeps Unsigned native_int
conversion OvfU1Un = Keeps Unsigned uint8
conversion OvfU2Un = Keeps Unsigned uint16
conversion OvfU4Un = Keeps Unsigned uint32
conversion OvfU8Un = Keeps Unsigned uint64
conversion OvfUUn = Keeps Unsigned native_uint

-- a number's bits in its own width, in a reading
abbrev pub source : Reading → Num → ℤ
source reading a = read reading (width (kind_of a)) (whole a)

-- the low bits of a whole number, in a reading
abbrev pub low_bits : Reading → Width → ℤ → ℤ
low_bits Signed w z = int_wrap w z
low_bits Unsigned w z = int_rem_euclid z (pos (2 ^ bits w))

-- the low bits, widened by the target's sign to its kind
abbrev pub cut : IntegerType → ℤ → Num
cut target z = wrapped target.kind (low_bits target.reading target.size z)

-- the number itself, where the target holds it
abbrev pub checked : IntegerType → ℤ → Result Num Arith
checked target z =
    if holds target.reading target.size z then Ok (wrapped target.kind z) else Err Overflow

-- a source that the target's width is wider than is widened by the target's sign
abbrev pub converted : Conversion → Num → Result Num Arith
converted (Cuts target) a = Ok (cut target (source target.reading a))
converted (Keeps reading target) a = checked target (source reading a)

-- what a conversion gives for a number
abbrev pub conversion_of : ConvOp → Num → Result Num Arith
conversion_of op a = converted (conversion op) a
