-- The conversions as the code takes them apart.
use Rattle.cil_arith.specs.declared.conversions.Check.{Check}
use Rattle.cil_arith.specs.declared.conversions.Check.TheVariants as check
use Rattle.cil_arith.specs.declared.conversions.Target.{Target}
use Rattle.cil_arith.specs.declared.conversions.Target.TheVariants.{I1, I2, I4, I8, I, U1, U2, U4, U8, U}
use Rattle.cil_arith.specs.Kinds.{Signed, Unsigned}
use Rattle.cil_arith.specs.Conversions.{IntegerType, int8, int16, int32, int64, native_int, uint8, uint16, uint32, uint64, native_uint, Conversion, Cuts, Keeps}

-- the type of a target
abbrev pub type_of : Target → IntegerType
type_of I1 = int8
type_of I2 = int16
type_of I4 = int32
type_of I8 = int64
type_of I = native_int
type_of U1 = uint8
type_of U2 = uint16
type_of U4 = uint32
type_of U8 = uint64
type_of U = native_uint

-- a conversion by its two parts
abbrev pub conversion_by : Check → Target → Conversion
conversion_by check.None target = Cuts (type_of target)
conversion_by check.Signed target = Keeps Signed (type_of target)
conversion_by check.Unsigned target = Keeps Unsigned (type_of target)
