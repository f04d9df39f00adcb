-- What holds of the operations for all numbers, in the instructions' own words.
use Rattle.std.specs.Prelude.{◌≡◌, ◌⊎◌, ◌<◌, ◌↔◌, ℤ, pos, negsuc, ◌+ℤ◌, ◌*ℤ◌, ◌<ℤ◌, ◌≤ℤ◌, unsigned_abs, FitsSigned, true, not, Some, Ok, Err}
use Rattle.std.specs.Option.{option_map}
use Rattle.std.specs.Int.{Width}
use Rattle.cil_arith.specs.declared.num.Num.{Num}
use Rattle.cil_arith.specs.declared.num.Arith.TheVariants.{DivideByZero, Overflow}
use Rattle.cil_arith.specs.declared.operations.BinOp.{BinOp}
use Rattle.cil_arith.specs.declared.operations.BinOp.TheVariants.{Add, Sub, Mul, Div, DivUn, Rem, RemUn, AddOvf, AddOvfUn, SubOvf, SubOvfUn, MulOvf, MulOvfUn, Xor}
use Rattle.cil_arith.specs.declared.operations.UnOp.TheVariants.{Neg, Not}
use Rattle.cil_arith.specs.declared.operations.CmpOp.{CmpOp}
use Rattle.cil_arith.specs.declared.operations.CmpOp.TheVariants.{Eq, Ne, Ge, GeUn, Gt, GtUn, Le, LeUn, Lt, LtUn}
use Rattle.cil_arith.specs.declared.operations.ConvOp.{ConvOp}
use Rattle.cil_arith.specs.Kinds.{Kind, kind_of, width, whole, number, Reading, Signed, Unsigned, read, least, greatest, holds, common_kind}
use Rattle.cil_arith.specs.Arithmetic.{Checks, rule, binary_of, unary_of}
use Rattle.cil_arith.specs.Comparisons.{comparison_of}
use Rattle.cil_arith.specs.Conversions.{IntegerType, Cuts, Keeps, conversion, source, conversion_of}

-- a number's value is one that its kind holds
abbrev pub IsNumber : Num → Type 0
IsNumber a = FitsSigned (width (kind_of a)) (whole a)

-- ---- arithmetic

-- the form of an operation that doesn't check its result
abbrev pub plain : BinOp → BinOp
plain AddOvf = Add
plain AddOvfUn = Add
plain SubOvf = Sub
plain SubOvfUn = Sub
plain MulOvf = Mul
plain MulOvfUn = Mul
plain op = op

-- where a checked form gives a number, its plain form gives the same
abbrev pub CheckedFormsGivePlainResults : Type 0
CheckedFormsGivePlainResults =
    (op : BinOp) (a b c : Num) → IsNumber a → IsNumber b → binary_of op a b ≡ Some (Ok c)
    → binary_of (plain op) a b ≡ Some (Ok c)

-- a whole number that a width doesn't hold in a reading
abbrev pub IsOutside : Reading → Width → ℤ → Type 0
IsOutside reading w z = (z <ℤ least reading w) ⊎ (greatest reading w <ℤ z)

-- a checked form of numbers that meet overflows where the whole result, of the operands in its reading, lies outside
abbrev pub CheckedFormsOverflowOutside : Type 0
CheckedFormsOverflowOutside =
    (op : BinOp) (reading : Reading) (f : ℤ → ℤ → ℤ) (a b : Num) (kind : Kind)
    → rule op ≡ Checks reading f
    → common_kind (kind_of a) (kind_of b) ≡ Some kind
    → (binary_of op a b ≡ Some (Err Overflow))
    ↔ IsOutside reading (width kind)
    (f (read reading (width kind) (whole a)) (read reading (width kind) (whole b)))

-- a quotient and a remainder: the quotient is rounded toward zero, and the remainder has the dividend's sign
pub record AreQuotientAndRemainder (a b q r : ℤ) : Type 0 where
  pub dividend : a ≡ q *ℤ b +ℤ r
  pub less : unsigned_abs r < unsigned_abs b
  pub not_negative : pos 0 ≤ℤ a → pos 0 ≤ℤ r
  pub not_positive : a ≤ℤ pos 0 → r ≤ℤ pos 0

-- div and div.un
abbrev pub quotient_op : Reading → BinOp
quotient_op Signed = Div
quotient_op Unsigned = DivUn

-- rem and rem.un
abbrev pub remainder_op : Reading → BinOp
remainder_op Signed = Rem
remainder_op Unsigned = RemUn

-- what div and rem give, and div.un and rem.un, read as the instructions read the operands
abbrev pub QuotientsAndRemaindersBelongTogether : Type 0
QuotientsAndRemaindersBelongTogether =
    (reading : Reading) (a b q r : Num)
    → IsNumber a
    → IsNumber b
    → binary_of (quotient_op reading) a b ≡ Some (Ok q)
    → binary_of (remainder_op reading) a b ≡ Some (Ok r)
    → let value : Num → ℤ = λ n. read reading (width (kind_of q)) (whole n) in
    AreQuotientAndRemainder (value a) (value b) (value q) (value r)

-- div, div.un, rem or rem.un
abbrev pub IsDivision : BinOp → Type 0
IsDivision op = (reading : Reading) × ((op ≡ quotient_op reading) ⊎ (op ≡ remainder_op reading))

-- a division of numbers that meet gives DivideByZero where the divisor is 0, and no other case does
abbrev pub DivisorsOfZeroDivideByZero : Type 0
DivisorsOfZeroDivideByZero =
    (op : BinOp) (a b : Num) (kind : Kind)
    → IsNumber b
    → common_kind (kind_of a) (kind_of b) ≡ Some kind
    → (binary_of op a b ≡ Some (Err DivideByZero)) ↔ (IsDivision op × (whole b ≡ pos 0))

-- of the divisions only div and rem overflow, both at the least number by -1
abbrev pub LeastByMinusOneOverflows : Type 0
LeastByMinusOneOverflows =
    (a b : Num) (kind : Kind)
    → IsNumber a
    → IsNumber b
    → common_kind (kind_of a) (kind_of b) ≡ Some kind
    → ((binary_of Div a b ≡ Some (Err Overflow))
    ↔ ((whole a ≡ least Signed (width kind)) × (whole b ≡ negsuc 0)))
    × ((binary_of Rem a b ≡ Some (Err Overflow))
    ↔ ((whole a ≡ least Signed (width kind)) × (whole b ≡ negsuc 0)))
    × ¬ (binary_of DivUn a b ≡ Some (Err Overflow))
    × ¬ (binary_of RemUn a b ≡ Some (Err Overflow))

-- `neg` gives 0 less the number, `not` the exclusive or with the number whose bits are all 1
abbrev pub NegationsAndComplements : Type 0
NegationsAndComplements =
    (a : Num)
    → IsNumber a
    → (binary_of Sub (number (kind_of a) (pos 0)) a ≡ Some (Ok (unary_of Neg a)))
    × (binary_of Xor a (number (kind_of a) (negsuc 0)) ≡ Some (Ok (unary_of Not a)))

-- ---- conversions

-- a checked conversion overflows where the number, as it is read, lies outside the target
abbrev pub CheckedConversionsOverflowOutside : Type 0
CheckedConversionsOverflowOutside =
    (op : ConvOp) (reading : Reading) (target : IntegerType) (a : Num)
    → conversion op ≡ Keeps reading target
    → (conversion_of op a ≡ Err Overflow) ↔ IsOutside target.reading target.size (source reading a)

-- a checked conversion that succeeds keeps the number, read as the source was and as the target is
abbrev pub CheckedConversionsKeepTheNumber : Type 0
CheckedConversionsKeepTheNumber =
    (op : ConvOp) (reading : Reading) (target : IntegerType) (a c : Num)
    → conversion op ≡ Keeps reading target
    → conversion_of op a ≡ Ok c
    → source target.reading c ≡ source reading a

-- A checked conversion that succeeds gives what the conversion without a check gives, if the source is read with its sign
-- or as the target is.
abbrev pub CheckedConversionsGivePlainResults : Type 0
CheckedConversionsGivePlainResults =
    (op cut_op : ConvOp) (reading : Reading) (target : IntegerType) (a c : Num)
    → conversion op ≡ Keeps reading target
    → conversion cut_op ≡ Cuts target
    → (reading ≡ Signed) ⊎ (reading ≡ target.reading)
    → conversion_of op a ≡ Ok c
    → conversion_of cut_op a ≡ Ok c

-- a conversion without a check always gives a number, which its target holds
abbrev pub ConversionsGiveNumbersOfTheTarget : Type 0
ConversionsGiveNumbersOfTheTarget =
    (op : ConvOp) (target : IntegerType) (a : Num)
    → conversion op ≡ Cuts target
    → (c : Num) × (conversion_of op a ≡ Ok c)
    × (holds target.reading target.size (source target.reading c) ≡ true)

-- ---- comparisons

-- the comparison that holds where this one doesn't
abbrev pub opposite : CmpOp → CmpOp
opposite Eq = Ne
opposite Ne = Eq
opposite Ge = Lt
opposite GeUn = LtUn
opposite Gt = Le
opposite GtUn = LeUn
opposite Le = Gt
opposite LeUn = GtUn
opposite Lt = Ge
opposite LtUn = GeUn

-- the comparison that holds of the operands in the other order
abbrev pub turned : CmpOp → CmpOp
turned Eq = Eq
turned Ne = Ne
turned Ge = Le
turned GeUn = LeUn
turned Gt = Lt
turned GtUn = LtUn
turned Le = Ge
turned LeUn = GeUn
turned Lt = Gt
turned LtUn = GtUn

-- each comparison holds where its opposite does not, and where the turned one holds of the operands in the other order
abbrev pub ComparisonsHaveOpposites : Type 0
ComparisonsHaveOpposites =
    (op : CmpOp) (a b : Num)
    → (comparison_of (opposite op) a b ≡ option_map not (comparison_of op a b))
    × (comparison_of (turned op) b a ≡ comparison_of op a b)

-- ceq holds of two numbers that can be compared where their values are one, whatever their kinds
abbrev pub EqualNumbersHaveOneValue : Type 0
EqualNumbersHaveOneValue =
    (a b : Num) (kind : Kind)
    → common_kind (kind_of a) (kind_of b) ≡ Some kind
    → (comparison_of Eq a b ≡ Some true) ↔ (whole a ≡ whole b)
