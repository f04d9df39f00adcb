-- The numeric instructions of one and of two operands on whole numbers (ECMA-335 III.1.5, III.3).
use Rattle.std.specs.Prelude.{ℕ, ◌^◌, ℤ, pos, negsuc, ◌+ℤ◌, ◌-ℤ◌, ◌*ℤ◌, neg_ℤ, int_div, int_rem, bit_and, bit_or, bit_xor, unsigned_abs, Bool, true, false, if◌then◌else◌, ◌==◌, Option, Result, Ok, Err}
use Rattle.std.specs.Option.{option_map}
use Rattle.std.specs.Result.{result_map_both}
use Rattle.std.specs.Int.{Width, cast_unsigned, int_wrap, int_rem_euclid, int_shr}
use mir.Val.{bits}
use Rattle.cil_arith.specs.declared.num.Num.{Num}
use Rattle.cil_arith.specs.declared.num.Arith.{Arith}
use Rattle.cil_arith.specs.declared.num.Arith.TheVariants.{DivideByZero, Overflow}
use Rattle.cil_arith.specs.declared.operations.BinOp.{BinOp}
use Rattle.cil_arith.specs.declared.operations.BinOp.TheVariants.{Add, Sub, Mul, Div, DivUn, Rem, RemUn, AddOvf, AddOvfUn, SubOvf, SubOvfUn, MulOvf, MulOvfUn, And, Or, Xor, Shl, Shr, ShrUn}
use Rattle.cil_arith.specs.declared.operations.UnOp.{UnOp}
use Rattle.cil_arith.specs.declared.operations.UnOp.TheVariants.{Neg, Not}
use Rattle.cil_arith.specs.Kinds.{Kind, kind_of, width, whole, number, wrapped, Reading, Signed, Unsigned, read, holds, common_kind, shift_kind}

-- How an operation finds its result from two whole numbers.
pub data Rule : Type 0 where
  -- the low bits of the whole result
  Wraps : (ℤ → ℤ → ℤ) → Rule
  -- the whole result in a reading, Overflow where it doesn't fit
  Checks : Reading → (ℤ → ℤ → ℤ) → Rule
  -- the same of the quotient or the remainder: DivideByZero where the divisor is 0, Overflow where the quotient doesn't fit
  Divides : Reading → (ℤ → ℤ → ℤ) → Rule
  -- bit by bit
  Joins : (ℕ → ℕ → ℕ) → Rule
  -- the low bits of the value in a reading, shifted by an amount
  Shifts : Reading → (ℤ → ℕ → ℤ) → Rule

-- `z` times 2 to the `amount`
abbrev pub shifted_left : ℤ → ℕ → ℤ
shifted_left z amount = z *ℤ pos (2 ^ amount)

-- The operations. `int_div` rounds toward zero and `int_rem` has the dividend's sign; `int_shr` divides by a power of 2
-- and rounds down.
abbrev pub rule : BinOp → Rule
rule Add = Wraps ◌+ℤ◌
rule Sub = Wraps ◌-ℤ◌
rule Mul = Wraps ◌*ℤ◌
rule Div = Divides Signed int_div
rule DivUn = Divides Unsigned int_div
rule Rem = Divides Signed int_rem
rule RemUn = Divides Unsigned int_rem
rule AddOvf = Checks Signed ◌+ℤ◌
rule AddOvfUn = Checks Unsigned ◌+ℤ◌
rule SubOvf = Checks Signed ◌-ℤ◌
rule SubOvfUn = Checks Unsigned ◌-ℤ◌
rule MulOvf = Checks Signed ◌*ℤ◌
rule MulOvfUn = Checks Unsigned ◌*ℤ◌
rule And = Joins bit_and
rule Or = Joins bit_or
rule Xor = Joins bit_xor
rule Shl = Shifts Signed shifted_left
rule Shr = Shifts Signed int_shr
rule ShrUn = Shifts Unsigned int_shr

-- shifts are the operations whose second operand is an amount
abbrev pub is_shift : Rule → Bool
is_shift (Wraps f) = false
is_shift (Checks reading f) = false
is_shift (Divides reading f) = false
is_shift (Joins f) = false
is_shift (Shifts reading f) = true

-- the kind of the result, where the operands fit the operation
abbrev pub result_kind : Rule → Kind → Kind → Option Kind
result_kind r a b = if is_shift r then shift_kind a b else common_kind a b

-- a whole number that has to fit the width in the reading, as its bits read with a sign
abbrev pub checked : Reading → Width → ℤ → Result ℤ Arith
checked reading w z = if holds reading w z then Ok (int_wrap w z) else Err Overflow

-- an operation on a dividend and a divisor, whose quotient has to fit
abbrev pub divided : Reading → Width → (ℤ → ℤ → ℤ) → ℤ → ℤ → Result ℤ Arith
divided reading w f a b =
    if unsigned_abs b == 0
    then Err DivideByZero
    else if holds reading w (int_div a b) then Ok (int_wrap w (f a b)) else Err Overflow

-- a shift's amount: its low 5 bits at 32 bits, its low 6 at 64
abbrev pub amount_of : Width → ℤ → ℕ
amount_of w b = unsigned_abs (int_rem_euclid b (pos (bits w)))

-- what an operation gives for two numbers of a width, by their values: a value, or the error
abbrev pub answer : Rule → Width → ℤ → ℤ → Result ℤ Arith
answer (Wraps f) w a b = Ok (int_wrap w (f a b))
answer (Checks reading f) w a b = checked reading w (f (read reading w a) (read reading w b))
answer (Divides reading f) w a b = divided reading w f (read reading w a) (read reading w b)
answer (Joins f) w a b = Ok (int_wrap w (pos (f (cast_unsigned w a) (cast_unsigned w b))))
answer (Shifts reading f) w a b = Ok (int_wrap w (f (read reading w a) (amount_of w b)))

-- a value as a number of a kind
abbrev pub in_kind : Kind → Result ℤ Arith → Result Num Arith
in_kind kind result = result_map_both (number kind) (λ error. error) result

-- What an operation gives for two numbers; none where their kinds don't fit it.
abbrev pub binary_of : BinOp → Num → Num → Option (Result Num Arith)
binary_of op a b =
    option_map (λ kind. in_kind kind (answer (rule op) (width kind) (whole a) (whole b)))
    (result_kind (rule op) (kind_of a) (kind_of b))

-- the negative, and the number with every bit turned
abbrev pub unary_whole : UnOp → ℤ → ℤ
unary_whole Neg z = neg_ℤ z
unary_whole Not z = negsuc 0 -ℤ z

-- what an operation gives for one number
abbrev pub unary_of : UnOp → Num → Num
unary_of op a = wrapped (kind_of a) (unary_whole op (whole a))
