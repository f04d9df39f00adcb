-- The comparisons of ceq, cgt, clt and the branches (ECMA-335 III.1.5, table III.4).
use Rattle.std.specs.Prelude.{ℤ, Bool, not, int_lt, int_le, Option}
use Rattle.std.specs.Option.{option_map}
use Rattle.std.specs.Ordering.{int_eq}
use Rattle.std.specs.Int.{Width}
use Rattle.cil_arith.specs.declared.num.Num.{Num}
use Rattle.cil_arith.specs.declared.operations.CmpOp.{CmpOp}
use Rattle.cil_arith.specs.declared.operations.CmpOp.TheVariants.{Eq, Ne, Ge, GeUn, Gt, GtUn, Le, LeUn, Lt, LtUn}
use Rattle.cil_arith.specs.Kinds.{kind_of, width, whole, Reading, Signed, Unsigned, read, common_kind}

-- A comparison: how the numbers are read, and what holds of the two.
pub record Comparison : Type 0 where
  pub reading : Reading
  pub relation : ℤ → ℤ → Bool

-- a is b or more
abbrev pub at_least : ℤ → ℤ → Bool
at_least a b = int_le b a

-- a is more than b
abbrev pub above : ℤ → ℤ → Bool
above a b = int_lt b a

-- a is not b
abbrev pub unequal : ℤ → ℤ → Bool
unequal a b = not (int_eq a b)

-- the comparisons
abbrev pub comparison : CmpOp → Comparison
comparison Eq = record { reading = Signed; relation = int_eq }
comparison Ne = record { reading = Signed; relation = unequal }
comparison Ge = record { reading = Signed; relation = at_least }
comparison GeUn = record { reading = Unsigned; relation = at_least }
comparison Gt = record { reading = Signed; relation = above }
comparison GtUn = record { reading = Unsigned; relation = above }
comparison Le = record { reading = Signed; relation = int_le }
comparison LeUn = record { reading = Unsigned; relation = int_le }
comparison Lt = record { reading = Signed; relation = int_lt }
comparison LtUn = record { reading = Unsigned; relation = int_lt }

-- whether a comparison holds of two numbers of a width, by their values
abbrev pub relation_at : Comparison → Width → ℤ → ℤ → Bool
relation_at c w a b = c.relation (read c.reading w a) (read c.reading w b)

-- Whether a comparison holds of two numbers; none where their kinds can't be compared.
abbrev pub comparison_of : CmpOp → Num → Num → Option Bool
comparison_of op a b =
    option_map (λ kind. relation_at (comparison op) (width kind) (whole a) (whole b))
    (common_kind (kind_of a) (kind_of b))
