use Rattle.std.proofs.Common.{◌≡◌, ℕ, ◌%◌, ◌^◌, pos, FitsSigned, sym, ap, ◌∙◌, ⊎_elim, arith}
use Rattle.std.proofs.Math.Nat.{mod-eq_of_lt}
use Rattle.std.proofs.lemmas.Int.{ints}
use Rattle.std.specs.Int.{w8, w16, w32, w64, cast_signed}
use Rattle.cil_arith.specs.declared.conversions.Target.{Target}
use Rattle.cil_arith.specs.Kinds.{Int32, Int64, NativeInt, Signed, Unsigned}
use Rattle.cil_arith.specs.Conversions.{cut}
use Rattle.cil_arith.specs.Targets.{type_of}
use Rattle.cil_arith.proofs.Cutting.{narrow, full}
use Rattle.cil_arith.proofs.conversions.low_bits.Goals as goal

-- what is cut for the target of this arm
at_target : (n : ℕ) (t t' : Target) → t ≡ t' → cut (type_of t') (pos n) ≡ cut (type_of t) (pos n)
at_target n t t' e = ap (λ x. cut (type_of x) (pos n)) (sym e)

pub returns-in-I1 : goal.returns-in-I1
returns-in-I1 c =
    let in_r : FitsSigned w32 c.from.result = omega (arith, ints) in
    let in_s : FitsSigned w8 c.cast_signed.result = omega (arith, ints) in
    narrow w8 c.from.result c.cast_signed.result c.args.bits in_r in_s c.from.ensures c.cast_signed.ensures ∙ at_target c.args.bits _ _ c.in-I1.is

pub returns-in-I2 : goal.returns-in-I2
returns-in-I2 c =
    let r = c.from-in-I2 in
    let s = c.cast_signed-in-I2 in
    let in_r : FitsSigned w32 r.result = omega (arith, ints) in
    let in_s : FitsSigned w16 s.result = omega (arith, ints) in
    narrow w16 r.result s.result c.args.bits in_r in_s r.ensures s.ensures ∙ at_target c.args.bits _ _ c.in-I2.is

pub returns-in-I4 : goal.returns-in-I4
returns-in-I4 c =
    let r = c.cast_signed-in-I4 in
    let in_r : FitsSigned w32 r.result = omega (arith, ints) in
    ⊎_elim
    (λ e. full Int32 Signed r.result c.args.bits in_r r.ensures ∙ at_target c.args.bits _ _ e)
    (λ e. full Int32 Unsigned r.result c.args.bits in_r r.ensures ∙ at_target c.args.bits _ _ e)
    c.in-I4.is

pub returns-in-I8 : goal.returns-in-I8
returns-in-I8 c =
    let r = c.cast_signed-in-I8 in
    let in_r : FitsSigned w64 r.result = omega (arith, ints) in
    let whole : r.result ≡ cast_signed w64 (c.args.bits % 2 ^ 64) = r.ensures ∙ ap (cast_signed w64) (sym (mod-eq_of_lt c.ranges.bits.fits)) in
    ⊎_elim
    (λ e. full Int64 Signed r.result c.args.bits in_r whole ∙ at_target c.args.bits _ _ e)
    (λ e. full Int64 Unsigned r.result c.args.bits in_r whole ∙ at_target c.args.bits _ _ e)
    c.in-I8.is

pub returns-in-I : goal.returns-in-I
returns-in-I c =
    let r = c.cast_signed-in-I in
    let in_r : FitsSigned w64 r.result = omega (arith, ints) in
    let whole : r.result ≡ cast_signed w64 (c.args.bits % 2 ^ 64) = r.ensures ∙ ap (cast_signed w64) (sym (mod-eq_of_lt c.ranges.bits.fits)) in
    ⊎_elim
    (λ e. full NativeInt Signed r.result c.args.bits in_r whole ∙ at_target c.args.bits _ _ e)
    (λ e. full NativeInt Unsigned r.result c.args.bits in_r whole ∙ at_target c.args.bits _ _ e)
    c.in-I.is
