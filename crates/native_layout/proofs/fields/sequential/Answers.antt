use Rattle.std.proofs.Common.{sym, subst, Result, ℕ, IsTrue}
use Rattle.native_layout.specs.declared.refused.LayoutBad.{LayoutBad}
use Rattle.native_layout.specs.declared.shapes.Layout.{Layout}
use Rattle.native_layout.specs.Struct.{Struct, is_align}
use Rattle.native_layout.specs.Answer.{Answers, laid}
use Rattle.native_layout.specs.Ruled.{ruled}
use Rattle.native_layout.proofs.Ruled.{has_fields}
use Rattle.native_layout.proofs.Structs.{sequential_laid, sequential_refused, same_err}
use Rattle.native_layout.proofs.fields.sequential.Goals as goal

pub returns-clause-value : goal.returns-clause-value
returns-clause-value c = λ offsets fields are.
    let s : Struct = ruled c.args.rules offsets fields in
    let has = has_fields c.args.rules offsets c.args.extents.now fields are c.requires.some c.requires.packing in
    let is = sequential_laid s c.args.extents.now c.in_ok-placed.placed c.greatest_align-align.result
    has c.requires.sequential are.extents c.in_ok-placed.ensures c.greatest_align-align.ensures.value in
    subst (λ (said : Result Layout ℕ). Answers c.finish.result said) (sym is) c.finish.ensures.value

pub returns-in_err-placed-clause-value : goal.returns-in_err-placed-clause-value
returns-in_err-placed-clause-value c = λ offsets fields are.
    let s : Struct = ruled c.args.rules offsets fields in
    let has = has_fields c.args.rules offsets c.args.extents.now fields are c.requires.some c.requires.packing in
    let good = subst (λ (n : ℕ). IsTrue (is_align n)) c.greatest_align-align.ensures.value c.greatest_align-align.ensures.align in
    let said = sequential_refused s c.args.extents.now c.in_err-placed.field-0.0 has c.requires.sequential are.extents good c.in_err-placed.ensures in
    let same = same_err c.from_residual.result c.in_err-placed.field-0.0 c.from_residual.ensures.1 in
    subst (λ (r : Result Layout LayoutBad). Answers r (laid s)) (sym same) said
