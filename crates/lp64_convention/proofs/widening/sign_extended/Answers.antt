use Rattle.std.proofs.Common.{◌-◌, ◌≤◌, ◌^◌, ⊎_elim, arith}
use Rattle.std.proofs.Math.Nat.{div-eq_of_lt}
use Rattle.std.proofs.lemmas.Bool.{cases_lt}
use Rattle.lp64_convention.proofs.Patterns.{extended_high, or_ones}
use Rattle.lp64_convention.proofs.widening.sign_extended.Goals as goal

pub returns-else-low-bits-eq0 : goal.returns-else-low-bits-eq0
returns-else-low-bits-eq0 c =
    let n = c.args.bits in
    let p = c.args.low in
    let high : 2 ^ (n - 1) ≤ p = ⊎_elim (λ low. absurd (c.if-low-bits-eq0.false (div-eq_of_lt low))) (λ h. h) (cases_lt p (2 ^ (n - 1))) in
    omega (arith, or_ones n p (omega arith) c.requires.within, extended_high n 64 p (omega arith) (omega arith) high c.requires.within)
