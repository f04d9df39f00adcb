-- Shifts by amounts with the same low bits.
use Rattle.std.proofs.Common.{◌≡◌, ℤ, true, Ok, ap}
use Rattle.std.proofs.lemmas.Bool.{false≢true}
use Rattle.std.specs.Int.{Width, int_wrap}
use Rattle.cil_arith.specs.Kinds.{read}
use Rattle.cil_arith.specs.Arithmetic.{Rule, Wraps, Checks, Divides, Joins, Shifts, is_shift, amount_of, answer}

pub same_amount : (r : Rule) (w : Width) (a b b' : ℤ) → is_shift r ≡ true → amount_of w b ≡ amount_of w b' → answer r w a b ≡ answer r w a b'
same_amount (Wraps f) w a b b' h e = absurd (false≢true h)
same_amount (Checks reading f) w a b b' h e = absurd (false≢true h)
same_amount (Divides reading f) w a b b' h e = absurd (false≢true h)
same_amount (Joins f) w a b b' h e = absurd (false≢true h)
same_amount (Shifts reading f) w a b b' h e = ap (λ n. Ok (int_wrap w (f (read reading w a) n))) e
