-- The laws of conversions.
use Rattle.std.proofs.Common.{◌≡◌, ⊎_elim, ◌-◌, ◌%◌, ◌^◌, ◌≤◌, ℤ, pos, negsuc, Bool, true, false, if◌then◌else◌, leb, lit≤, Result, Ok, Err, refl, sym, ap, ◌∙◌, subst, arith}
use Rattle.std.proofs.Math.Nat.{mod-lt, pow-le-pow_right}
use Rattle.std.proofs.lemmas.Nat.{pow_pos}
use Rattle.std.proofs.lemmas.Int.{SFits-int_wrap}
use Rattle.std.proofs.lemmas.Bool.{leb-true, false≢true}
use Rattle.std.specs.Int.{Width, w8, w16, w32, w64, w128, int_wrap}
use mir.Val.{bits, hbits}
use Rattle.cil_arith.specs.declared.num.Num.{Num}
use Rattle.cil_arith.specs.declared.num.Arith.{Arith}
use Rattle.cil_arith.specs.declared.num.Arith.TheVariants.{Overflow}
use Rattle.cil_arith.specs.declared.operations.ConvOp.{ConvOp}
use Rattle.cil_arith.specs.declared.operations.ConvOp.TheVariants as op
use Rattle.cil_arith.specs.Kinds.{Kind, Int32, Int64, NativeInt, kind_of, width, whole, wrapped, Reading, Signed, Unsigned, read, holds}
use Rattle.cil_arith.specs.Conversions.{IntegerType, Conversion, Cuts, Keeps, conversion, source, low_bits, cut, checked, converted}
use Rattle.cil_arith.specs.Laws.{CheckedConversionsKeepTheNumber, CheckedConversionsGivePlainResults, ConversionsGiveNumbersOfTheTarget}
use Rattle.cil_arith.proofs.Bits.{holds_signed, holds_unsigned, read_wrapped}
use Rattle.cil_arith.proofs.Cutting.{cut_fitting}

-- ---- each target is at most as wide as the kind that holds it

target_of : Conversion → IntegerType
target_of (Cuts target) = target
target_of (Keeps reading target) = target

as_narrow : IntegerType → Bool
as_narrow t = leb (bits t.size) (bits (width t.kind))

narrow_targets : (o : ConvOp) → as_narrow (target_of (conversion o)) ≡ true
unfolding target_of as_narrow
narrow_targets op.I1 = refl
narrow_targets op.I2 = refl
narrow_targets op.I4 = refl
narrow_targets op.I8 = refl
narrow_targets op.I = refl
narrow_targets op.U1 = refl
narrow_targets op.U2 = refl
narrow_targets op.U4 = refl
narrow_targets op.U8 = refl
narrow_targets op.U = refl
narrow_targets op.OvfI1 = refl
narrow_targets op.OvfI2 = refl
narrow_targets op.OvfI4 = refl
narrow_targets op.OvfI8 = refl
narrow_targets op.OvfI = refl
narrow_targets op.OvfU1 = refl
narrow_targets op.OvfU2 = refl
narrow_targets op.OvfU4 = refl
narrow_targets op.OvfU8 = refl
narrow_targets op.OvfU = refl
narrow_targets op.OvfI1Un = refl
narrow_targets op.OvfI2Un = refl
narrow_targets op.OvfI4Un = refl
narrow_targets op.OvfI8Un = refl
narrow_targets op.OvfIUn = refl
narrow_targets op.OvfU1Un = refl
narrow_targets op.OvfU2Un = refl
narrow_targets op.OvfU4Un = refl
narrow_targets op.OvfU8Un = refl
narrow_targets op.OvfUUn = refl

narrow : (o : ConvOp) (c : Conversion) → conversion o ≡ c → as_narrow (target_of c) ≡ true
narrow o c e = subst (λ x. as_narrow (target_of x) ≡ true) e (narrow_targets o)

half_bits : (v w : Width) → bits v ≤ bits w → hbits v ≤ hbits w
half_bits w8 w8 h = omega arith
half_bits w8 w16 h = omega arith
half_bits w8 w32 h = omega arith
half_bits w8 w64 h = omega arith
half_bits w8 w128 h = omega arith
half_bits w16 w8 h = omega arith
half_bits w16 w16 h = omega arith
half_bits w16 w32 h = omega arith
half_bits w16 w64 h = omega arith
half_bits w16 w128 h = omega arith
half_bits w32 w8 h = omega arith
half_bits w32 w16 h = omega arith
half_bits w32 w32 h = omega arith
half_bits w32 w64 h = omega arith
half_bits w32 w128 h = omega arith
half_bits w64 w8 h = omega arith
half_bits w64 w16 h = omega arith
half_bits w64 w32 h = omega arith
half_bits w64 w64 h = omega arith
half_bits w64 w128 h = omega arith
half_bits w128 w8 h = omega arith
half_bits w128 w16 h = omega arith
half_bits w128 w32 h = omega arith
half_bits w128 w64 h = omega arith
half_bits w128 w128 h = omega arith

-- a number that a target holds is one of its kind, in the same reading
held_wider : (reading : Reading) (v w : Width) (z : ℤ) → bits v ≤ bits w → holds reading v z ≡ true → holds reading w z ≡ true
held_wider Signed v w z h e =
    let f = (holds_signed v z).0 e in
    let more : 2 ^ hbits v ≤ 2 ^ hbits w = pow-le-pow_right (lit≤ tt) (half_bits v w h) in
    (holds_signed w z).1 (record { sfits = omega (arith, f.sfits) })
held_wider Unsigned v w (pos n) h e =
    let more : 2 ^ bits v ≤ 2 ^ bits w = pow-le-pow_right (lit≤ tt) h in
    (holds_unsigned w n).1 (omega (arith, (holds_unsigned v n).0 e))
held_wider Unsigned v w (negsuc n) h e = absurd (false≢true e)

-- the number of a kind is read again
read_number : (kind : Kind) (reading : Reading) (z : ℤ) → holds reading (width kind) z ≡ true → source reading (wrapped kind z) ≡ z
read_number Int32 reading z e = read_wrapped reading w32 z e
read_number Int64 reading z e = read_wrapped reading w64 z e
read_number NativeInt reading z e = read_wrapped reading w64 z e

read_target : (t : IntegerType) (z : ℤ) → as_narrow t ≡ true → holds t.reading t.size z ≡ true → source t.reading (wrapped t.kind z) ≡ z
unfolding as_narrow
read_target t z h e = read_number t.kind t.reading z (held_wider t.reading t.size (width t.kind) z (leb-true (bits t.size) (bits (width t.kind)) h) e)

-- ---- what a checked conversion gave

ok_same : (x y : Num) (r : Result Num Arith) → r ≡ Ok x → r ≡ Ok y → x ≡ y
ok_same x y r d e = cc

not_ok : (x : Num) (r : Result Num Arith) → r ≡ Err Overflow → r ≡ Ok x → ⊥
not_ok x r d e = cc

kept : (t : IntegerType) (z : ℤ) (c : Num) → checked t z ≡ Ok c → (holds t.reading t.size z ≡ true) × (wrapped t.kind z ≡ c)
kept t z c e = by (holds t.reading t.size z) refl e
  where
    by : (b : Bool) → holds t.reading t.size z ≡ b → (if b then Ok (wrapped t.kind z) else Err Overflow) ≡ Ok c → (holds t.reading t.size z ≡ true) × (wrapped t.kind z ≡ c)
    by true h e = (h, ok_same (wrapped t.kind z) c (Ok (wrapped t.kind z)) refl e)
    by false h e = absurd (not_ok c (Err Overflow) refl e)

pub checked_conversions_keep_the_number : CheckedConversionsKeepTheNumber
unfolding target_of
checked_conversions_keep_the_number o reading t a c e h =
    let z = source reading a in
    let k = kept t z c (ap (λ x. converted x a) (sym e) ∙ h) in
    ap (source t.reading) (sym k.1) ∙ read_target t z (narrow o (Keeps reading t) e) k.0

-- a number that isn't negative has one reading
one_reading : (r : Reading) (v w : Width) (z : ℤ) → holds r v z ≡ true → read r w z ≡ z
one_reading Signed v w z e = refl
one_reading Unsigned v w (pos n) e = refl
one_reading Unsigned v w (negsuc n) e = absurd (false≢true e)

pub checked_conversions_give_plain_results : CheckedConversionsGivePlainResults
checked_conversions_give_plain_results o cut_op reading t a c e d either h =
    let z = source reading a in
    let k = kept t z c (ap (λ x. converted x a) (sym e) ∙ h) in
    let same : source t.reading a ≡ z = ⊎_elim
    (λ signed. let is : z ≡ whole a = ap (λ r. source r a) signed in one_reading t.reading t.size (width (kind_of a)) (whole a) (ap (holds t.reading t.size) (sym is) ∙ k.0) ∙ sym is)
    (λ as_target. ap (λ r. source r a) (sym as_target))
    either in
    ap (λ x. converted x a) d ∙ ap (λ x. Ok (cut t x)) same ∙ cut_fitting t z k.0 ∙ ap (λ x. converted x a) (sym e) ∙ h

-- ---- the low bits are a number of their width

low_bits_held : (r : Reading) (w : Width) (z : ℤ) → holds r w (low_bits r w z) ≡ true
low_bits_held Signed w z = (holds_signed w (int_wrap w z)).1 (SFits-int_wrap w z)
low_bits_held Unsigned w (pos n) = (holds_unsigned w (n % 2 ^ bits w)).1 (mod-lt n (pow_pos (bits w)))
low_bits_held Unsigned w (negsuc n) = (holds_unsigned w (2 ^ bits w - 1 - n % 2 ^ bits w)).1 (omega (arith, pow_pos (bits w)))

pub conversions_give_numbers_of_the_target : ConversionsGiveNumbersOfTheTarget
unfolding target_of
conversions_give_numbers_of_the_target o t a e =
    let z = source t.reading a in
    let n = low_bits t.reading t.size z in
    let held = low_bits_held t.reading t.size z in
    (cut t z, ap (λ x. converted x a) e, ap (holds t.reading t.size) (read_target t n (narrow o (Cuts t) e) held) ∙ held)
