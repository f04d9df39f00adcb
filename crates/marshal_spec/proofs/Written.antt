-- What is written is a spelling.
use Rattle.std.proofs.Common.{◌≡◌, ℕ, ◌+◌, ◌/◌, ◌%◌, ◌^◌, ◌<◌, Bool, true, false, List, [], ◌∷◌, ◌++◌, length, Option, Some, None, refl, arith}
use Rattle.std.specs.Prelude.{nat_lt}
use Rattle.std.specs.Int.{w16, w32, to_be_bytes, from_be_bytes}
use Rattle.std.proofs.lemmas.Bool.{lt-ltb, le-ltb, ltb-true}
use Rattle.std.proofs.lemmas.List.{append-nil}
use Rattle.std.proofs.lemmas.Nat.{from_be_bytes-to_be_bytes_2, from_be_bytes-to_be_bytes_4}
use Rattle.byte_view.specs.Numbers.{compressed_at, compressed_of}
use Rattle.marshal_spec.specs.declared.spec.Spec.{Spec}
use Rattle.marshal_spec.specs.declared.spec.Spec.TheVariants.{Plain, ByValText, ByValArray, LpArray}
use Rattle.marshal_spec.specs.Grammar.{IsNumber, IsElement, AreNumbers, Spells}
use Rattle.marshal_spec.specs.Grammar as grammar
use Rattle.marshal_spec.specs.Written.{shortest, written, written_number, code_or_none, IsSpec, IsSmall, IsPlainIfThere, Follows}
use Rattle.marshal_spec.specs.Laws.{WrittenIsRead}
use Rattle.marshal_spec.proofs.Numbers.{at_one, at_two, at_four}
use Rattle.marshal_spec.proofs.Grammar.{spelled_is_read}

revalued : (o : Option (ℕ × ℕ)) (a b c d : ℕ) → o ≡ Some (a, c) → a ≡ b → c ≡ d → o ≡ Some (b, d)
revalued o a b c d e same fits = rw (← fits, ← same) e

valued : (bytes : List ℕ) (value n size : ℕ) → compressed_at bytes 0 ≡ Some (value, size) → value ≡ n → size ≡ length bytes → IsNumber bytes n
valued bytes value n size e same fits = revalued _ value n size (length bytes) e same fits

one_byte : (n : ℕ) → nat_lt n (2 ^ 7) ≡ true → IsNumber (n ∷ []) n
one_byte n e =
    let value : compressed_of (n ∷ []) 1 ≡ n = omega arith in
    valued (n ∷ []) _ n 1 (at_one n [] e) value refl

two_bytes : (n : ℕ) → n < 2 ^ 14 → IsNumber (to_be_bytes w16 (0x8000 + n)) n
two_bytes n h =
    let whole : from_be_bytes w16 (to_be_bytes w16 (0x8000 + n)) ≡ 0x8000 + n = from_be_bytes-to_be_bytes_2 (0x8000 + n) (omega arith) in
    let value : compressed_of (to_be_bytes w16 (0x8000 + n)) 2 ≡ n = omega (arith, whole) in
    let above : nat_lt ((0x8000 + n) / 256 % 256) 0x80 ≡ false = le-ltb _ _ (omega arith) in
    let below : nat_lt ((0x8000 + n) / 256 % 256) 0xC0 ≡ true = lt-ltb _ _ (omega arith) in
    valued (to_be_bytes w16 (0x8000 + n)) _ n 2 (at_two _ _ [] above below) value refl

four_bytes : (n : ℕ) → n < 2 ^ 29 → IsNumber (to_be_bytes w32 (0xC0000000 + n)) n
four_bytes n h =
    let whole : from_be_bytes w32 (to_be_bytes w32 (0xC0000000 + n)) ≡ 0xC0000000 + n = from_be_bytes-to_be_bytes_4 (0xC0000000 + n) (omega arith) in
    let value : compressed_of (to_be_bytes w32 (0xC0000000 + n)) 4 ≡ n = omega (arith, whole) in
    let first : nat_lt ((0xC0000000 + n) / 16777216 % 256) 0x80 ≡ false = le-ltb _ _ (omega arith) in
    let above : nat_lt ((0xC0000000 + n) / 16777216 % 256) 0xC0 ≡ false = le-ltb _ _ (omega arith) in
    let below : nat_lt ((0xC0000000 + n) / 16777216 % 256) 0xE0 ≡ true = lt-ltb _ _ (omega arith) in
    valued (to_be_bytes w32 (0xC0000000 + n)) _ n 4 (at_four _ _ _ _ [] first above below) value refl

shortest_by : (n : ℕ) (a b : Bool) → nat_lt n (2 ^ 7) ≡ a → nat_lt n (2 ^ 14) ≡ b → n < 2 ^ 29 → IsNumber (shortest n) n
shortest_by n true b e f h = rw e (one_byte n e)
shortest_by n false true e f h = rw (e, f) (two_bytes n (ltb-true _ _ f))
shortest_by n false false e f h = rw (e, f) (four_bytes n h)

-- a number that is written is one
pub shortest_is : (n : ℕ) → n < 2 ^ 29 → IsNumber (shortest n) n
shortest_is n h = shortest_by n _ _ refl refl h

element_written : (element : Option ℕ) → IsPlainIfThere element → IsElement (code_or_none element) element
element_written (Some code) h = grammar.given h
element_written None h = grammar.missing

nothing_after : {A : Type 0} (n : ℕ) → ◌≡◌ {A = Option ℕ} (Some n) None → A
nothing_after n e = absurd (cc)

numbers_written : (p c f : Option ℕ) → IsSmall p → IsSmall c → IsSmall f → Follows p c → Follows c f → AreNumbers (written_number p ++ (written_number c ++ written_number f)) p c f
numbers_written (Some p) (Some c) (Some f) hp hc hf pc cf =
    grammar.flagged (shortest p) (shortest c) (shortest f) (shortest_is p hp) (shortest_is c hc) (shortest_is f hf)
numbers_written (Some p) (Some c) None hp hc hf pc cf =
    rw (append-nil (shortest c)) (grammar.counted (shortest p) (shortest c) (shortest_is p hp) (shortest_is c hc))
numbers_written (Some p) None None hp hc hf pc cf =
    rw (append-nil (shortest p)) (grammar.parameter (shortest_is p hp))
numbers_written None None None hp hc hf pc cf = grammar.none
numbers_written None (Some c) f hp hc hf pc cf = nothing_after c pc
numbers_written p None (Some f) hp hc hf pc cf = nothing_after f cf

pub written_spells : (spec : Spec) → IsSpec spec → Spells (written spec) spec
written_spells (Plain code) h = grammar.plain h
written_spells (ByValText n) h = grammar.text (shortest_is n h)
written_spells (ByValArray n (Some code)) h = grammar.array_of (shortest n) (shortest_is n h.0) h.1
written_spells (ByValArray n None) h = rw (append-nil (shortest n)) (grammar.array (shortest_is n h.0))
written_spells (LpArray element p c f) h =
    grammar.pointed_of (element_written element h.0) (numbers_written p c f h.1 h.2 h.3 h.4 h.5)

pub written_is_read : WrittenIsRead
written_is_read spec h = spelled_is_read (written_spells spec h)
