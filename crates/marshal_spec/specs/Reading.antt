-- A descriptor is read from its front to its end: the descriptor, or the place where it is refused.
-- That this is the grammar is `ReadingIsTheGrammar` of Laws.
use Rattle.std.specs.Prelude.{ℕ, ◌+◌, Bool, true, nat_lt, nat_le, ◌==◌, List, length, slice_index, Option, Some, None, Result, Ok, Err, if◌then◌else◌}
use Rattle.byte_view.specs.Numbers.{compressed_at}
use Rattle.byte_view.specs.Reading.{◌>>=◌}
use Rattle.marshal_spec.specs.declared.spec.Spec.{Spec}
use Rattle.marshal_spec.specs.declared.spec.Spec.TheVariants.{Plain, ByValText, ByValArray, LpArray}
use Rattle.marshal_spec.specs.NativeTypes.{is_plain, by_val_text, by_val_array, lp_array, no_element}

-- what stands in bytes from a place to their end
abbrev pub Reader : Type 0
Reader = List ℕ → ℕ → Result Spec ℕ

-- nothing more: the descriptor is known
abbrev pub ended : Spec → Reader
ended spec bytes at = if nat_le (length bytes) at then Ok spec else Err at

-- the descriptor is known if nothing more stands
abbrev pub if_ended : Spec → Reader → Reader
if_ended spec more bytes at = if nat_le (length bytes) at then Ok spec else more bytes at

-- a byte that passes a test
abbrev pub byte_at : (ℕ → Bool) → List ℕ → ℕ → Result (ℕ × ℕ) ℕ
byte_at passes bytes at =
    if nat_lt at (length bytes)
    then (if passes (slice_index bytes at) then Ok (slice_index bytes at, at + 1) else Err at)
    else Err at

-- where a compressed number is refused: at its first byte where no number begins with that; else it
-- is cut short by the end
abbrev pub refused_number : List ℕ → ℕ → ℕ
refused_number bytes at =
    if nat_lt at (length bytes)
    then (if nat_lt (slice_index bytes at) 0xE0 then length bytes else at)
    else at

abbrev pub after_size : ℕ → ℕ → Option (ℕ × ℕ) → Result (ℕ × ℕ) ℕ
after_size at refused (Some x) = Ok (x.0, at + x.1)
after_size at refused None = Err refused

-- a compressed number, and the place after it
abbrev pub number_in : List ℕ → ℕ → Result (ℕ × ℕ) ℕ
number_in bytes at = after_size at (refused_number bytes at) (compressed_at bytes at)

abbrev pub byte_then : (ℕ → Bool) → (ℕ → Reader) → Reader
byte_then passes next bytes at = byte_at passes bytes at >>= λ x. next x.0 bytes x.1

abbrev pub number_then : (ℕ → Reader) → Reader
number_then next bytes at = number_in bytes at >>= λ x. next x.0 bytes x.1

-- the parts of each descriptor
abbrev pub text_rest : Reader
text_rest = number_then (λ n. ended (ByValText n))

abbrev pub array_rest : Reader
array_rest =
    number_then (λ n. if_ended (ByValArray n None)
    (byte_then is_plain (λ code. ended (ByValArray n (Some code)))))

abbrev pub is_element : ℕ → Bool
is_element code = if code == no_element then true else is_plain code

abbrev pub element_of : ℕ → Option ℕ
element_of code = if code == no_element then None else Some code

abbrev pub numbers_rest : Option ℕ → Reader
numbers_rest element =
    if_ended (LpArray element None None None)
    (number_then (λ p. if_ended (LpArray element (Some p) None None)
    (number_then (λ c. if_ended (LpArray element (Some p) (Some c) None)
    (number_then (λ f. ended (LpArray element (Some p) (Some c) (Some f))))))))

abbrev pub lp_array_rest : Reader
lp_array_rest =
    if_ended (LpArray None None None None)
    (byte_then is_element (λ code. numbers_rest (element_of code)))

abbrev pub is_first : ℕ → Bool
is_first code =
    if code == by_val_text then true
    else if code == by_val_array then true
    else if code == lp_array then true
    else is_plain code

-- the rest of a descriptor, by its first byte
abbrev pub rest_after : ℕ → Reader
rest_after code =
    if code == by_val_text then text_rest
    else if code == by_val_array then array_rest
    else if code == lp_array then lp_array_rest
    else ended (Plain code)

-- the descriptor that bytes spell, or where they are refused
unfoldable pub spec_read : List ℕ → Result Spec ℕ
spec_read bytes = byte_then is_first rest_after bytes 0

abbrev pub value_of : Result Spec ℕ → Option Spec
value_of (Ok spec) = Some spec
value_of (Err place) = None

-- the descriptor that bytes spell
unfoldable pub spec_of : List ℕ → Option Spec
spec_of bytes = value_of (spec_read bytes)
