-- Texts in place: of a fixed size, cut at a whole character.
use Rattle.std.specs.Prelude.{ℕ, zero, suc, ◌-◌, Bool, not, ◌&&◌, nat_le, nat_lt, List, ◌++◌, length, take, replicate, slice_index, if◌then◌else◌}
use Rattle.std.specs.Char.Utf16.{is_high_surrogate, is_low_surrogate}
use Rattle.native_layout.specs.declared.shapes.Enc.{Enc}
use Rattle.native_layout.specs.declared.shapes.Enc.TheVariants.{Utf8, Utf16}
use Rattle.string_images.specs.Texts.{utf8_of, utf16_bytes}

-- the greatest place up to n that passes the test, or 0
abbrev pub last_place : (ℕ → Bool) → ℕ → ℕ
last_place passes zero = 0
last_place passes (suc n) = if passes (suc n) then suc n else last_place passes n

-- the byte at the place doesn't go on with a character of UTF-8 (Table 3-6: 10xxxxxx); past the end none does
abbrev pub starts_character : List ℕ → ℕ → Bool
starts_character text place =
    let byte = slice_index text place in not (nat_le 0x80 byte && nat_lt byte 0xC0)

-- the units before and behind the place aren't the two halves of a surrogate pair
abbrev pub parts_no_pair : List ℕ → ℕ → Bool
parts_no_pair units place =
    not (is_high_surrogate (slice_index units (place - 1)) && is_low_surrogate (slice_index units place))

-- the front up to the last place, at most n, that passes the test
abbrev pub cut : (List ℕ → ℕ → Bool) → ℕ → List ℕ → List ℕ
cut passes n text = take (last_place (passes text) n) text

-- zeros behind, up to the count
abbrev pub padded : ℕ → List ℕ → List ℕ
padded count text = text ++ replicate (count - length text) 0

-- a text in place, of so many bytes of UTF-8 or units of UTF-16: what is cut leaves room for a zero
abbrev pub inline : Enc → ℕ → List ℕ → List ℕ
inline Utf8 count units = padded count (cut starts_character (count - 1) (utf8_of units))
inline Utf16 count units = utf16_bytes (padded count (cut parts_no_pair (count - 1) units))
