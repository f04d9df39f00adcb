-- What holds of all texts.
use Rattle.std.specs.Prelude.{◌≡◌, ◌≢◌, ◌^◌, ◌<◌, false, List, All, ℕ}
use Rattle.std.specs.Char.Utf16.{has_unpaired_surrogate}
use Rattle.string_images.specs.Texts.{utf8_of, units_of}

-- each number is a UTF-16 unit
abbrev pub IsUnits : List ℕ → Type 0
IsUnits units = All (λ unit. unit < 2 ^ 16) units

-- a text in which each surrogate has its other half is read back from its UTF-8
abbrev pub TextsRoundTrip : Type 0
TextsRoundTrip = (units : List ℕ) → IsUnits units → has_unpaired_surrogate units ≡ false → units_of (utf8_of units) ≡ units

-- in what is read from UTF-8, whatever the bytes, each surrogate has its other half
abbrev pub ReadSurrogatesArePaired : Type 0
ReadSurrogatesArePaired = (bytes : List ℕ) → has_unpaired_surrogate (units_of bytes) ≡ false

-- the UTF-8 of a text without a zero unit has no zero byte, so that the zero behind it is the first one
abbrev pub EndsAreFirst : Type 0
EndsAreFirst = (units : List ℕ) → All (λ unit. unit ≢ 0) units → All (λ byte. byte ≢ 0) (utf8_of units)
