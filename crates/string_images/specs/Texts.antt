-- Texts as UTF-8 and UTF-16 (Unicode 3.9). A text is a list of UTF-16 units.
use Rattle.std.specs.Prelude.{ℕ, List, chars, encode_utf8_all}
use Rattle.std.specs.List.{flat_map}
use Rattle.std.specs.Int.{w16, to_le_bytes}
use Rattle.std.specs.Char.Escape.{encode_utf16}
use Rattle.std.specs.Char.Utf16.{utf16_lossy_chars}
use Rattle.std.specs.Str.Lossy.{utf8_lossy}

-- the UTF-8 of a text (Table 3-6), in which U+FFFD stands for a surrogate without its other half
abbrev pub utf8_of : List ℕ → List ℕ
utf8_of units = encode_utf8_all (utf16_lossy_chars units)

-- the units, each as two bytes, the lower one first (UTF-16LE)
abbrev pub utf16_bytes : List ℕ → List ℕ
utf16_bytes units = flat_map (to_le_bytes w16) units

-- the text that bytes of UTF-8 spell, in which one U+FFFD stands for each maximal subpart of what spells none
abbrev pub units_of : List ℕ → List ℕ
units_of bytes = flat_map encode_utf16 (chars (utf8_lossy bytes))
