-- The printed form of a name.
use Rattle.std.specs.Prelude.{◌≡◌, ℕ, ◌+◌, ◌-◌, ◌/◌, ◌%◌, ◌<◌, All, Bool, ◌&&◌, not, ◌==◌, nat_lt, nat_le, List, [], ◌∷◌, if◌then◌else◌, ◌≤◌}
use Rattle.std.specs.List.{flat_map}

-- a printed byte that isn't a space or `\`
abbrev pub stands : ℕ → Bool
stands byte = nat_le 0x21 byte && nat_le byte 0x7E && not (byte == 0x5C)

-- a hexadecimal digit in lower case
abbrev pub digit : ℕ → ℕ
digit value = if nat_lt value 10 then 48 + value else 97 + (value - 10)

-- `\` is 0x5C
unfoldable pub escaped_byte : ℕ → List ℕ
escaped_byte byte =
    if stands byte then byte ∷ [] else 0x5C ∷ digit (byte / 16) ∷ digit (byte % 16) ∷ []

abbrev pub escaped : List ℕ → List ℕ
escaped name = flat_map escaped_byte name

-- each number is a byte
abbrev pub IsBytes : List ℕ → Type 0
IsBytes name = All (λ byte. byte < 256) name

-- two names with one printed form are one name
abbrev pub PrintedNamesDiffer : Type 0
PrintedNamesDiffer = (a b : List ℕ) → IsBytes a → IsBytes b → escaped a ≡ escaped b → a ≡ b

-- a printed character of ASCII, which no space and no line end is
abbrev pub IsPrintable : ℕ → Type 0
IsPrintable byte = (0x21 ≤ byte) × (byte ≤ 0x7E)

-- each byte of a printed name shows
abbrev pub PrintedNamesShow : Type 0
PrintedNamesShow = (name : List ℕ) → IsBytes name → All IsPrintable (escaped name)
