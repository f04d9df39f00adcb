-- The native types that descriptors speak of, by their codes (ECMA-335 II.23.4, and for those that
-- it leaves out the numbers of System.Runtime.InteropServices.UnmanagedType).
use Rattle.std.specs.Prelude.{ℕ, Bool, List, [], ◌∷◌, ◌==◌, IsTrue}
use Rattle.std.specs.List.{list_any}

-- the native types without parts: BOOLEAN, I1, U1, I2, U2, I4, U4, I8, U8; LPSTR, LPWSTR, STRUCT; INT, UINT; FUNC, LPUTF8STR
abbrev pub plain_codes : List ℕ
plain_codes =
    0x02 ∷ 0x03 ∷ 0x04 ∷ 0x05 ∷ 0x06 ∷ 0x07 ∷ 0x08 ∷ 0x09 ∷ 0x0A
    ∷ 0x14 ∷ 0x15 ∷ 0x1B ∷ 0x1F ∷ 0x20 ∷ 0x26 ∷ 0x30 ∷ []

abbrev pub is_plain : ℕ → Bool
is_plain code = list_any (λ plain. plain == code) plain_codes

abbrev pub IsPlain : ℕ → Type 0
IsPlain code = IsTrue (is_plain code)

-- the first bytes of the other descriptors: BYVALTSTR, BYVALARRAY, ARRAY (an LPArray)
abbrev pub by_val_text : ℕ
by_val_text = 0x17

abbrev pub by_val_array : ℕ
by_val_array = 0x1E

abbrev pub lp_array : ℕ
lp_array = 0x2A

-- MAX: stands where the element type of an LPArray isn't given
abbrev pub no_element : ℕ
no_element = 0x50
