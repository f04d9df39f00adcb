-- Laws of what `native` answers.
use Rattle.std.specs.Prelude.{◌≡◌, ℕ, ◌<◌, ◌^◌, List, [], ◌∷◌, ◌++◌, length, codes, Some, Contains}
use Rattle.host_run.specs.Grammar.{word_value}
use Rattle.host_run.specs.Texts.{sixteen_digits}
use Rattle.host_run.specs.Native.{native_of}

-- a number was given; the library is broken; the fuel is spent; native code faulted; the symbol
-- isn't there
abbrev pub native_statuses : List ℕ
native_statuses = 0 ∷ 205 ∷ 208 ∷ 213 ∷ 214 ∷ []

-- the answer to a library's bytes has one of these, and never that of want of memory
abbrev pub NativeHasFiveStatuses : Type 0
NativeHasFiveStatuses =
    (lib symbol numbers bytes : List ℕ)
    → Contains native_statuses (native_of lib symbol numbers bytes).status

-- a number of 64 bits has sixteen digits, and as a word of a line they are that number
abbrev pub IsReadBack : ℕ → Type 0
IsReadBack n =
    (length (sixteen_digits n) ≡ 16) × (word_value (codes "0x" ++ sixteen_digits n) ≡ Some n)

abbrev pub PrintedNumbersReadBack : Type 0
PrintedNumbersReadBack = (n : ℕ) → n < 2 ^ 64 → IsReadBack n
