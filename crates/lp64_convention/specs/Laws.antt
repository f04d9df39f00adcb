-- Laws of the calling convention.
use Rattle.std.specs.Prelude.{◌≡◌, ◌⊎◌, ℕ, ◌+◌, ◌*◌, ◌%◌, ◌^◌, ◌<◌, ◌≤◌, Bool, true, false, IsTrue, Some, None, Contains}
use Rattle.lp64_convention.specs.Places.{word_size, argument_registers, first_argument_register, place_of, register_of, preserved_registers}
use Rattle.lp64_convention.specs.Widening.{is_integer_size, signed_of, integer_of, widened}
use Rattle.lp64_convention.specs.declared.places.Slot.TheVariants.{Reg, Stack}

-- two words of one place are one word
abbrev pub WordsHaveOwnPlaces : Type 0
WordsHaveOwnPlaces = (j k : ℕ) → place_of j ≡ place_of k → j ≡ k

-- a word on the stack stands at a multiple of its size
abbrev pub StackWordsAreAligned : Type 0
StackWordsAreAligned = (k at : ℕ) → place_of k ≡ Stack at → at % word_size ≡ 0

-- what is widened is wide
abbrev pub WidenedOnceIsWide : Type 0
WidenedOnceIsWide =
    (bits width : ℕ) (signed : Bool) → IsTrue (is_integer_size width)
    → widened (widened bits width signed) width signed ≡ widened bits width signed

-- two words with the same low bytes are widened to one
abbrev pub OnlyLowBytesMatter : Type 0
OnlyLowBytesMatter =
    (a b width : ℕ) (signed : Bool) → a % 2 ^ (8 * width) ≡ b % 2 ^ (8 * width)
    → widened a width signed ≡ widened b width signed

-- a widened signed integer, read as a signed word, is that integer
abbrev pub SignedIntegersReadBack : Type 0
SignedIntegersReadBack =
    (bits width : ℕ) → IsTrue (is_integer_size width)
    → signed_of 64 (widened bits width true) ≡ integer_of bits width true

-- an integer of 32 bits without a sign is widened as one with a sign
abbrev pub UnsignedWordsAreSignExtended : Type 0
UnsignedWordsAreSignExtended = (bits : ℕ) → widened bits 4 false ≡ widened bits 4 true

-- an integer of 8 or 16 bits without a sign is its own number
abbrev pub NarrowUnsignedIntegersReadBack : Type 0
NarrowUnsignedIntegersReadBack =
    (bits width : ℕ) → (width ≡ 1) ⊎ (width ≡ 2) → widened bits width false ≡ bits % 2 ^ (8 * width)

-- the first eight words are passed in a0 to a7, in order, and no further word in a register
pub record WordsHaveRegisters (k : ℕ) : Type 0 where
  pub passed :
      k < argument_registers → register_of (place_of k) ≡ Some (first_argument_register + k)
  pub others : argument_registers ≤ k → register_of (place_of k) ≡ None

abbrev pub FirstWordsHaveRegisters : Type 0
FirstWordsHaveRegisters = (k : ℕ) → WordsHaveRegisters k

-- no word is passed in a register that the function preserves
abbrev pub PreservedRegistersHaveNoWord : Type 0
PreservedRegistersHaveNoWord =
    (k register : ℕ) → place_of k ≡ Reg register → ¬ Contains preserved_registers register
