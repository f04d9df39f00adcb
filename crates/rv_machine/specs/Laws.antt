-- Laws of the machine.
use Rattle.std.specs.Prelude.{◌≡◌, ◌≢◌, ◌⊎◌, ℕ, ◌%◌, ◌^◌, ◌<◌, ◌-◌, slice_set, Some}
use Rattle.std.specs.Prelude.{ℤ, pos, ◌+ℤ◌, ◌*ℤ◌, ◌≤ℤ◌, unsigned_abs}
use Rattle.std.specs.Int.{byte_len}
use Rattle.byteorder.specs.Endian.{little_bytes}
use Rattle.native_memory.specs.AddressSpace.{AddressSpace, lowest}
use Rattle.native_memory.specs.Ranges.{word_at, written_at}
use Rattle.native_memory.specs.Changes.{OnlyBytesChange}
use Rattle.rv_decode.specs.Lengths.{length_of}
use Rattle.rv_machine.specs.declared.effect.Width.{Width}
use Rattle.rv_machine.specs.declared.outcome.Step.TheVariants.{Went, At}
use Rattle.rv_machine.specs.Words.{word, word32, signed, signed32, unsigned32}
use Rattle.rv_machine.specs.Words.{shifted_right, quotient, remainder}
use Rattle.rv_machine.specs.Registers.{with_register}
use Rattle.rv_machine.specs.Machine.{State, next_pc, size_of, rv_step}

-- other contents of x0
abbrev pub with_x0 : State → ℕ → State
with_x0 s value = record s { x = slice_set s.x 0 value }

-- what x0 holds is neither looked at nor written: a step from other contents is the same step, and
-- leaves them
abbrev pub ZeroRegisterIsFree : Type 0
ZeroRegisterIsFree =
    (s : State) (value : ℕ)
    → rv_step (with_x0 s value) ≡ ((rv_step s).0, with_x0 (rv_step s).1 value)

-- one write of 1, 2, 4 or 8 bytes
pub record Writes (old new : AddressSpace) : Type 0 where
  pub addr : ℕ
  pub width : Width
  pub value : ℕ
  pub written : written_at old addr (little_bytes (byte_len (size_of width)) value) ≡ Some new

-- at most one register differs, and not x0; memory is as it was, or as after one write; pc moved on
-- by the length of an instruction, or to a multiple of 4
pub record ChangesLittle (len : ℕ) (old new : State) : Type 0 where
  pub number : ℕ
  pub value : ℕ
  pub registers : new.x ≡ with_register old.x number value
  pub memory : (new.memory ≡ old.memory) ⊎ Writes old.memory new.memory
  pub pc : (new.pc ≡ next_pc old.pc len) ⊎ (new.pc % 4 ≡ 0)

-- so much does the instruction change whose word is the one at pc
pub record Executes (old new : State) : Type 0 where
  pub word : ℕ
  pub fetched : word_at old.memory old.pc ≡ Some word
  pub changes : ChangesLittle (length_of word) old new

-- and a step that went executes it
abbrev pub StepsChangeLittle : Type 0
StepsChangeLittle = (s : State) → (rv_step s).0 ≡ Went → Executes s (rv_step s).1

-- and one that didn't, nothing
abbrev pub FaultsChangeNothing : Type 0
FaultsChangeNothing = (s : State) → (rv_step s).0 ≢ Went → (rv_step s).1 ≡ s

-- a step changes bytes alone of memory: no block comes or goes
abbrev pub StepsKeepBlocks : Type 0
StepsKeepBlocks = (s : State) → OnlyBytesChange s.memory (rv_step s).1.memory

-- a step stops at a place below the lowest address of a block exactly where pc is there
pub record StopsAt (s : State) : Type 0 where
  pub there : s.pc < lowest → (rv_step s).0 ≡ At s.pc
  pub only : (place : ℕ) → (rv_step s).0 ≡ At place → (place ≡ s.pc) × (s.pc < lowest)

abbrev pub StopsBelowLowest : Type 0
StopsBelowLowest = (s : State) → StopsAt s

-- the high word of an integer and the low one make it: of a product, MULH and MUL
abbrev pub HalvesMakeProducts : Type 0
HalvesMakeProducts = (z : ℤ) → shifted_right z 64 *ℤ pos (2 ^ 64) +ℤ pos (word z) ≡ z

-- A quotient and its remainder make the dividend. The remainder is nearer to 0 than the divisor,
-- where that isn't 0, and has the dividend's sign, so the quotient is rounded toward zero.
pub record Divides (z d : ℤ) : Type 0 where
  pub dividend : quotient z d *ℤ d +ℤ remainder z d ≡ z
  pub rest : d ≢ pos 0 → unsigned_abs (remainder z d) < unsigned_abs d
  pub not_negative : pos 0 ≤ℤ z → pos 0 ≤ℤ remainder z d
  pub not_positive : z ≤ℤ pos 0 → remainder z d ≤ℤ pos 0

abbrev pub QuotientsDivide : Type 0
QuotientsDivide = (z d : ℤ) → Divides z d

-- the manual's table of division by zero and of overflow, at 64 bits, for a dividend x
pub record HasDivisionEdges (x : ℕ) : Type 0 where
  pub div_by_zero : word (quotient (signed x) (signed 0)) ≡ 2 ^ 64 - 1
  pub divu_by_zero : word (quotient (pos x) (pos 0)) ≡ 2 ^ 64 - 1
  pub rem_by_zero : word (remainder (signed x) (signed 0)) ≡ x
  pub remu_by_zero : word (remainder (pos x) (pos 0)) ≡ x
  pub div_overflow : word (quotient (signed (2 ^ 63)) (signed (2 ^ 64 - 1))) ≡ 2 ^ 63
  pub rem_overflow : word (remainder (signed (2 ^ 63)) (signed (2 ^ 64 - 1))) ≡ 0

-- the same of the forms on 32 bits, whose results are sign-extended: `word32 (pos x)` is the low 32
-- bits of x so
pub record HasDivisionEdges32 (x : ℕ) : Type 0 where
  pub divw_by_zero : word32 (quotient (signed32 x) (signed32 0)) ≡ 2 ^ 64 - 1
  pub divuw_by_zero : word32 (quotient (unsigned32 x) (unsigned32 0)) ≡ 2 ^ 64 - 1
  pub remw_by_zero : word32 (remainder (signed32 x) (signed32 0)) ≡ word32 (pos x)
  pub remuw_by_zero : word32 (remainder (unsigned32 x) (unsigned32 0)) ≡ word32 (pos x)
  pub divw_overflow :
      word32 (quotient (signed32 (2 ^ 31)) (signed32 (2 ^ 32 - 1))) ≡ word32 (pos (2 ^ 31))
  pub remw_overflow : word32 (remainder (signed32 (2 ^ 31)) (signed32 (2 ^ 32 - 1))) ≡ 0

abbrev pub DivisionHasEdges : Type 0
DivisionHasEdges = (x : ℕ) → x < 2 ^ 64 → HasDivisionEdges x × HasDivisionEdges32 x
