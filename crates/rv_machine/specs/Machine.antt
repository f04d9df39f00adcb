-- The machine: its state, what an effect makes of it, and its step.
use Rattle.std.specs.Prelude.{ℕ, ◌+◌, ◌%◌, Bool, false, true, nat_lt, ◌==◌, pos, List}
use Rattle.std.specs.Prelude.{Option, Some, None, option_map, if◌then◌else◌}
use Rattle.std.specs.Int.{Width as Size, w8, w16, w32, w64, cast_signed, byte_len}
use Rattle.byteorder.specs.Endian.{little_number, little_bytes}
use Rattle.native_memory.specs.AddressSpace.{AddressSpace, lowest}
use Rattle.native_memory.specs.Ranges.{may_read, bytes_at, word_at, written_at}
use Rattle.rv_decode.specs.declared.instr.Instr.{Instr}
use Rattle.rv_decode.specs.Decoding.{decoded}
use Rattle.rv_decode.specs.Lengths.{length_of}
use Rattle.rv_machine.specs.declared.effect.Effect.{Effect}
use Rattle.rv_machine.specs.declared.effect.Effect.TheVariants.{Set, Jump, Branch, Load, Store}
use Rattle.rv_machine.specs.declared.effect.Effect.TheVariants.{Nothing, Trap}
use Rattle.rv_machine.specs.declared.effect.Width.{Width}
use Rattle.rv_machine.specs.declared.effect.Width.TheVariants.{Byte, Half, Word, Double}
use Rattle.rv_machine.specs.declared.outcome.Step.{Step}
use Rattle.rv_machine.specs.declared.outcome.Step.TheVariants.{Went, At, Fault as Faults}
use Rattle.rv_machine.specs.declared.registers.Regs.{Regs}
use Rattle.rv_machine.specs.Words.{word}
use Rattle.rv_machine.specs.Registers.{register, with_register}
use Rattle.rv_machine.specs.Instructions.{effect}

-- pc, the 32 registers, and memory
pub record State : Type 0 where
  pub pc : ℕ
  pub x : List ℕ
  pub memory : AddressSpace

-- the state of the program's registers and memory
abbrev pub state_of : Regs → AddressSpace → State
state_of regs memory = record { pc = regs.pc; x = regs.x; memory = memory }

-- the next instruction, after one of so many bytes
abbrev pub next_pc : ℕ → ℕ → ℕ
next_pc pc len = word (pos (pc + len))

-- the fault of an instruction that can't be executed at an address: it names the four bytes there
abbrev pub no_instruction : ℕ → Step
no_instruction addr = Faults (record { addr = addr; len = 4; write = false })

-- at the next instruction, with a word in a register
abbrev pub with_result : State → ℕ → ℕ → ℕ → State
with_result s len d value = record s { pc = next_pc s.pc len; x = with_register s.x d value }

-- at a target with these registers, if it is a multiple of 4
abbrev pub jumped : State → List ℕ → ℕ → Step × State
jumped s x target =
    if target % 4 == 0 then (Went, record s { pc = target; x = x }) else (no_instruction target, s)

-- how wide a number in memory is
abbrev pub size_of : Width → Size
size_of Byte = w8
size_of Half = w16
size_of Word = w32
size_of Double = w64

-- a number in memory as a register has it: extended by its sign, or by zeros
abbrev pub extended_from : Width → Bool → ℕ → ℕ
extended_from width signed n = if signed then word (cast_signed (size_of width) n) else n

-- the number at an address, lowest byte first
abbrev pub number_at : AddressSpace → ℕ → ℕ → Option ℕ
number_at space addr len = option_map (little_number len) (bytes_at may_read space addr len)

-- a register with what was loaded from an address, after an instruction of `len` bytes
abbrev pub loaded : State → ℕ → ℕ → ℕ → ℕ → Option ℕ → Step × State
loaded s len d addr size (Some value) = (Went, with_result s len d value)
loaded s len d addr size None =
    (Faults (record { addr = addr; len = size; write = false }), s)

-- memory with what was stored at an address
abbrev pub stored : State → ℕ → ℕ → ℕ → Option AddressSpace → Step × State
stored s len addr size (Some memory) = (Went, record s { pc = next_pc s.pc len; memory = memory })
stored s len addr size None = (Faults (record { addr = addr; len = size; write = true }), s)

-- What the effect of an instruction of `len` bytes makes of the state: the next pc and the link are
-- by that length, or pc is the target. One that faults leaves the state as it was.
abbrev pub applied : State → ℕ → Effect → Step × State
applied s len (Set d value) = (Went, with_result s len d value)
applied s len (Jump d target) = jumped s (with_register s.x d (next_pc s.pc len)) target
applied s len (Branch taken target) =
    if taken then jumped s s.x target else (Went, record s { pc = next_pc s.pc len })
applied s len (Load d addr width signed) =
    let size = byte_len (size_of width) in
    let value = option_map (extended_from width signed) (number_at s.memory addr size) in
    loaded s len d addr size value
applied s len (Store addr width value) =
    let size = byte_len (size_of width) in
    stored s len addr size (written_at s.memory addr (little_bytes size value))
applied s len Nothing = (Went, record s { pc = next_pc s.pc len })
applied s len Trap = (no_instruction s.pc, s)

-- the effect of the instruction at pc, which takes `len` bytes; a word that no instruction has
-- faults
abbrev pub performed : State → ℕ → Option Instr → Step × State
performed s len (Some instr) = applied s len (effect instr s.pc (register s.x))
performed s len None = (no_instruction s.pc, s)

-- the instruction of the word at pc
abbrev pub fetched : State → Option ℕ → Step × State
fetched s (Some code) = performed s (length_of code) (decoded code)
fetched s None = (no_instruction s.pc, s)

-- One step: what it comes to, and the state after it. No instruction stands below the lowest
-- address of a block.
unfoldable pub rv_step : State → Step × State
rv_step s =
    if nat_lt s.pc lowest then (At s.pc, s) else fetched s (word_at s.memory s.pc)
