-- Laws of native code.
use Rattle.std.specs.Prelude.{◌≡◌, ◌≢◌, ℕ, ◌<◌, List, length, slice_index, None}
use Rattle.lp64_convention.specs.declared.places.Slot.TheVariants.{Reg}
use Rattle.lp64_convention.specs.Places.{place_of}
use Rattle.native_memory.specs.AddressSpace.{AddressSpace, lowest}
use Rattle.native_memory.specs.Changes.{OnlyHeapChanges}
use Rattle.native_memory.specs.Sound.{IsSound}
use Rattle.rv_machine.specs.declared.registers.Regs.{Regs}
use Rattle.host_functions.specs.HostFunctions.{number_at}
use Rattle.native_code.specs.Places.{return_place}
use Rattle.native_code.specs.Entry.{return_register, stack_register, entry_registers}
use Rattle.native_code.specs.Events.{Continues, Arrives, Faults, native_next}

-- a fault of native code names its pc
abbrev pub FaultsNameTheirPlace : Type 0
FaultsNameTheirPlace =
    (errno : ℕ) (regs : Regs) (memory : AddressSpace) (pc : ℕ)
    → native_next errno regs memory ≡ Faults pc → pc ≡ regs.pc

-- native code arrives at its pc, which is below memory and the place of no host function
pub record IsArrival (pc place : ℕ) : Type 0 where
  pub same : place ≡ pc
  pub low : pc < lowest
  pub free : number_at pc ≡ None

abbrev pub ArrivalsNameTheirPlace : Type 0
ArrivalsNameTheirPlace =
    (errno : ℕ) (regs : Regs) (memory : AddressSpace) (place : ℕ)
    → native_next errno regs memory ≡ Arrives place → IsArrival regs.pc place

-- the registers at an entry: a word that the convention passes in a register is there, ra and sp
-- are set, all others are 0
pub record IsEntry (at sp : ℕ) (words : List ℕ) (regs : Regs) : Type 0 where
  pub pc : regs.pc ≡ at
  pub count : length regs.x ≡ 32
  pub ra : slice_index regs.x return_register ≡ return_place
  pub stack : slice_index regs.x stack_register ≡ sp
  pub passed : (k number : ℕ) → k < length words → place_of k ≡ Reg number
      → slice_index regs.x number ≡ slice_index words k
  pub others : (number : ℕ) → number ≢ return_register → number ≢ stack_register
      → ((k : ℕ) → k < length words → place_of k ≢ Reg number) → slice_index regs.x number ≡ 0

abbrev pub EntriesHoldWords : Type 0
EntriesHoldWords = (at sp : ℕ) (words : List ℕ) → IsEntry at sp words (entry_registers at sp words)

-- of memory, an event of native code places, ends and changes heap blocks alone: all others stay,
-- but for their bytes, and addresses of ended blocks stay free
abbrev pub EventsKeepOthers : Type 0
EventsKeepOthers =
    (errno : ℕ) (regs regs' : Regs) (old new : AddressSpace) → IsSound old
    → native_next errno regs old ≡ Continues regs' new → OnlyHeapChanges old new
