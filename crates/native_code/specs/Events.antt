-- One event of native code: an instruction, or a host function.
use Rattle.std.specs.Prelude.{ℕ, Bool, false, List, slice_index, Option, Some, None}
use Rattle.host_functions.specs.HostFunctions.{number_at}
use Rattle.native_memory.specs.AddressSpace.{AddressSpace}
use Rattle.native_heap.specs.Calls.{called, wants_memory}
use Rattle.rv_machine.specs.declared.outcome.Step.{Step}
use Rattle.rv_machine.specs.declared.outcome.Step.TheVariants.{Went, At, Fault}
use Rattle.rv_machine.specs.declared.registers.Regs.{Regs}
use Rattle.rv_machine.specs.Machine.{State, state_of, rv_step}
use Rattle.native_code.specs.Entry.{return_register}

-- native code goes on with these registers and this memory; it has come to a place below memory at
-- which no host function stands; or it faults, at this pc
pub data NativeNext : Type 0 where
  Continues : Regs → AddressSpace → NativeNext
  Arrives : ℕ → NativeNext
  Faults : ℕ → NativeNext

-- a host function returns to ra
abbrev pub returned : List ℕ → Regs
returned x = record { pc = slice_index x return_register; x = x }

-- what a host function at a place came to
abbrev pub after_call : ℕ → Option (List ℕ × AddressSpace) → NativeNext
after_call place (Some (x, memory)) = Continues (returned x) memory
after_call place None = Faults place

-- at a place below memory: the host function of a number, if one stands there
abbrev pub at_place : ℕ → ℕ → List ℕ → AddressSpace → Option ℕ → NativeNext
at_place errno place x memory (Some k) = after_call place (called k x memory errno)
at_place errno place x memory None = Arrives place

-- by what the instruction at pc came to
abbrev pub after_step : ℕ → Step → State → NativeNext
after_step errno Went s = Continues (record { pc = s.pc; x = s.x }) s.memory
after_step errno (At place) s = at_place errno place s.x s.memory (number_at place)
after_step errno (Fault _) s = Faults s.pc

-- what native code comes to in one event, where `errno` is the address of the number of the last
-- error
unfoldable pub native_next : ℕ → Regs → AddressSpace → NativeNext
native_next errno regs memory =
    let stepped : Step × State = rv_step (state_of regs memory)
    in after_step errno stepped.0 stepped.1

-- memory may be wanting for an event: where the host function at pc takes some
abbrev pub wants_at : List ℕ → AddressSpace → Option ℕ → Bool
wants_at x memory (Some k) = wants_memory k x memory
wants_at x memory None = false

abbrev pub event_wants : Regs → AddressSpace → Bool
event_wants regs memory = wants_at regs.x memory (number_at regs.pc)
