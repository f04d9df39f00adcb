-- What the code says of an event of native code.
use Rattle.std.specs.Prelude.{◌≡◌}
use Rattle.native_memory.specs.AddressSpace.{AddressSpace}
use Rattle.rv_machine.specs.declared.registers.Regs.{Regs}
use Rattle.native_code.specs.declared.one_event.Event.{Event}
use Rattle.native_code.specs.declared.one_event.Event.TheVariants.{Went, Arrived, Faulted, Memory}
use Rattle.native_code.specs.Events.{NativeNext, Continues, Arrives, Faults}

-- native code would go on
abbrev pub GoesOn : NativeNext → Type 0
GoesOn (Continues _ _) = Unit {0}
GoesOn (Arrives _) = ⊥
GoesOn (Faults _) = ⊥

-- by its answer, what native code comes to, with the registers and the memory after it; memory is
-- wanting only where native code would go on
abbrev pub EventIs : Event → NativeNext → Regs → AddressSpace → Type 0
EventIs Went next regs memory = next ≡ Continues regs memory
EventIs (Arrived place) next regs memory = next ≡ Arrives place
EventIs (Faulted pc) next regs memory = next ≡ Faults pc
EventIs Memory next regs memory = GoesOn next
