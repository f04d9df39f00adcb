-- Entering native code (RISC-V ELF psABI, Integer Calling Convention).
use Rattle.std.specs.Prelude.{ℕ, Bool, ◌==◌, slice_index, ◌+◌, ◌*◌, ◌/◌, List, [], ◌∷◌, replicate, slice_set}
use Rattle.std.specs.List.{list_all}
use Rattle.bound_base.specs.declared.limits.Lane.{Lane}
use Rattle.lp64_convention.specs.declared.places.Slot.{Slot}
use Rattle.lp64_convention.specs.declared.places.Slot.TheVariants.{Reg, Stack}
use Rattle.lp64_convention.specs.Places.{place_of, preserved_registers}
use Rattle.rv_machine.specs.declared.registers.Regs.{Regs}
use Rattle.native_code.specs.Places.{return_place}

-- the register of the return address, ra, and the stack pointer, sp
abbrev pub return_register : ℕ
return_register = 1

abbrev pub stack_register : ℕ
stack_register = 2

-- an argument word in its place: in a register; or on the stack, and in none
abbrev pub with_word : List ℕ → Slot → ℕ → List ℕ
with_word x (Reg number) word = slice_set x number word
with_word x (Stack _) word = x

-- argument words in their places, from word k on
abbrev pub with_words : ℕ → List ℕ → List ℕ → List ℕ
with_words k x [] = x
with_words k x (word ∷ words) = with_words (k + 1) (with_word x (place_of k) word) words

-- the registers at an entry before argument words: it will return to the return place, and all
-- others are 0
abbrev pub bare_registers : ℕ → List ℕ
bare_registers sp = 0 ∷ return_place ∷ sp ∷ replicate 29 0

-- the registers at an entry of code at an address
unfoldable pub entry_registers : ℕ → ℕ → List ℕ → Regs
entry_registers at sp words = record { pc = at; x = with_words 0 (bare_registers sp) words }

-- the end of a stack block of so many bytes, from which the stack grows down
abbrev pub stack_top : Lane → ℕ → ℕ
stack_top lane stack = lane.stack + stack

-- the stack pointer of an outermost entry: the greatest multiple of 16 not above that end
abbrev pub first_sp : Lane → ℕ → ℕ
first_sp lane stack = stack_top lane stack / 16 * 16

-- the registers that a function leaves to its caller are as they were at an entry
unfoldable pub keeps_preserved : Regs → Regs → Bool
keeps_preserved entry now =
    list_all (λ number. slice_index now.x number == slice_index entry.x number) preserved_registers
