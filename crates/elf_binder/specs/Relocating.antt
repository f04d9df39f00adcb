-- Relocations write into the loads of their library (RISC-V psABI, 'Relocations').
use Rattle.std.specs.Prelude.{ℕ, ◌+◌, ◌%◌, ◌^◌, Bool, ◌&&◌, ◌==◌, nat_le, List, [], slice_get, Option, Some, None, option_and_then, Result, Ok, if◌then◌else◌}
use Rattle.std.specs.List.{list_any}
use Rattle.std.specs.Option.{ok_or}
use Rattle.std.specs.Int.{w64, cast_unsigned}
use Rattle.byteorder.specs.Endian.{little_bytes}
use Rattle.byte_view.specs.ElfLoads.{Load}
use Rattle.byte_view.specs.ElfSymbols.{Symbol}
use Rattle.byte_view.specs.ElfRelocations.{Relocation}
use Rattle.byte_view.specs.ElfParts as parts
use Rattle.native_memory.specs.AddressSpace.{AddressSpace}
use Rattle.native_memory.specs.Ranges.{written_at}
use Rattle.elf_binder.specs.declared.relocation.Kind.{Kind}
use Rattle.elf_binder.specs.declared.relocation.Kind.TheVariants.{Nothing, Absolute32, Absolute64, Relative, JumpSlot}
use Rattle.byte_view.specs.Reading.{◌>>=◌, must, steps}
use Rattle.elf_binder.specs.Unbound.{Unbound}
use Rattle.elf_binder.specs.Modules.{Module, address_of}
use Rattle.elf_binder.specs.Loading.{Source}

-- the kinds by their numbers
abbrev pub kind_of : ℕ → Option Kind
kind_of n =
    if n == 0 then Some Nothing
    else if n == 1 then Some Absolute32
    else if n == 2 then Some Absolute64
    else if n == 3 then Some Relative
    else if n == 5 then Some JumpSlot
    else None

-- how many bytes a relocation writes
abbrev pub width_of : Kind → ℕ
width_of Nothing = 0
width_of Absolute32 = 4
width_of Absolute64 = 8
width_of Relative = 8
width_of JumpSlot = 8

-- the load is writable, and has the addresses, as they are before the base is added
abbrev pub is_target : ℕ → ℕ → Load → Bool
is_target at len load =
    load.writable && nat_le load.vaddr at && nat_le (at + len) (load.vaddr + load.size)

-- one writable load has the addresses
unfoldable pub is_writable : List Load → ℕ → ℕ → Bool
is_writable loads at len = list_any (is_target at len) loads

-- a call through the jump slot of an unknown function faults when it is made: no function stands
-- at this address
abbrev pub unknown_function : ℕ
unknown_function = 16

-- what an unresolved symbol stands for: 0 if it is weak (2); else an address for calls that
-- fault, and elsewhere nothing
abbrev pub unresolved_value : Kind → Symbol → Option ℕ
unresolved_value JumpSlot symbol = if symbol.binding == 2 then Some 0 else Some unknown_function
unresolved_value _ symbol = if symbol.binding == 2 then Some 0 else None

-- a symbol's value, by its name
abbrev pub named_value : List Module → Kind → Symbol → Option ℕ
named_value modules kind symbol =
    elim (address_of modules symbol.name) [
      | Some address ↦ Some address
      | None ↦ unresolved_value kind symbol
    ]

-- a symbol's value, by its number; number 0 stands for none, whose value is 0
unfoldable pub symbol_value : List Module → List Symbol → Kind → ℕ → Option ℕ
symbol_value modules symbols kind number =
    if number == 0 then Some 0
    else option_and_then (named_value modules kind) (slice_get symbols number)

-- the value of the symbol of a relocation that has use for it
abbrev pub value_for : List Module → List Symbol → Kind → ℕ → Option ℕ
value_for modules symbols Nothing number = Some 0
value_for modules symbols Relative number = Some 0
value_for modules symbols kind number = symbol_value modules symbols kind number

-- what is written, by the base, the symbol's value and the addend, each of 64 bits
abbrev pub bytes_for : Kind → ℕ → ℕ → ℕ → List ℕ
bytes_for Nothing base symbol addend = []
bytes_for Absolute32 base symbol addend = little_bytes 4 ((symbol + addend) % 2 ^ 32)
bytes_for Absolute64 base symbol addend = little_bytes 8 ((symbol + addend) % 2 ^ 64)
bytes_for Relative base symbol addend = little_bytes 8 ((base + addend) % 2 ^ 64)
bytes_for JumpSlot base symbol addend = little_bytes 8 symbol

-- a relocation of a kind that writes: its target, its symbol, and the write; that one finds its
-- load, which was placed
unfoldable pub write_relocation :
    List Module → Source → ℕ → AddressSpace → Relocation → Kind → Result AddressSpace Unbound
write_relocation modules source base space r kind = do
  _ ← must (is_writable source.library.loads r.offset (width_of kind))
      (source.number, parts.reloc_target, r.at)
  symbol ← ok_or (value_for modules source.library.symbols kind r.symbol)
      (source.number, parts.unresolved, r.at + 8)
  let bytes : List ℕ = bytes_for kind base symbol (cast_unsigned w64 r.addend)
  ok_or (written_at space (base + r.offset) bytes)
      (source.number, parts.reloc_target, r.at)

-- by its kind; R_RISCV_NONE has no target
abbrev pub relocate_as :
    List Module → Source → ℕ → AddressSpace → Relocation → Kind → Result AddressSpace Unbound
relocate_as modules source base space r Nothing = Ok space
relocate_as modules source base space r kind = write_relocation modules source base space r kind

-- memory after a relocation
unfoldable pub relocate :
    List Module → Source → ℕ → AddressSpace → Relocation → Result AddressSpace Unbound
relocate modules source base space r =
    ok_or (kind_of r.kind) (source.number, parts.reloc_type, r.at + 8)
    >>= λ kind. relocate_as modules source base space r kind

-- memory after all relocations of a library that stands at a base
unfoldable pub relocate_library :
    List Module → AddressSpace → (Source × ℕ) → Result AddressSpace Unbound
relocate_library modules space placed =
    steps (relocate modules placed.0 placed.1) space placed.0.library.relocations
