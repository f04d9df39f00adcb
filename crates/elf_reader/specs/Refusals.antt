-- The parts of a library by their places in the reading order, their names, and what errors say.
use Rattle.std.specs.Prelude.{◌≡◌, ℕ, List, [], ◌∷◌, map, slice_index_or, codes, Option, Some, None}
use denote.Enum.Declared.{tag_of}
use Rattle.byte_view.specs.Reading as reading
use Rattle.byte_view.specs.ElfParts as places
use Rattle.elf_reader.specs.contracts.part.ElfPart.{the_type}
use Rattle.elf_reader.specs.declared.part.ElfPart.{ElfPart}
use Rattle.elf_reader.specs.declared.part.ElfPart.TheVariants.{Ident, Machine, Flags, ProgramHeaders, Load, Tls, Dynamic, Symbols, Relocs, RelocType, RelocTarget, Unresolved, Init}
use Rattle.elf_reader.specs.declared.part.ElfPart.TheVariants as variant
use Rattle.elf_reader.specs.declared.part.Broken.{Broken}
use Rattle.elf_reader.specs.declared.part.ElfBad.{ElfBad}
use Rattle.elf_reader.specs.declared.part.ElfBad.TheVariants.{BadElf, Memory}

-- the parts in reading order, each as it is printed
abbrev pub parts : List (ElfPart × List ℕ)
parts =
    (Ident, codes "ident")
    ∷ (variant.Type, codes "type")
    ∷ (Machine, codes "machine")
    ∷ (Flags, codes "flags")
    ∷ (ProgramHeaders, codes "program headers")
    ∷ (Load, codes "load")
    ∷ (Tls, codes "tls")
    ∷ (Dynamic, codes "dynamic")
    ∷ (Symbols, codes "symbols")
    ∷ (Relocs, codes "relocs")
    ∷ (RelocType, codes "reloc type")
    ∷ (RelocTarget, codes "reloc target")
    ∷ (Unresolved, codes "unresolved")
    ∷ (Init, codes "init")
    ∷ []

-- the names in reading order
abbrev pub part_names : List (List ℕ)
part_names = map (λ row. row.1) parts

-- the place of a part in the reading order, from 0, which is that of its variant
abbrev pub part_place : ElfPart → ℕ
part_place part = tag_of the_type part

abbrev pub part_name : ElfPart → List ℕ
part_name part = slice_index_or part_names (part_place part) []

-- the parts stand where the definitions of the format number them
abbrev pub PartsAreWhereDefined : Type 0
PartsAreWhereDefined =
    map (λ row. part_place row.0) parts
    ≡ places.ident
    ∷ places.file_type
    ∷ places.machine
    ∷ places.flags
    ∷ places.program_headers
    ∷ places.load
    ∷ places.tls
    ∷ places.dynamic
    ∷ places.symbols
    ∷ places.relocs
    ∷ places.reloc_type
    ∷ places.reloc_target
    ∷ places.unresolved
    ∷ places.init
    ∷ []

-- what an error of a reader that takes no memory says: the place of the part, and the file offset
abbrev pub broken_part : Broken → Option reading.Broken
broken_part broken = Some (part_place broken.part, broken.at)

-- what an error says: the place of the part that is broken, and the file offset; want of memory
-- says nothing
abbrev pub refusal : ElfBad → Option reading.Broken
refusal (BadElf part at) = Some (part_place part, at)
refusal Memory = None
