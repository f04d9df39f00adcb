-- The parts of an image by their places in the reading order, their names, and what an error says of an image.
use Rattle.std.specs.Prelude.{◌≡◌, ℕ, List, [], ◌∷◌, map, length, slice_index_or, codes, Option, Some, None}
use Rattle.std.specs.List.{range_with_len}
use denote.Enum.Declared.{tag_of}
use Rattle.bound_base.specs.contracts.image.Part.{the_type}
use Rattle.bound_base.specs.declared.image.Part.{Part}
use Rattle.bound_base.specs.declared.image.Part.TheVariants.{Mz, PeOffset, PeSignature, CoffHeader, OptionalHeader, Directories, Sections, CliHeader, CliFlags, MetadataRoot, Streams, Tables, Cell, Types, EntryPoint}
use Rattle.bound_base.specs.declared.image.BadImage.{BadImage}
use Rattle.bound_base.specs.declared.image.BadImage.TheVariants.{Bad, Memory}

-- the parts in reading order, each as it is printed
abbrev pub parts : List (Part × List ℕ)
parts =
    (Mz, codes "mz")
    ∷ (PeOffset, codes "pe offset")
    ∷ (PeSignature, codes "pe signature")
    ∷ (CoffHeader, codes "coff header")
    ∷ (OptionalHeader, codes "optional header")
    ∷ (Directories, codes "directories")
    ∷ (Sections, codes "sections")
    ∷ (CliHeader, codes "cli header")
    ∷ (CliFlags, codes "cli flags")
    ∷ (MetadataRoot, codes "metadata root")
    ∷ (Streams, codes "streams")
    ∷ (Tables, codes "tables")
    ∷ (Cell, codes "cell")
    ∷ (Types, codes "types")
    ∷ (EntryPoint, codes "entry point")
    ∷ []

-- the names in reading order
abbrev pub part_names : List (List ℕ)
part_names = map (λ row. row.1) parts

-- the place of a part in the reading order, from 0, which is that of its variant
abbrev pub part_place : Part → ℕ
part_place part = tag_of the_type part

abbrev pub part_name : Part → List ℕ
part_name part = slice_index_or part_names (part_place part) []

-- the list is in reading order
abbrev pub PartsAreInOrder : Type 0
PartsAreInOrder = map (λ row. part_place row.0) parts ≡ range_with_len 0 (length parts)

-- what an error says of an image: the place of the part that is broken, and the file offset; None for want of memory
abbrev pub refusal : BadImage → Option (ℕ × ℕ)
refusal (Bad part at) = Some (part_place part, at)
refusal Memory = None
