-- What the code's sources say.
use Rattle.std.specs.Prelude.{◌≡◌, ℕ, Ok}
use Rattle.byte_view.specs.ElfLoads.{end_of}
use Rattle.byte_view.specs.Library.{library}
use Rattle.elf_reader.specs.declared.elf.Load.{Load}
use Rattle.elf_reader.specs.Elf.{load_of, library_of}
use Rattle.elf_binder.specs.Loading as loading
use Rattle.elf_binder.specs.declared.source.Source.{Source}

abbrev pub source_of : Source → loading.Source
source_of source = record {
  number = source.number;
  name = source.name.now;
  file = source.file.now;
  library = library_of source.elf.now;
}

-- the library was read from its file
abbrev pub IsRead : loading.Source → Type 0
IsRead source = library source.file ≡ Ok source.library

-- where a load ends in memory
abbrev pub load_end : Load → ℕ
load_end load = end_of (load_of load)
