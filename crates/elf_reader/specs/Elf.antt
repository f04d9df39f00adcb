-- What an `Elf` says of a file: the library of the definitions.
use Rattle.std.specs.Prelude.{map}
use Rattle.byte_view.specs.ElfLoads as loads
use Rattle.byte_view.specs.ElfDynamic as dynamic
use Rattle.byte_view.specs.ElfSymbols as symbols
use Rattle.byte_view.specs.ElfRelocations as relocations
use Rattle.byte_view.specs.Library as library
use Rattle.elf_reader.specs.declared.elf.Load.{Load}
use Rattle.elf_reader.specs.declared.entry.Entry.{Entry}
use Rattle.elf_reader.specs.declared.elf.Symbol.{Symbol}
use Rattle.elf_reader.specs.declared.elf.Relocation.{Relocation}
use Rattle.elf_reader.specs.declared.elf.Elf.{Elf}

abbrev pub load_of : Load → loads.Load
load_of load = record {
  at = load.at;
  file_at = load.file_at;
  file_size = load.file_size;
  vaddr = load.vaddr;
  size = load.size;
  readable = load.rights.r;
  writable = load.rights.w;
  executable = load.rights.x;
}

-- an entry of the dynamic section
abbrev pub dynamic_entry : Entry → dynamic.Entry
dynamic_entry entry = record { at = entry.at; tag = entry.tag; value = entry.value }

abbrev pub symbol_of : Symbol → symbols.Symbol
symbol_of symbol = record {
  name = symbol.name;
  value = symbol.value;
  binding = symbol.binding;
  kind = symbol.kind;
  visibility = symbol.visibility;
  section = symbol.section;
}

abbrev pub relocation_of : Relocation → relocations.Relocation
relocation_of r = record {
  at = r.at;
  offset = r.offset;
  symbol = r.symbol;
  kind = r.kind;
  addend = r.addend;
}

abbrev pub library_of : Elf → library.Library
library_of elf = record {
  loads = map load_of elf.loads;
  symbols = map symbol_of elf.symbols;
  relocations = map relocation_of elf.relocs;
  init = elf.init;
  init_array = record {
    at = elf.init_array_at;
    addr = elf.init_array.0;
    size = elf.init_array.1;
  };
}
