-- A library as loads, symbols, relocations and initializers, or its first broken part up to its
-- relocations: exactly one of the two (System V gABI, 'Object Files' and 'Program Loading and
-- Dynamic Linking').
use Rattle.std.specs.Prelude.{ℕ, List, Option, Some, None, Result, Ok}
use Rattle.byte_view.specs.Reading.{Broken, ◌>>=◌}
use Rattle.byte_view.specs.ElfLoads.{Load, identified, program_headers, loads, without_tls}
use Rattle.byte_view.specs.ElfDynamic.{Entry, dynamic_header, dynamic_table, entry_of, value_of, dt_init, dt_init_array, dt_init_arraysz}
use Rattle.byte_view.specs.ElfSymbols.{Symbol, symbols}
use Rattle.byte_view.specs.ElfRelocations.{Relocation, relocations}

-- the array of initializers: where DT_INIT_ARRAY's entry stands in the file, the array's address,
-- and its size in bytes
pub record InitArray : Type 0 where
  pub at : ℕ
  pub addr : ℕ
  pub size : ℕ

-- `init` is the address of the first initializer, 0 where there is none
pub record Library : Type 0 where
  pub loads : List Load
  pub symbols : List Symbol
  pub relocations : List Relocation
  pub init : ℕ
  pub init_array : InitArray

-- a library without DT_INIT_ARRAY has an array of no bytes
abbrev pub init_array_of : Option Entry → ℕ → InitArray
init_array_of None size = record { at = 0; addr = 0; size = 0 }
init_array_of (Some entry) size = record { at = entry.at; addr = entry.value; size = size }

unfoldable pub library : List ℕ → Result Library Broken
library bytes = do
  _ ← identified bytes
  headers ← program_headers bytes
  loads ← loads bytes headers.0 headers.1
  _ ← without_tls bytes headers.0 headers.1
  dynamic ← dynamic_header bytes headers.0 headers.1
  table ← dynamic_table bytes dynamic
  symbols ← symbols bytes loads dynamic table
  relocations ← relocations bytes loads table
  Ok (record {
    loads = loads;
    symbols = symbols;
    relocations = relocations;
    init = value_of table dt_init;
    init_array = init_array_of (entry_of table dt_init_array) (value_of table dt_init_arraysz);
  })
