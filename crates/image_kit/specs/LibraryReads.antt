-- What the file of a library is read as.
use Rattle.std.specs.Prelude.{◌≡◌, ◌≤◌, ℕ, ◌+◌, ◌%◌, ◌^◌, true, false, List, [], ◌∷◌, length, map, take, slice_get, slice_range, All, Contains, Some, Ok, IsSome}
use Rattle.rv_decode.specs.declared.instr.Instr.{Instr}
use Rattle.rv_decode.specs.Encoding.{encoding}
use Rattle.byte_view.specs.Numbers.{le}
use Rattle.byte_view.specs.ElfLoads.{Load}
use Rattle.byte_view.specs.ElfSymbols.{Symbol}
use Rattle.byte_view.specs.Library.{Library, library}
use Rattle.image_kit.specs.declared.library_plan.NamedPlace.{NamedPlace}
use Rattle.image_kit.specs.declared.library_plan.LibraryPlan.{LibraryPlan}
use Rattle.image_kit.specs.LibraryFile.{code_offset, code_size, instruction_size, bytes_offset, file_end, library_file}

-- the most bytes that a file may have: 64 MiB
abbrev pub file_limit : ℕ
file_limit = 67108864

-- the plan fits: each instruction has a word, no name holds a zero byte, and the file isn't too
-- large
pub record Fits (plan : LibraryPlan) : Type 0 where
  pub encode : All (λ instr. IsSome (encoding instr)) plan.code
  pub names : All (λ place. ¬ Contains place.name 0) plan.names
  pub small : file_end plan ≤ file_limit

-- the one load: the whole file, readable and executable, as large in memory
abbrev pub planned_load : LibraryPlan → Load
planned_load plan = record {
  at = 64;
  file_at = 0;
  file_size = file_end plan;
  vaddr = 0;
  size = file_end plan;
  readable = true;
  writable = false;
  executable = true;
}

-- symbol number 0
abbrev pub no_symbol : Symbol
no_symbol = record { name = []; value = 0; binding = 0; kind = 0; visibility = 0; section = 0 }

-- a global function, at an offset from the code
abbrev pub planned_symbol : ℕ → NamedPlace → Symbol
planned_symbol code place = record {
  name = place.name;
  value = (code + place.offset) % 2 ^ 64;
  binding = 1;
  kind = 2;
  visibility = 0;
  section = 1;
}

-- the library of a plan: no relocations and no initializers
abbrev pub planned_library : LibraryPlan → Library
planned_library plan = record {
  loads = planned_load plan ∷ [];
  symbols = no_symbol ∷ map (planned_symbol (code_offset (length plan.names))) plan.names;
  relocations = [];
  init = 0;
  init_array = record { at = 0; addr = 0; size = 0 };
}

-- where an instruction stands in the file: after those before it
abbrev pub instruction_offset : LibraryPlan → ℕ → ℕ
instruction_offset plan k = code_offset (length plan.names) + code_size (take k plan.code)

-- The file reads back as its plan: the library is the plan's, at the address of each instruction
-- stands its word, and after the code stand the plan's bytes.
pub record ReadsBack (plan : LibraryPlan) (file : List ℕ) : Type 0 where
  pub size : length file ≡ file_end plan
  pub library_is : library file ≡ Ok (planned_library plan)
  pub aligned : code_offset (length plan.names) % 4 ≡ 0
  pub code : (k : ℕ) (instr : Instr) → slice_get plan.code k ≡ Some instr
      → encoding instr ≡ Some (le file (instruction_offset plan k) (instruction_size instr))
  pub data_is : slice_range file (bytes_offset plan) (bytes_offset plan + length plan.bytes)
      ≡ plan.bytes

-- the file of each plan that fits reads back as the plan
abbrev pub LibrariesReadBack : Type 0
LibrariesReadBack = (plan : LibraryPlan) → Fits plan → ReadsBack plan (library_file plan)
