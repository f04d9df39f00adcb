-- Binding libraries: all are placed, then all relocated, then their initializers are listed
-- (System V gABI, 'Program Loading and Dynamic Linking', 'Initialization and Termination
-- Functions').
use Rattle.std.specs.Prelude.{ℕ, ◌+◌, ◌-◌, ◌*◌, ◌/◌, ◌^◌, Bool, not, ◌||◌, ◌==◌, List, [], ◌∷◌, ◌++◌, length, map, filter, zip, Result, Ok, if◌then◌else◌}
use Rattle.std.specs.List.{range_with_len}
use Rattle.std.specs.Option.{ok_or}
use Rattle.byte_view.specs.Numbers.{le}
use Rattle.byte_view.specs.Library.{Library}
use Rattle.byte_view.specs.ElfParts as parts
use Rattle.native_memory.specs.AddressSpace.{AddressSpace}
use Rattle.native_memory.specs.Ranges.{may_read, bytes_at}
use Rattle.byte_view.specs.Reading.{◌>>=◌, steps}
use Rattle.elf_binder.specs.Unbound.{Unbound}
use Rattle.elf_binder.specs.Modules.{Module, exports_of, moved}
use Rattle.elf_binder.specs.Loading.{Source, place_all}
use Rattle.elf_binder.specs.Relocating.{relocate_library}

-- libraries that are bound, and the addresses of their initializers, in the order of their calls
pub record Bindings : Type 0 where
  pub modules : List Module
  pub inits : List ℕ

-- what files hold, the files and their names joined, and numbered from a number on
abbrev pub sources_from : ℕ → List Library → List (List ℕ) → List (List ℕ) → List Source
sources_from n (library ∷ libraries) (file ∷ files) (name ∷ names) =
    record { number = n; name = name; file = file; library = library }
    ∷ sources_from (n + 1) libraries files names
sources_from n _ _ _ = []

-- the library that stands at a base, under its name
abbrev pub module_of : (Source × ℕ) → Module
module_of placed = record {
  name = placed.0.name;
  exports = exports_of placed.1 placed.0.library.symbols;
}

-- the doublewords of an array, lowest byte first
abbrev pub doublewords : List ℕ → List ℕ
doublewords bytes = map (λ k. le bytes (8 * k) 8) (range_with_len 0 (length bytes / 8))

-- an entry of 0 or -1 is passed over
abbrev pub is_initializer : ℕ → Bool
is_initializer address = not (address == 0 || address == 2 ^ 64 - 1)

-- the first initializer, which 0 says that there isn't
abbrev pub first_initializer : ℕ → ℕ → List ℕ
first_initializer base init = if init == 0 then [] else moved base init ∷ []

-- A library's initializers: the one of DT_INIT, then those of its array, which has to be readable.
unfoldable pub initializers : AddressSpace → (Source × ℕ) → Result (List ℕ) Unbound
initializers space placed =
    let library : Library = placed.0.library in
    let at : ℕ = moved placed.1 library.init_array.addr in
    ok_or (bytes_at may_read space at library.init_array.size)
    (placed.0.number, parts.init, library.init_array.at + 8)
    >>= λ array. Ok (first_initializer placed.1 library.init
    ++ filter is_initializer (doublewords array))

-- with those of one more library
unfoldable pub and_initializers : AddressSpace → List ℕ → (Source × ℕ) → Result (List ℕ) Unbound
and_initializers space before placed = initializers space placed >>= λ more. Ok (before ++ more)

-- libraries under their names, and memory with them
unfoldable pub bindings : List Source → AddressSpace → Result (Bindings × AddressSpace) Unbound
bindings sources space = do
  placed ← place_all space sources
  let all : List (Source × ℕ) = zip sources placed.bases
  let modules : List Module = map module_of all
  relocated ← steps (relocate_library modules) placed.space all
  inits ← steps (and_initializers relocated) [] all
  Ok (record { modules = modules; inits = inits }, relocated)
