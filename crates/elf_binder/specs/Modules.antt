-- Libraries in memory: what each defines, how a name is looked for among them, and how a library
-- is found by its name.
use Rattle.std.specs.Prelude.{ℕ, ◌+◌, ◌%◌, ◌^◌, Bool, ◌&&◌, ◌||◌, not, ◌==◌, List, [], ◌∷◌, ◌++◌, length, map, filter, find, position, codes, bytes_eq, slice_get, Option, Some, None, option_map, option_and_then, if◌then◌else◌}
use Rattle.std.specs.List.{list_any}
use Rattle.byte_view.specs.ElfSymbols.{Symbol}
use Rattle.host_functions.specs.HostFunctions.{place_named}
use Rattle.elf_binder.specs.declared.module.Export.{Export}

-- a library in memory: its name, and what it defines, in the order of its symbols
pub record Module : Type 0 where
  pub name : List ℕ
  pub exports : List Export

-- an address in a library that stands at a base; addresses have 64 bits
abbrev pub moved : ℕ → ℕ → ℕ
moved base addr = (base + addr) % 2 ^ 64

-- The symbol defines its name for other libraries: it is global (1) or weak (2), has a section,
-- is an object (1), a function (2) or has no type (0), and its visibility is default (0) or
-- protected (3).
unfoldable pub is_defined : Symbol → Bool
is_defined s =
    (s.binding == 1 || s.binding == 2)
    && not (s.section == 0)
    && (s.kind == 0 || s.kind == 1 || s.kind == 2)
    && (s.visibility == 0 || s.visibility == 3)

-- a function or a symbol without a type may be called
abbrev pub export_of : ℕ → Symbol → Export
export_of base s = record {
  name = s.name;
  address = moved base s.value;
  callable = s.kind == 0 || s.kind == 2;
}

unfoldable pub exports_of : ℕ → List Symbol → List Export
exports_of base symbols = map (export_of base) (filter is_defined symbols)

abbrev pub has_name : List ℕ → Export → Bool
has_name name export = bytes_eq export.name name

-- the address that a library defines for a name: by its first symbol that does
unfoldable pub defined_in : List ℕ → Module → Option ℕ
defined_in name m = option_map (λ export. export.address) (find (has_name name) m.exports)

-- The address of a name: the first library that defines it counts, and after the libraries come
-- the host functions.
unfoldable pub address_of : List Module → List ℕ → Option ℕ
address_of [] name = place_named name
address_of (m ∷ more) name =
    elim (defined_in name m) [
      | Some address ↦ Some address
      | None ↦ address_of more name
    ]

-- ---- libraries by their names

-- the names under which a module's library is looked for, one after another
abbrev pub spellings : List ℕ → List (List ℕ)
spellings name =
    name ∷ (name ++ codes ".so") ∷ (codes "lib" ++ name ++ codes ".so") ∷ (codes "lib" ++ name) ∷ []

-- the first library of just this name
unfoldable pub named : List Module → List ℕ → Option ℕ
named modules name = position (λ m. bytes_eq m.name name) modules

-- by the first spelling that a library has
abbrev pub first_spelled : List Module → List (List ℕ) → Option ℕ
first_spelled modules [] = None
first_spelled modules (name ∷ more) =
    elim (named modules name) [
      | Some at ↦ Some at
      | None ↦ first_spelled modules more
    ]

-- the names of the built-in library of the host functions
abbrev pub built_in_names : List (List ℕ)
built_in_names = codes "c" ∷ codes "libc" ∷ codes "libc.so" ∷ codes "libc.so.6" ∷ []

-- The number of a library by a module's name: the built-in one, whose number is the count of
-- libraries, where no other is found.
unfoldable pub library_named : List Module → List ℕ → Option ℕ
library_named modules name =
    elim (first_spelled modules (spellings name)) [
      | Some at ↦ Some at
      | None ↦ if list_any (λ built_in. bytes_eq built_in name) built_in_names
          then Some (length modules)
          else None
    ]

-- the address of a name that may be called, in one library: its first export of the name that
-- may be
unfoldable pub callable_in : List ℕ → Module → Option ℕ
callable_in name m =
    option_map (λ export. export.address)
    (find (λ export. export.callable && has_name name export) m.exports)

-- the address of a name that may be called, by the number of a library
unfoldable pub symbol_in : List Module → ℕ → List ℕ → Option ℕ
symbol_in modules library name =
    if library == length modules then place_named name
    else option_and_then (callable_in name) (slice_get modules library)
