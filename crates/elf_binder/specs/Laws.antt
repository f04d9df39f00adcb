-- Laws of names.
use Rattle.std.specs.Prelude.{◌≡◌, ℕ, ◌<◌, ◌⊎◌, List, [], ◌∷◌, ◌++◌, length, All, Some, None}
use Rattle.byte_view.specs.ElfSymbols.{Symbol}
use Rattle.host_functions.specs.HostFunctions.{host_functions, host_place, place_named}
use Rattle.native_memory.specs.AddressSpace.{AddressSpace}
use Rattle.native_memory.specs.Placement.{base_of}
use Rattle.native_memory.specs.Sound.{IsSound}
use Rattle.elf_binder.specs.Modules.{Module, exports_of, defined_in, address_of, named, library_named}

-- the first library that defines a name gives its address, whatever libraries stand after it
abbrev pub FirstLibraryCounts : Type 0
FirstLibraryCounts =
    (before after : List Module) (m : Module) (name : List ℕ) (address : ℕ)
    → All (λ l. defined_in name l ≡ None) before
    → defined_in name m ≡ Some address → address_of (before ++ m ∷ after) name ≡ Some address

-- the address of a name that a library defines doesn't depend on the libraries after it
abbrev pub NamesStayDefined : Type 0
NamesStayDefined =
    (before after : List Module) (m : Module) (name : List ℕ) (address : ℕ)
    → defined_in name m ≡ Some address
    → address_of (before ++ m ∷ after) name ≡ address_of (before ++ m ∷ []) name

-- the symbol is local, internal or hidden, or has no section
abbrev pub StaysInside : Symbol → Type 0
StaysInside s = (s.binding ≡ 0) ⊎ ((s.visibility ≡ 1) ⊎ ((s.visibility ≡ 2) ⊎ (s.section ≡ 0)))

-- such a symbol gives no name: without it the library exports the same
abbrev pub InnerSymbolsExportNothing : Type 0
InnerSymbolsExportNothing =
    (base : ℕ) (before after : List Symbol) (s : Symbol) → StaysInside s
    → exports_of base (before ++ s ∷ after) ≡ exports_of base (before ++ after)

-- an address at which a host function stands: it is that of one name, the place of a number, and in
-- no block
pub record IsHostPlace (name : List ℕ) (address : ℕ) : Type 0 where
  pub alone : (other : List ℕ) → place_named other ≡ Some address → other ≡ name
  pub number : ℕ
  pub counted : number < length host_functions
  pub there : address ≡ host_place number
  pub outside : (space : AddressSpace) → IsSound space → base_of space address ≡ None

abbrev pub HostFunctionsLieApart : Type 0
HostFunctionsLieApart =
    (name : List ℕ) (address : ℕ) → place_named name ≡ Some address → IsHostPlace name address

-- a library of just a module's name is the module's, whatever other libraries are named
abbrev pub OwnNamesComeFirst : Type 0
OwnNamesComeFirst =
    (modules : List Module) (name : List ℕ) (number : ℕ) → named modules name ≡ Some number
    → library_named modules name ≡ Some number
