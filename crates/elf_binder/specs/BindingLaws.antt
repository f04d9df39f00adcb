-- Laws of binding.
use Rattle.std.specs.Prelude.{◌≡◌, ◌<◌, ◌≤◌, ℕ, ◌+◌, ◌%◌, true, List, zip, All, Contains, slice_get, Some, Ok}
use Rattle.byte_view.specs.ElfLoads.{Load, end_of}
use Rattle.native_memory.specs.AddressSpace.{AddressSpace}
use Rattle.native_memory.specs.Sound.{IsSound}
use Rattle.native_memory.specs.Laws.{byte_at}
use Rattle.elf_binder.specs.Modules.{Module}
use Rattle.elf_binder.specs.Loading.{Source, Placed, place_all}
use Rattle.elf_binder.specs.Relocating.{relocate_library}
use Rattle.elf_binder.specs.Binding.{Bindings, bindings}
use Rattle.elf_binder.specs.Sources.{IsRead}

-- the bases of libraries are multiples of 65,536
abbrev pub BasesAreWhole : Type 0
BasesAreWhole =
    (space : AddressSpace) (sources : List Source) (placed : Placed)
    → place_all space sources ≡ Ok placed
    → All (λ base. base % 65536 ≡ 0) placed.bases

-- Two loads of libraries that were read share no byte: each that has bytes ends before those of
-- any later library begin. (Those of one library ascend in its file.)
abbrev pub LibrariesLieApart : Type 0
LibrariesLieApart =
    (space : AddressSpace) (sources : List Source) (placed : Placed)
    → IsSound space → All IsRead sources → place_all space sources ≡ Ok placed
    → (i j : ℕ) (p q : Source × ℕ) (load other : Load)
    → i < j
    → slice_get (zip sources placed.bases) i ≡ Some p
    → slice_get (zip sources placed.bases) j ≡ Some q
    → Contains p.0.library.loads load → 0 < load.size → Contains q.0.library.loads other
    → p.1 + end_of load ≤ q.1 + other.vaddr

-- the address lies in a writable load of a library that stands at a base
abbrev pub IsInWritableLoad : (Source × ℕ) → ℕ → Type 0
IsInWritableLoad placed addr =
    (load : Load) × Contains placed.0.library.loads load × (load.writable ≡ true)
    × (placed.1 + load.vaddr ≤ addr) × (addr < placed.1 + end_of load)

-- relocating a library changes no byte outside of its own writable loads
abbrev pub RelocationsStayInside : Type 0
RelocationsStayInside =
    (modules : List Module) (placed : Source × ℕ) (old new : AddressSpace)
    → IsSound old → relocate_library modules old placed ≡ Ok new
    → (addr : ℕ) → (IsInWritableLoad placed addr → ⊥) → byte_at new addr ≡ byte_at old addr

-- binding changes no byte of what stood in memory before
abbrev pub BindingKeepsOlderBytes : Type 0
BindingKeepsOlderBytes =
    (sources : List Source) (old : AddressSpace) (bound : Bindings × AddressSpace)
    → IsSound old → All IsRead sources → bindings sources old ≡ Ok bound
    → (addr : ℕ) → addr < old.edge → byte_at bound.1 addr ≡ byte_at old addr
