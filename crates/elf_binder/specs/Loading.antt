-- Loads are placed in memory (System V gABI, 'Program Loading').
use Rattle.std.specs.Prelude.{ℕ, ◌+◌, ◌*◌, ◌/◌, ◌==◌, List, [], ◌∷◌, ◌++◌, take, drop, Option, Result, Ok, if◌then◌else◌}
use Rattle.std.specs.Option.{ok_or}
use Rattle.bound_base.specs.declared.limits.Rights.{Rights}
use Rattle.byte_view.specs.ElfLoads.{Load}
use Rattle.byte_view.specs.Library.{Library}
use Rattle.byte_view.specs.ElfParts as parts
use Rattle.native_memory.specs.AddressSpace.{AddressSpace}
use Rattle.native_memory.specs.Placement.{placed_at}
use Rattle.byte_view.specs.Reading.{◌>>=◌, steps}
use Rattle.elf_binder.specs.Unbound.{Unbound}

-- a library that is bound: its number, its name, its file and what the file holds
pub record Source : Type 0 where
  pub number : ℕ
  pub name : List ℕ
  pub file : List ℕ
  pub library : Library

-- a library's base: the least multiple of 65,536 that isn't below the next address
abbrev pub base_for : AddressSpace → ℕ
base_for space = (space.next + 65535) / 65536 * 65536

abbrev pub rights_of : Load → Rights
rights_of load = record { r = load.readable; w = load.writable; x = load.executable }

-- the bytes that the file has of a load
abbrev pub bytes_of : List ℕ → Load → List ℕ
bytes_of file load = take load.file_size (drop load.file_at file)

-- a load of some bytes at its address from the base, if there is room for it
abbrev pub placing : Source → ℕ → AddressSpace → Load → Option AddressSpace
placing source base space load =
    placed_at space (base + load.vaddr) (bytes_of source.file load) load.size (rights_of load)

-- a load at its address from the base; where there is no room its memory size is refused. One of
-- no bytes places no block
unfoldable pub place_load : Source → ℕ → AddressSpace → Load → Result AddressSpace Unbound
place_load source base space load =
    if load.size == 0 then Ok space
    else ok_or (placing source base space load) (source.number, parts.load, load.at + 40)

-- the loads of a library, in order
unfoldable pub place_loads : Source → ℕ → AddressSpace → Result AddressSpace Unbound
place_loads source base space = steps (place_load source base) space source.library.loads

-- libraries in memory, in order: their bases, and the memory
pub record Placed : Type 0 where
  pub bases : List ℕ
  pub space : AddressSpace

-- one more library
unfoldable pub place_library : Placed → Source → Result Placed Unbound
place_library before source =
    place_loads source (base_for before.space) before.space
    >>= λ space. Ok (record { bases = before.bases ++ base_for before.space ∷ []; space = space })

unfoldable pub place_all : AddressSpace → List Source → Result Placed Unbound
place_all space sources = steps place_library (record { bases = []; space = space }) sources

-- the first load of a library that stands at a base, placed
abbrev pub first_of : Source → ℕ → AddressSpace → Result AddressSpace Unbound
first_of source base space = steps (place_load source base) space (take 1 source.library.loads)

-- the first load of the first library, placed
abbrev pub first_load : AddressSpace → List Source → Result AddressSpace Unbound
first_load space [] = Ok space
first_load space (source ∷ more) = first_of source (base_for space) space
