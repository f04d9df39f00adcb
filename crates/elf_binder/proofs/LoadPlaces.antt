-- Where the loads of a library that was read stand: in its file, and behind what was placed before them.
use Rattle.std.proofs.Common.{◌≡◌, ℕ, ◌+◌, ◌<◌, ◌≤◌, ◌^◌, List, length, get_or, map, false, Some, option_map, pos, Ok, ap, ◌∙◌, arith}
use Rattle.std.specs.Prelude.{slice_get, Contains}
use Rattle.std.proofs.lemmas.Option.{slice_get_within, slice_get-get_or, slice_get-map, get_or_from_slice_get}
use Rattle.elf_reader.specs.declared.elf.Load as read
use Rattle.elf_reader.specs.declared.elf.Relocation as read_relocation
use Rattle.elf_reader.specs.Elf.{load_of, relocation_of}
use Rattle.byte_view.specs.ElfLoads.{Load, end_of}
use Rattle.byte_view.specs.ElfRelocations.{Relocation}
use Rattle.byte_view.specs.ElfLaws.{LoadsLieApart}
use Rattle.byte_view.proofs.Loads.{loads_of_libraries_lie_apart}
use Rattle.native_memory.specs.AddressSpace.{AddressSpace}
use Rattle.elf_binder.specs.Loading.{Source, place_load}
use Rattle.elf_binder.specs.Sources.{IsRead}
use Rattle.elf_binder.proofs.InFile.{each_at, stands_in}
use Rattle.elf_binder.proofs.Placing.{edge_after}

-- a load of a library that was read
pub record Stands (source : Source) (load : Load) : Type 0 where
  pub header : load.at + 56 ≤ length source.file
  pub file : load.file_at + load.file_size ≤ length source.file
  pub sizes : load.file_size ≤ load.size
  pub low : end_of load < 2 ^ 32

apart : (source : Source) → IsRead source → LoadsLieApart source.file source.library.loads
apart source read = loads_of_libraries_lie_apart source.file source.library read

contains_at : {A : Type 0} (xs : List A) (k : ℕ) (x : A) → slice_get xs k ≡ Some x → Contains xs x
contains_at xs k x is = (k, slice_get_within xs k x is, get_or_from_slice_get xs k x x is)

pub stands : (source : Source) (k : ℕ) (load : Load) → IsRead source → slice_get source.library.loads k ≡ Some load → Stands source load
stands source k load read is =
    let all = apart source read in
    let here = contains_at source.library.loads k load is in
    record {
      header = each_at (λ load. load.at + 56 ≤ length source.file) source.library.loads k load (stands_in source.file source.library read).loads is;
      file = all.in_file load here;
      sizes = all.sizes load here;
      low = all.low load here;
    }

-- the newest block ends before the loads from a place on
pub record Behind (loads : List Load) (base edge k : ℕ) : Type 0 where
  pub all : (j : ℕ) (load : Load) → k ≤ j → slice_get loads j ≡ Some load → edge ≤ base + load.vaddr

pub all_behind : (loads : List Load) (base edge : ℕ) → edge ≤ base → Behind loads base edge 0
all_behind loads base edge h = record { all = λ j load k is. omega arith }

pub next_behind : (source : Source) (base : ℕ) (space new : AddressSpace) (k : ℕ) (load : Load) → IsRead source → slice_get source.library.loads k ≡ Some load
    → place_load source base space load ≡ Ok new → Behind source.library.loads base space.edge k → Behind source.library.loads base new.edge (k + 1)
next_behind source base space new k load read is placed behind =
    let here : new.edge ≤ base + end_of load = edge_after source base space load new (behind.all k load (omega arith) is) placed in
    record { all = λ j later h there. let before : end_of load ≤ later.vaddr = (apart source read).apart k j load later (omega arith) is there in omega arith }

-- ---- the loads and the relocations as they were read

abbrev pub no_load : read.Load
no_load = record { at = 0; file_at = 0; file_size = 0; vaddr = 0; size = 0; rights = record { r = false; w = false; x = false } }

pub load_is : (listed loads : List read.Load) (k : ℕ) → listed ≡ loads → k < length listed → slice_get (map load_of loads) k ≡ Some (load_of (get_or listed k no_load))
load_is listed loads k same within = rw (← same) (slice_get-map load_of listed k ∙ ap (option_map load_of) (slice_get-get_or listed k no_load within))

abbrev pub no_relocation : read_relocation.Relocation
no_relocation = record { at = 0; offset = 0; symbol = 0; kind = 0; addend = pos 0 }

pub relocation_is : (listed relocations : List read_relocation.Relocation) (k : ℕ) → listed ≡ relocations → k < length listed → slice_get (map relocation_of relocations) k ≡ Some (relocation_of (get_or listed k no_relocation))
relocation_is listed relocations k same within = rw (← same) (slice_get-map relocation_of listed k ∙ ap (option_map relocation_of) (slice_get-get_or listed k no_relocation within))

pub entry_stands : (source : Source) (k : ℕ) (r : Relocation) → IsRead source → slice_get source.library.relocations k ≡ Some r → r.at + 24 ≤ length source.file
entry_stands source k r read is = each_at (λ (r : Relocation). r.at + 24 ≤ length source.file) source.library.relocations k r (stands_in source.file source.library read).relocations is
