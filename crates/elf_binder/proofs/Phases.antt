-- The phases of binding, one after another.
use Rattle.std.proofs.Common.{◌≡◌, ℕ, List, [], map, Ok, Err, refl}
use Rattle.std.specs.Prelude.{zip}
use Rattle.native_memory.specs.AddressSpace.{AddressSpace}
use Rattle.byte_view.specs.Reading.{steps}
use Rattle.elf_binder.specs.Unbound.{Unbound}
use Rattle.elf_binder.specs.Modules.{Module}
use Rattle.elf_binder.specs.Loading.{Source, place_all}
use Rattle.elf_binder.specs.Relocating.{relocate_library}
use Rattle.elf_binder.specs.Binding.{module_of, and_initializers, bindings}

-- the libraries are placed; their bases and their modules are lent to the next phases
pub record ArePlaced (sources : List Source) (space placed : AddressSpace) (lent : List ℕ) (modules : List Module) : Type 0 where
  pub bases : List ℕ
  pub placing : place_all space sources ≡ Ok (record { bases = bases; space = placed })
  pub lending : lent ≡ bases
  pub naming : modules ≡ map module_of (zip sources lent)

pub not_placed : (sources : List Source) (space : AddressSpace) (d : Unbound) → place_all space sources ≡ Err d → bindings sources space ≡ Err d
unfolding bindings
not_placed sources space d failed = rw failed refl

pub not_relocated : (sources : List Source) (space placed : AddressSpace) (lent : List ℕ) (modules listed : List Module) (d : Unbound) → ArePlaced sources space placed lent modules
    → listed ≡ modules → steps (relocate_library listed) placed (zip sources lent) ≡ Err d → bindings sources space ≡ Err d
unfolding bindings
not_relocated sources space placed lent modules listed d before is failed =
    let stopped = rw (is, before.naming, before.lending) at failed in
    rw (before.placing, stopped) refl

pub not_listed : (sources : List Source) (space placed relocated : AddressSpace) (lent : List ℕ) (modules listed : List Module) (d : Unbound) → ArePlaced sources space placed lent modules
    → listed ≡ modules → steps (relocate_library listed) placed (zip sources lent) ≡ Ok relocated → steps (and_initializers relocated) [] (zip sources lent) ≡ Err d → bindings sources space ≡ Err d
unfolding bindings
not_listed sources space placed relocated lent modules listed d before is went failed =
    let gone = rw (is, before.naming, before.lending) at went in
    let stopped = rw before.lending at failed in
    rw (before.placing, gone, stopped) refl

pub all_bound : (sources : List Source) (space placed relocated : AddressSpace) (lent : List ℕ) (modules listed : List Module) (inits : List ℕ) → ArePlaced sources space placed lent modules
    → listed ≡ modules → steps (relocate_library listed) placed (zip sources lent) ≡ Ok relocated → steps (and_initializers relocated) [] (zip sources lent) ≡ Ok inits
    → bindings sources space ≡ Ok (record { modules = modules; inits = inits }, relocated)
unfolding bindings
all_bound sources space placed relocated lent modules listed inits before is went ended =
    let gone = rw (is, before.naming, before.lending) at went in
    let done = rw before.lending at ended in
    rw (before.placing, gone, done, before.naming, before.lending) refl
