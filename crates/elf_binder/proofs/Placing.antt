-- Placing one load, and where the newest block ends then.
use Rattle.std.proofs.Common.{◌≡◌, ℕ, ◌+◌, ◌≤◌, max, Bool, true, false, List, [], ◌∷◌, ◌++◌, Option, Some, None, Result, Ok, Err, refl, ap, ◌∙◌, arith}
use Rattle.std.specs.Prelude.{nat_eq, if◌then◌else◌}
use Rattle.std.specs.Option.{ok_or}
use Rattle.std.proofs.lemmas.Bool.Decides.{nat_tests}
use Rattle.byte_view.specs.ElfLoads.{Load, end_of}
use Rattle.byte_view.specs.ElfParts as parts
use Rattle.native_memory.specs.AddressSpace.{Block, AddressSpace}
use Rattle.native_memory.specs.Placement.{placed_at}
use Rattle.elf_binder.specs.Unbound.{Unbound}
use Rattle.elf_binder.specs.Loading.{Source, base_for, placing, place_load, place_loads, place_library}

some_bytes : (empty : Bool) (size : ℕ) (x y : Result AddressSpace Unbound) → nat_eq size 0 ≡ empty → (size ≡ 0 → ⊥) → (if empty then x else y) ≡ y
some_bytes true size x y is some = absurd (some (grind (arith, nat_tests, is)))
some_bytes false size x y is some = refl

pub placed : (source : Source) (base : ℕ) (space : AddressSpace) (load : Load) (new : AddressSpace) → (load.size ≡ 0 → ⊥) → placing source base space load ≡ Some new
    → place_load source base space load ≡ Ok new
unfolding place_load
placed source base space load new some is =
    some_bytes (nat_eq load.size 0) load.size _ _ refl some ∙ ap (λ (o : Option AddressSpace). ok_or o (source.number, parts.load, load.at + 40)) is

pub no_room : (source : Source) (base : ℕ) (space : AddressSpace) (load : Load) → (load.size ≡ 0 → ⊥) → placing source base space load ≡ None
    → place_load source base space load ≡ Err (source.number, parts.load, load.at + 40)
unfolding place_load
no_room source base space load some is =
    some_bytes (nat_eq load.size 0) load.size _ _ refl some ∙ ap (λ (o : Option AddressSpace). ok_or o (source.number, parts.load, load.at + 40)) is

-- ---- the loads of a library, one after another

edge_if : (empty room : Bool) (space : AddressSpace) (size end next : ℕ) (blocks : List Block) (d : Unbound) (new : AddressSpace) (start : ℕ) → nat_eq size 0 ≡ empty → end ≡ start + max size 1 → space.edge ≤ start
    → (if empty then Ok space else ok_or (if room then Some (record space { next = next; edge = end; blocks = blocks }) else None) d) ≡ Ok new → new.edge ≤ start + size
edge_if true room space size end next blocks d new start is at behind e = let same : space ≡ new = cc in rw (← same) (omega arith)
edge_if false true space size end next blocks d new start is at behind e =
    let same : record space { next = next; edge = end; blocks = blocks } ≡ new = cc in
    let some : size ≡ 0 → ⊥ = λ none. search (arith, nat_tests) in
    rw (← same) (omega arith)
edge_if false false space size end next blocks d new start is at behind e = absurd (cc)

-- after a load the newest block ends where the load does, or before
pub edge_after : (source : Source) (base : ℕ) (space : AddressSpace) (load : Load) (new : AddressSpace) → space.edge ≤ base + load.vaddr → place_load source base space load ≡ Ok new → new.edge ≤ base + end_of load
unfolding place_load placed_at
edge_after source base space load new behind e =
    omega (arith, edge_if (nat_eq load.size 0) _ space load.size (base + load.vaddr + max load.size 1) _ _ _ new (base + load.vaddr) refl refl behind e)

-- ---- a library

pub library_placed : (bases : List ℕ) (space : AddressSpace) (source : Source) (base : ℕ) (new : AddressSpace) (more : List ℕ) → base ≡ base_for space → place_loads source base space ≡ Ok new → more ≡ bases ++ base ∷ []
    → place_library (record { bases = bases; space = space }) source ≡ Ok (record { bases = more; space = new })
unfolding place_library
library_placed bases space source base new more is placed pushed = rw (← is, placed, pushed) refl

pub library_fails : (bases : List ℕ) (space : AddressSpace) (source : Source) (base : ℕ) (d : Unbound) → base ≡ base_for space → place_loads source base space ≡ Err d
    → place_library (record { bases = bases; space = space }) source ≡ Err d
unfolding place_library
library_fails bases space source base d is failed = rw (← is, failed) refl
