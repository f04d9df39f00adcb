-- Where memory can be wanted while libraries are placed: not before the first load is.
use Rattle.std.proofs.Common.{◌≡◌, ℕ, zero, suc, ◌+◌, ◌<◌, Bool, true, false, List, [], ◌∷◌, take, Option, Some, None, Result, Ok, Err, refl, arith}
use Rattle.std.specs.Prelude.{slice_get, nat_eq, IsOk, IsSome, if◌then◌else◌}
use Rattle.std.specs.Option.{ok_or}
use Rattle.byte_view.specs.ElfLoads.{Load}
use Rattle.byte_view.specs.ElfParts as parts
use Rattle.byte_view.specs.Reading.{◌>>=◌, steps}
use Rattle.byte_view.proofs.Reading.{bind_then}
use Rattle.native_memory.specs.AddressSpace.{AddressSpace}
use Rattle.elf_binder.specs.Unbound.{Unbound}
use Rattle.elf_binder.specs.Loading.{Source, Placed, base_for, placing, place_load, place_loads, place_library, place_all, first_of, first_load}

-- a result that is some value is one
pub is_ok : {A R : Type 0} (r : Result A R) (x : A) → r ≡ Ok x → IsOk r
is_ok r x e = rw e refl

-- the first of steps that were all taken was taken
first_if : {S A R : Type 0} (step : S → A → Result S R) (r : Result S R) (xs : List A) (now : S)
    → (r >>= λ next. steps step next xs) ≡ Ok now → IsOk (r >>= λ next. steps step next [])
unfolding steps
first_if step (Ok y) xs now e = refl
first_if step (Err d) xs now e = absurd (cc)

pub first_goes : {S A R : Type 0} (step : S → A → Result S R) (s : S) (all : List A) (now : S)
    → steps step s all ≡ Ok now → IsOk (steps step s (take 1 all))
unfolding steps
first_goes step s [] now e = refl
first_goes step s (x ∷ xs) now e = first_if step (step s x) xs now e

first_alone : {S R : Type 0} (r : Result S R) → IsOk r → IsOk (r >>= λ next. Ok next)
first_alone (Ok y) h = refl
first_alone (Err d) h = h

first_is : {S A R : Type 0} (step : S → A → Result S R) (s : S) (all : List A) (x : A)
    → slice_get all 0 ≡ Some x → IsOk (step s x) → IsOk (steps step s (take 1 all))
unfolding steps
first_is step s [] x is h = absurd (cc)
first_is step s (y ∷ ys) x is h =
    let same : y ≡ x = cc in
    rw same (first_alone (step s x) h)

-- at each place: it is the first, or the first was taken before
pub begun_by : {S A R : Type 0} (step : S → A → Result S R) (s now : S) (all : List A) (k : ℕ) (x : A)
    → (k ≡ 0 → now ≡ s) → (0 < k → IsOk (steps step s (take 1 all)))
    → slice_get all k ≡ Some x → IsOk (step now x) → IsOk (steps step s (take 1 all))
begun_by step s now all zero x start begun is h =
    first_is step s all x is (rw (← start refl) h)
begun_by step s now all (suc k) x start begun is h = begun (omega arith)

-- ---- loads

placed_if : (empty : Bool) (space : AddressSpace) (o : Option AddressSpace) (d : Unbound)
    → IsSome o → IsOk (if empty then Ok space else ok_or o d)
placed_if true space o d h = refl
placed_if false space (Some new) d h = refl
placed_if false space None d h = h

-- a load that there is room for is placed
pub placing_ok : (source : Source) (base : ℕ) (space : AddressSpace) (load : Load)
    → IsSome (placing source base space load) → IsOk (place_load source base space load)
unfolding place_load
placing_ok source base space load h =
    placed_if (nat_eq load.size 0) space (placing source base space load) (source.number, parts.load, load.at + 40) h

-- a library that was placed has its first load placed
pub loads_began : (source : Source) (base : ℕ) (space new : AddressSpace)
    → place_loads source base space ≡ Ok new → IsOk (first_of source base space)
unfolding place_loads
loads_began source base space new e = first_goes (place_load source base) space source.library.loads new e

library_if : (source : Source) (bases : List ℕ) (space : AddressSpace) (r : Result AddressSpace Unbound) (after : Placed)
    → (r >>= λ new. Ok (record { bases = bases; space = new })) ≡ Ok after → (x : AddressSpace) × (r ≡ Ok x)
library_if source bases space (Ok x) after e = (x, refl)
library_if source bases space (Err d) after e = absurd (cc)

pub library_began : (before : Placed) (source : Source) (after : Placed) → place_library before source ≡ Ok after
    → IsOk (first_of source (base_for before.space) before.space)
unfolding place_library
library_began before source after e =
    let found = library_if source _ before.space (place_loads source (base_for before.space) before.space) after e in
    loads_began source (base_for before.space) before.space found.0 found.1

-- ---- libraries

pub begun_at : (space now : AddressSpace) (sources : List Source) (k : ℕ) (source : Source)
    → (k ≡ 0 → now ≡ space) → (0 < k → IsOk (first_load space sources))
    → slice_get sources k ≡ Some source → IsOk (first_of source (base_for now) now) → IsOk (first_load space sources)
begun_at space now [] k source start begun is h = absurd (cc)
begun_at space now (s ∷ more) zero source start begun is h =
    let same : s ≡ source = cc in
    rw (same, ← start refl) h
begun_at space now (s ∷ more) (suc k) source start begun is h = begun (omega arith)

pub all_began : (space : AddressSpace) (sources : List Source) (placed : Placed)
    → place_all space sources ≡ Ok placed → IsOk (first_load space sources)
unfolding place_all steps
all_began space [] placed e = refl
all_began space (source ∷ more) placed e =
    let before : Placed = record { bases = []; space = space } in
    bind_then (place_library before source) _ placed e (λ next is rest. library_began before source next is)
