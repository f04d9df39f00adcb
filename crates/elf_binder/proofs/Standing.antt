-- Where libraries stand once all are placed, and what placing leaves as it was.
use Rattle.std.proofs.Common.{◌≡◌, ℕ, zero, suc, ◌+◌, ◌-◌, ◌%◌, ◌<◌, ◌≤◌, max, Bool, true, false, cond, List, [], ◌∷◌, ◌++◌, length, replicate, drop, Option, Some, None, Result, Ok, All, refl, sym, ap, ◌∙◌, subst, append_assoc, append-nil, arith}
use Rattle.std.specs.Prelude.{nat_eq, nat_le, if◌then◌else◌, slice_get, zip, Contains, find}
use Rattle.std.specs.Option.{ok_or}
use Rattle.std.proofs.lemmas.Bool.Decides.{nat_tests}
use Rattle.std.proofs.lemmas.List.{length-take}
use Rattle.byte_view.specs.ElfLoads.{Load, end_of}
use Rattle.byte_view.specs.ElfLaws.{LoadsLieApart}
use Rattle.byte_view.specs.ElfParts as parts
use Rattle.byte_view.proofs.Loads.{loads_of_libraries_lie_apart}
use Rattle.native_memory.specs.declared.kind.Kind.TheVariants.{Segment}
use Rattle.native_memory.specs.AddressSpace.{Block, AddressSpace}
use Rattle.native_memory.specs.Placement.{placed_at, edge_of, holds_address, with_behind}
use Rattle.native_memory.specs.Sound.{IsSound}
use Rattle.native_memory.specs.Laws.{byte_at}
use Rattle.native_memory.specs.Laws.Follows.{PlacesAt}
use Rattle.native_memory.proofs.Reached.{GoesOn, follows_on}
use Rattle.byte_view.specs.Reading.{steps}
use Rattle.elf_binder.specs.Unbound.{Unbound}
use Rattle.elf_binder.specs.Loading.{Source, Placed, base_for, rights_of, bytes_of, placing, place_load, place_loads, place_library}
use Rattle.elf_binder.specs.Sources.{IsRead}
use Rattle.elf_binder.proofs.InFile.{Each, each_contained}
use Rattle.byte_view.proofs.Reading.{bind_then, same_read}
use Rattle.elf_binder.proofs.Placing.{edge_after}

-- memory after more was placed: what stood before is as it was
pub record GrewFrom (old new : AddressSpace) : Type 0 where
  pub sound : IsSound new
  pub edge : old.edge ≤ new.edge
  pub bytes : (addr : ℕ) → addr < old.edge → byte_at new addr ≡ byte_at old addr

pub no_growth : (space : AddressSpace) → IsSound space → GrewFrom space space
no_growth space sound = record { sound = sound; edge = omega arith; bytes = λ addr low. refl }

pub more_growth : (old between new : AddressSpace) → GrewFrom old between → GrewFrom between new → GrewFrom old new
more_growth old between new first second = record {
  sound = second.sound;
  edge = omega (arith, first.edge, second.edge);
  bytes = λ addr low. second.bytes addr (omega (arith, first.edge)) ∙ first.bytes addr low;
}

-- ---- one load

find_behind : (test : Block → Bool) (blocks : List Block) (block : Block) → test block ≡ false → find test (blocks ++ block ∷ []) ≡ find test blocks
find_behind test [] block fails = rw fails refl
find_behind test (first ∷ rest) block fails = ap (λ (found : Option Block). cond (test first) (Some first) found) (find_behind test rest block fails)

not_held : (addr : ℕ) (block : Block) → addr < block.base → holds_address addr block ≡ false
not_held addr block low = let above : nat_le block.base addr ≡ false = grind (arith, nat_tests) in rw above refl

bytes_behind : (old new : AddressSpace) (block : Block) → new.blocks ≡ old.blocks ++ block ∷ [] → old.edge ≤ block.base → (addr : ℕ) → addr < old.edge → byte_at new addr ≡ byte_at old addr
bytes_behind old new block is behind addr low =
    let found : find (holds_address addr) new.blocks ≡ find (holds_address addr) old.blocks =
    rw is (find_behind (holds_address addr) old.blocks block (not_held addr block (omega arith))) in
    rw found refl

behind_if : (room : Bool) (old new : AddressSpace) (block : Block) (next : ℕ) → (if room then Some (with_behind old block next) else None) ≡ Some new → (new.blocks ≡ old.blocks ++ block ∷ []) × (new.edge ≡ edge_of block)
behind_if true old new block next e =
    let same : with_behind old block next ≡ new = cc in
    (ap (λ (space : AddressSpace). space.blocks) (sym same), ap (λ (space : AddressSpace). space.edge) (sym same))
behind_if false old new block next e = absurd (cc)

-- the block of a load
abbrev block_of : Source → ℕ → Load → Block
block_of source base load = record {
  base = base + load.vaddr;
  size = load.size;
  rights = rights_of load;
  kind = Segment;
  contents = Some (bytes_of source.file load ++ replicate (load.size - length (bytes_of source.file load)) 0);
}

placed_behind : (source : Source) (base : ℕ) (old : AddressSpace) (load : Load) (new : AddressSpace) → placing source base old load ≡ Some new
    → (new.blocks ≡ old.blocks ++ block_of source base load ∷ []) × (new.edge ≡ base + load.vaddr + max load.size 1)
unfolding placed_at
placed_behind source base old load new is = behind_if _ old new (block_of source base load) _ is

-- the newest block ends where the load does, unless that has no bytes
abbrev EndsBy : ℕ → ℕ → Load → Type 0
EndsBy base edge load = 0 < load.size → base + end_of load ≤ edge

placed_grows : (source : Source) (base : ℕ) (old : AddressSpace) (load : Load) (new : AddressSpace) → IsSound old → old.edge ≤ base + load.vaddr → load.file_size ≤ load.size
    → placing source base old load ≡ Some new → GrewFrom old new × EndsBy base new.edge load
placed_grows source base old load new sound behind fits is =
    let short : length (bytes_of source.file load) ≤ load.size = omega (arith, length-take load.file_size (drop load.file_at source.file)) in
    let on : GoesOn old new = follows_on old new sound (PlacesAt old new (base + load.vaddr) (bytes_of source.file load) load.size (rights_of load) behind short is) in
    let parts = placed_behind source base old load new is in
    (record { sound = on.sound; edge = on.edge; bytes = bytes_behind old new (block_of source base load) parts.0 behind }, λ some. omega (arith, parts.1))

abbrev load_or : Bool → Source → ℕ → AddressSpace → Load → Result AddressSpace Unbound
load_or empty source base old load = if empty then Ok old else ok_or (placing source base old load) (source.number, parts.load, load.at + 40)

placed_or : (source : Source) (base : ℕ) (old : AddressSpace) (load : Load) (new : AddressSpace) (found : Option AddressSpace) → IsSound old → old.edge ≤ base + load.vaddr → load.file_size ≤ load.size
    → placing source base old load ≡ found → ok_or {E = Unbound} found (source.number, parts.load, load.at + 40) ≡ Ok new → GrewFrom old new × EndsBy base new.edge load
placed_or source base old load new (Some space) sound behind fits is e =
    placed_grows source base old load new sound behind fits (is ∙ ap Some (same_read space new e))
placed_or source base old load new None sound behind fits is e = absurd (cc)

load_if : (empty : Bool) (source : Source) (base : ℕ) (old : AddressSpace) (load : Load) (new : AddressSpace) → nat_eq load.size 0 ≡ empty → IsSound old → old.edge ≤ base + load.vaddr → load.file_size ≤ load.size
    → load_or empty source base old load ≡ Ok new → GrewFrom old new × EndsBy base new.edge load
load_if true source base old load new is sound behind fits e =
    let none : load.size ≡ 0 = grind (arith, nat_tests, is) in
    subst (λ (new : AddressSpace). GrewFrom old new × EndsBy base new.edge load) (same_read old new e) (no_growth old sound, λ some. absurd (omega (arith, none, some)))
load_if false source base old load new is sound behind fits e = placed_or source base old load new (placing source base old load) sound behind fits refl e

load_grows : (source : Source) (base : ℕ) (old : AddressSpace) (load : Load) (new : AddressSpace) → IsSound old → old.edge ≤ base + load.vaddr → load.file_size ≤ load.size → place_load source base old load ≡ Ok new
    → GrewFrom old new × EndsBy base new.edge load
unfolding place_load
load_grows source base old load new sound behind fits e = load_if (nat_eq load.size 0) source base old load new refl sound behind fits e

-- ---- the loads of a library

-- each load lies behind an edge, and behind the loads before it
abbrev Ascend : ℕ → ℕ → List Load → Type 0
Ascend base edge [] = Unit {0}
Ascend base edge (load ∷ more) = (edge ≤ base + load.vaddr) × Ascend base (base + end_of load) more

ascend_lower : (base low high : ℕ) (loads : List Load) → low ≤ high → Ascend base high loads → Ascend base low loads
ascend_lower base low high [] h all = tt
ascend_lower base low high (load ∷ more) h all = (omega (arith, all.0), all.1)

ascending : (base edge : ℕ) (loads : List Load) → ((k : ℕ) (load : Load) → slice_get loads k ≡ Some load → edge ≤ base + load.vaddr)
    → ((k later : ℕ) (one other : Load) → k < later → slice_get loads k ≡ Some one → slice_get loads later ≡ Some other → end_of one ≤ other.vaddr) → Ascend base edge loads
ascending base edge [] low apart = tt
ascending base edge (load ∷ more) low apart = (
  low 0 load refl,
  ascending base (base + end_of load) more (λ k other is. omega (arith, apart 0 (suc k) load other (omega arith) refl is))
      (λ k later one other h first second. apart (suc k) (suc later) one other (omega arith) first second),
)

loads_grow : (source : Source) (base : ℕ) (old : AddressSpace) (loads : List Load) (new : AddressSpace) → IsSound old → Ascend base old.edge loads → Each (λ load. load.file_size ≤ load.size) loads
    → steps (place_load source base) old loads ≡ Ok new → GrewFrom old new × Each (EndsBy base new.edge) loads
unfolding steps
loads_grow source base old [] new sound all fits e = subst (λ (new : AddressSpace). GrewFrom old new × Unit {0}) (same_read old new e) (no_growth old sound, tt)
loads_grow source base old (load ∷ more) new sound all fits e =
    bind_then (place_load source base old load) (λ next. steps (place_load source base) next more) new e (λ between is rest.
    let first = load_grows source base old load between sound all.0 fits.0 is in
    let reach : between.edge ≤ base + end_of load = edge_after source base old load between all.0 is in
    let later = loads_grow source base between more new first.0.sound (ascend_lower base between.edge (base + end_of load) more reach all.1) fits.1 rest in
    (more_growth old between new first.0 later.0, (λ some. omega (arith, first.1 some, later.0.edge), later.1)))

-- ---- a library

base_behind : (space : AddressSpace) → IsSound space → space.edge ≤ base_for space
base_behind space sound = omega (arith, sound.edge)

pub base_whole : (space : AddressSpace) → base_for space % 65536 ≡ 0
base_whole space = omega arith

-- one more library stands behind what was placed before
record Adds (before after : Placed) (source : Source) : Type 0 where
  pub grown : GrewFrom before.space after.space
  pub bases : after.bases ≡ before.bases ++ base_for before.space ∷ []
  pub ends : Each (EndsBy (base_for before.space) after.space.edge) source.library.loads

library_adds : (before after : Placed) (source : Source) → IsSound before.space → IsRead source → place_library before source ≡ Ok after → Adds before after source
unfolding place_library place_loads
library_adds before after source sound read e =
    let base : ℕ = base_for before.space in
    let all : LoadsLieApart source.file source.library.loads = loads_of_libraries_lie_apart source.file source.library read in
    let behind : before.space.edge ≤ base = base_behind before.space sound in
    bind_then (steps (place_load source base) before.space source.library.loads) _ after e (λ space is rest.
    let grown = loads_grow source base before.space source.library.loads space sound (ascending base before.space.edge source.library.loads (λ k load _. omega arith) all.apart)
    (each_contained (λ load. load.file_size ≤ load.size) source.library.loads all.sizes) is in
    subst (λ (after : Placed). Adds before after source) (same_read _ after rest) (record { grown = grown.0; bases = refl; ends = grown.1 }))

-- ---- all libraries

-- libraries stand at bases one after another, from an edge up to an end
abbrev pub Stand : ℕ → List Source → List ℕ → ℕ → Type 0
Stand edge [] [] end = edge ≤ end
Stand edge [] (base ∷ bases) end = ⊥
Stand edge (source ∷ sources) [] end = ⊥
Stand edge (source ∷ sources) (base ∷ bases) end =
    (edge ≤ base) × ((mid : ℕ) × (edge ≤ mid) × Each (EndsBy base mid) source.library.loads × Stand mid sources bases end)

pub record Follow (before after : Placed) (sources : List Source) : Type 0 where
  pub more : List ℕ
  pub bases : after.bases ≡ before.bases ++ more
  pub grown : GrewFrom before.space after.space
  pub stand : Stand before.space.edge sources more after.space.edge

pub all_follow : (before after : Placed) (sources : List Source) → IsSound before.space → Each IsRead sources → steps place_library before sources ≡ Ok after → Follow before after sources
unfolding steps
all_follow before after [] sound read e =
    subst (λ (after : Placed). Follow before after []) (same_read before after e)
    (record { more = []; bases = sym (append-nil before.bases); grown = no_growth before.space sound; stand = omega arith })
all_follow before after (source ∷ sources) sound read e =
    bind_then (place_library before source) (λ next. steps place_library next sources) after e (λ between is rest.
    let first : Adds before between source = library_adds before between source sound read.0 is in
    let later : Follow between after sources = all_follow between after sources first.grown.sound read.1 rest in
    record {
      more = base_for before.space ∷ later.more;
      bases = later.bases ∙ ap (λ (bases : List ℕ). bases ++ later.more) first.bases ∙ append_assoc before.bases (base_for before.space ∷ []) later.more;
      grown = more_growth before.space between.space after.space first.grown later.grown;
      stand = (base_behind before.space sound, (between.space.edge, first.grown.edge, first.ends, later.stand));
    })

-- ---- two of them

each_in : {A : Type 0} (P : A → Type 0) (xs : List A) (x : A) → Each P xs → Contains xs x → P x
each_in P [] x all there = absurd (omega (arith, there.1))
each_in P (y ∷ ys) x all (zero, within, is) = subst P is all.0
each_in P (y ∷ ys) x all (suc k, within, is) = each_in P ys x all.1 (k, omega arith, is)

pub stand_above : (edge : ℕ) (sources : List Source) (bases : List ℕ) (end k : ℕ) (p : Source × ℕ) → Stand edge sources bases end → slice_get (zip sources bases) k ≡ Some p → edge ≤ p.1
stand_above edge [] bases end k p all is = absurd (cc)
stand_above edge (source ∷ sources) [] end k p all is = absurd all
stand_above edge (source ∷ sources) (base ∷ bases) end zero p all is =
    let same : ◌≡◌ {A = Source × ℕ} (source, base) p = cc in
    subst (λ (p : Source × ℕ). edge ≤ p.1) same all.0
stand_above edge (source ∷ sources) (base ∷ bases) end (suc k) p all is =
    omega (arith, stand_above all.1.0 sources bases end k p all.1.3 is, all.1.1)

pub stand_apart : (edge : ℕ) (sources : List Source) (bases : List ℕ) (end i j : ℕ) (p q : Source × ℕ) (load : Load) → Stand edge sources bases end → i < j → slice_get (zip sources bases) i ≡ Some p → slice_get (zip sources bases) j ≡ Some q
    → Contains p.0.library.loads load → 0 < load.size → p.1 + end_of load ≤ q.1
stand_apart edge [] bases end i j p q load all h first second there some = absurd (cc)
stand_apart edge (source ∷ sources) [] end i j p q load all h first second there some = absurd all
stand_apart edge (source ∷ sources) (base ∷ bases) end i zero p q load all h first second there some = absurd (omega arith)
stand_apart edge (source ∷ sources) (base ∷ bases) end zero (suc j) p q load all h first second there some =
    let same : ◌≡◌ {A = Source × ℕ} (source, base) p = cc in
    let above : all.1.0 ≤ q.1 = stand_above all.1.0 sources bases end j q all.1.3 second in
    subst (λ (p : Source × ℕ). Contains p.0.library.loads load → p.1 + end_of load ≤ q.1) same
    (λ within. omega (arith, each_in (EndsBy base all.1.0) source.library.loads load all.1.2 within some, above)) there
stand_apart edge (source ∷ sources) (base ∷ bases) end (suc i) (suc j) p q load all h first second there some =
    stand_apart all.1.0 sources bases end i j p q load all.1.3 (omega arith) first second there some

-- ---- bases

each_pushed : {A : Type 0} (P : A → Type 0) (xs : List A) (x : A) → Each P xs → P x → Each P (xs ++ x ∷ [])
each_pushed P [] x all last = (last, tt)
each_pushed P (y ∷ ys) x all last = (all.0, each_pushed P ys x all.1 last)

abbrev IsWhole : ℕ → Type 0
IsWhole base = base % 65536 ≡ 0

pub library_whole : (before : Placed) (source : Source) (after : Placed) → Unit {0} → Each IsWhole before.bases → place_library before source ≡ Ok after → Each IsWhole after.bases
unfolding place_library
library_whole before source after any whole e =
    bind_then (place_loads source (base_for before.space) before.space) _ after e (λ space is rest.
    subst (λ (after : Placed). Each IsWhole after.bases) (same_read _ after rest) (each_pushed IsWhole before.bases (base_for before.space) whole (base_whole before.space)))

pub each_true : {A : Type 0} (xs : List A) → Each (λ x. Unit {0}) xs
each_true [] = tt
each_true (x ∷ xs) = (tt, each_true xs)

pub all_from_each : {A : Type 0} (P : A → Type 0) (xs : List A) → Each P xs → All P xs
all_from_each P [] all k d within = absurd (omega arith)
all_from_each P (x ∷ xs) all zero d within = all.0
all_from_each P (x ∷ xs) all (suc k) d within = all_from_each P xs all.1 k d (omega arith)

pub each_from_all : {A : Type 0} (P : A → Type 0) (xs : List A) → All P xs → Each P xs
each_from_all P [] all = tt
each_from_all P (x ∷ xs) all = (all 0 x (omega arith), each_from_all P xs (λ k d within. all (suc k) d (omega arith)))
