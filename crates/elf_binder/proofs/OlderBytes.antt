-- What stood in memory before libraries were bound has its bytes.
use Rattle.std.proofs.Common.{◌≡◌, ℕ, ◌<◌, List, [], ◌∷◌, map, Ok, All, subst, arith}
use Rattle.std.specs.Prelude.{zip}
use Rattle.native_memory.specs.AddressSpace.{AddressSpace}
use Rattle.native_memory.specs.Sound.{IsSound}
use Rattle.native_memory.specs.Laws.{byte_at}
use Rattle.byte_view.specs.Reading.{steps}
use Rattle.elf_binder.specs.Modules.{Module}
use Rattle.elf_binder.specs.Loading.{Source, Placed, place_library, place_all}
use Rattle.elf_binder.specs.Relocating.{relocate_library}
use Rattle.elf_binder.specs.Binding.{Bindings, module_of, and_initializers, bindings}
use Rattle.elf_binder.specs.Sources.{IsRead}
use Rattle.elf_binder.specs.BindingLaws.{IsInWritableLoad}
use Rattle.elf_binder.proofs.InFile.{Each}
use Rattle.byte_view.proofs.Reading.{bind_then, same_read}
use Rattle.elf_binder.proofs.KeptBySteps.{kept}
use Rattle.elf_binder.proofs.Standing.{Stand, Follow, all_follow, each_from_all}
use Rattle.elf_binder.proofs.Inside.{HasByteOf, library_keeps}

none_inside : (edge : ℕ) (sources : List Source) (bases : List ℕ) (end addr : ℕ) → Stand edge sources bases end → addr < edge → Each (λ p. IsInWritableLoad p addr → ⊥) (zip sources bases)
none_inside edge [] bases end addr all low = tt
none_inside edge (source ∷ sources) [] end addr all low = tt
none_inside edge (source ∷ sources) (base ∷ bases) end addr all low =
    (λ inside. absurd (omega (arith, inside.3, all.0)), none_inside all.1.0 sources bases end addr all.1.3 (omega (arith, all.1.1)))

pub older_bytes : (sources : List Source) (old : AddressSpace) (bound : Bindings × AddressSpace) → IsSound old → All IsRead sources → bindings sources old ≡ Ok bound
    → (addr : ℕ) → addr < old.edge → byte_at bound.1 addr ≡ byte_at old addr
unfolding bindings place_all
older_bytes sources old bound sound read e addr low =
    let before : Placed = record { bases = []; space = old } in
    bind_then (steps place_library before sources) _ bound e (λ placed placed_is e1.
    let all : List (Source × ℕ) = zip sources placed.bases in
    let modules : List Module = map module_of all in
    let found : Follow before placed sources = all_follow before placed sources sound (each_from_all IsRead sources read) placed_is in
    let outside : Each (λ p. IsInWritableLoad p addr → ⊥) all = rw found.bases (none_inside old.edge sources found.more placed.space.edge addr found.stand low) in
    let start : HasByteOf old addr placed.space = record { sound = found.grown.sound; byte = found.grown.bytes addr low } in
    bind_then (steps (relocate_library modules) placed.space all) _ bound e1 (λ relocated relocated_is e2.
    let now : HasByteOf old addr relocated = kept (HasByteOf old addr) (λ p. IsInWritableLoad p addr → ⊥) (relocate_library modules) (library_keeps modules old addr) placed.space all relocated outside start relocated_is in
    bind_then (steps (and_initializers relocated) [] all) _ bound e2 (λ inits _ e3.
    subst (λ (bound : Bindings × AddressSpace). byte_at bound.1 addr ≡ byte_at old addr) (same_read _ bound e3) now.byte)))
