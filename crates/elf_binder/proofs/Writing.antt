-- One relocation: where it writes, and how it ends.
use Rattle.std.proofs.Common.{◌≡◌, ℕ, ◌+◌, ◌<◌, ◌≤◌, ◌^◌, Bool, true, false, ◌&&◌, ◌||◌, List, [], ◌∷◌, Some, None, Ok, Err, refl, arith}
use Rattle.std.specs.Prelude.{nat_le}
use Rattle.std.specs.List.{list_any}
use Rattle.std.specs.Int.{w64, cast_unsigned}
use Rattle.std.proofs.lemmas.Bool.{and_parts, leb-true}
use Rattle.byte_view.specs.ElfLoads.{Load, end_of}
use Rattle.byte_view.specs.ElfRelocations.{Relocation}
use Rattle.byte_view.specs.ElfParts as parts
use Rattle.byte_view.proofs.Loads.{loads_of_libraries_lie_apart}
use Rattle.native_memory.specs.AddressSpace.{AddressSpace}
use Rattle.native_memory.specs.Ranges.{written_at}
use Rattle.elf_binder.specs.declared.relocation.Kind.{Kind}
use Rattle.elf_binder.specs.contracts.relocation.Kind.{the_type}
use denote.Enum.Bare.{sameb}
use Rattle.elf_binder.specs.Modules.{Module}
use Rattle.elf_binder.specs.Loading.{Source}
use Rattle.elf_binder.specs.declared.relocation.Kind.TheVariants.{Nothing, Absolute32, Absolute64, Relative, JumpSlot}
use Rattle.elf_binder.specs.Relocating.{kind_of, width_of, is_target, is_writable, value_for, bytes_for, write_relocation, relocate}
use Rattle.elf_binder.specs.Sources.{IsRead}
use Rattle.elf_binder.proofs.InFile.{Each, each_contained}

some_if : {A : Type 0} (P : A → Type 0) (passes more : Bool) (test : A → Bool) (x : A) → test x ≡ passes → (passes || more) ≡ true → P x → (more ≡ true → (y : A) × P y × (test y ≡ true)) → (y : A) × P y × (test y ≡ true)
some_if P true more test x is any here rest = (x, here, is)
some_if P false more test x is any here rest = rest any

some_is : {A : Type 0} (P : A → Type 0) (test : A → Bool) (xs : List A) → Each P xs → list_any test xs ≡ true → (x : A) × P x × (test x ≡ true)
some_is P test [] all any = absurd (cc)
some_is P test (x ∷ xs) all any = some_if P (test x) (list_any test xs) test x refl any all.0 (some_is P test xs all.1)

-- the loads of a library that was read end below 2^32, and so does what a relocation may write
pub target_low : (source : Source) (at len : ℕ) → IsRead source → is_writable source.library.loads at len ≡ true → at + len < 2 ^ 32
unfolding is_writable
target_low source at len read is =
    let low : Each (λ load. end_of load < 2 ^ 32) source.library.loads =
    each_contained (λ load. end_of load < 2 ^ 32) source.library.loads (loads_of_libraries_lie_apart source.file source.library read).low in
    let found = some_is (λ (load : Load). end_of load < 2 ^ 32) (is_target at len) source.library.loads low is in
    let parts = and_parts (found.0.writable && nat_le found.0.vaddr at) (nat_le (at + len) (found.0.vaddr + found.0.size)) found.2 in
    let end : at + len ≤ found.0.vaddr + found.0.size = leb-true _ _ parts.1 in
    omega (arith, found.1, end)

-- ---- how a relocation of a kind ends

pub no_target : (modules : List Module) (source : Source) (base : ℕ) (space : AddressSpace) (r : Relocation) (kind : Kind) → is_writable source.library.loads r.offset (width_of kind) ≡ false
    → write_relocation modules source base space r kind ≡ Err (source.number, parts.reloc_target, r.at)
unfolding write_relocation
no_target modules source base space r kind target = rw target refl

pub unresolved : (modules : List Module) (source : Source) (base : ℕ) (space : AddressSpace) (r : Relocation) (kind : Kind) → is_writable source.library.loads r.offset (width_of kind) ≡ true
    → value_for modules source.library.symbols kind r.symbol ≡ None → write_relocation modules source base space r kind ≡ Err (source.number, parts.unresolved, r.at + 8)
unfolding write_relocation
unresolved modules source base space r kind target value = rw (target, value) refl

pub written : (modules : List Module) (source : Source) (base : ℕ) (space : AddressSpace) (r : Relocation) (kind : Kind) (symbol : ℕ) (new : AddressSpace) → is_writable source.library.loads r.offset (width_of kind) ≡ true
    → value_for modules source.library.symbols kind r.symbol ≡ Some symbol → written_at space (base + r.offset) (bytes_for kind base symbol (cast_unsigned w64 r.addend)) ≡ Some new
    → write_relocation modules source base space r kind ≡ Ok new
unfolding write_relocation
written modules source base space r kind symbol new target value is = rw (target, value, is) refl

pub not_written : (modules : List Module) (source : Source) (base : ℕ) (space : AddressSpace) (r : Relocation) (kind : Kind) (symbol : ℕ) → is_writable source.library.loads r.offset (width_of kind) ≡ true
    → value_for modules source.library.symbols kind r.symbol ≡ Some symbol → written_at space (base + r.offset) (bytes_for kind base symbol (cast_unsigned w64 r.addend)) ≡ None
    → write_relocation modules source base space r kind ≡ Err (source.number, parts.reloc_target, r.at)
unfolding write_relocation
not_written modules source base space r kind symbol target value is = rw (target, value, is) refl

-- ---- by its kind

pub no_kind : (modules : List Module) (source : Source) (base : ℕ) (space : AddressSpace) (r : Relocation) → kind_of r.kind ≡ None → relocate modules source base space r ≡ Err (source.number, parts.reloc_type, r.at + 8)
unfolding relocate
no_kind modules source base space r is = rw is refl

pub nothing_written : (modules : List Module) (source : Source) (base : ℕ) (space : AddressSpace) (r : Relocation) (kind : Kind) → kind_of r.kind ≡ Some kind → sameb the_type kind Nothing ≡ true
    → relocate modules source base space r ≡ Ok space
unfolding relocate
nothing_written modules source base space r Nothing is same = rw is refl
nothing_written modules source base space r Absolute32 is same = absurd (cc)
nothing_written modules source base space r Absolute64 is same = absurd (cc)
nothing_written modules source base space r Relative is same = absurd (cc)
nothing_written modules source base space r JumpSlot is same = absurd (cc)

pub written_as : (modules : List Module) (source : Source) (base : ℕ) (space : AddressSpace) (r : Relocation) (kind : Kind) → kind_of r.kind ≡ Some kind → sameb the_type kind Nothing ≡ false
    → relocate modules source base space r ≡ write_relocation modules source base space r kind
unfolding relocate
written_as modules source base space r Nothing is same = absurd (cc)
written_as modules source base space r Absolute32 is same = rw is refl
written_as modules source base space r Absolute64 is same = rw is refl
written_as modules source base space r Relative is same = rw is refl
written_as modules source base space r JumpSlot is same = rw is refl

pub some_width : (kind : Kind) → sameb the_type kind Nothing ≡ false → 0 < width_of kind
some_width Nothing same = absurd (cc)
some_width Absolute32 same = omega arith
some_width Absolute64 same = omega arith
some_width Relative same = omega arith
some_width JumpSlot same = omega arith
