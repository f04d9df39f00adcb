-- What relocations leave as it was: all bytes outside of the writable loads of their library.
use Rattle.std.proofs.Common.{◌≡◌, ℕ, suc, ◌+◌, ◌-◌, ◌<◌, ◌≤◌, Bool, true, false, ◌&&◌, ◌||◌, List, [], ◌∷◌, length, Some, Ok, refl, ◌∙◌, subst, arith}
use Rattle.std.specs.Prelude.{nat_le, nat_lt, if◌then◌else◌, slice_get, Contains}
use Rattle.std.specs.List.{list_any}
use Rattle.std.specs.Option.{ok_or}
use Rattle.std.specs.Int.{w64, cast_unsigned}
use Rattle.std.proofs.lemmas.Bool.{and_parts, leb-true, ltb-true}
use Rattle.byte_view.specs.ElfLoads.{Load}
use Rattle.byte_view.specs.ElfRelocations.{Relocation}
use Rattle.byte_view.specs.ElfParts as parts
use Rattle.native_memory.specs.AddressSpace.{AddressSpace}
use Rattle.native_memory.specs.Ranges.{written_at}
use Rattle.native_memory.specs.Sound.{IsSound}
use Rattle.native_memory.specs.Laws.{byte_at}
use Rattle.native_memory.specs.Laws.Follows.{Writes}
use Rattle.native_memory.proofs.Reached.{follows_on}
use Rattle.native_memory.proofs.WrittenBytes.{written_bytes}
use Rattle.elf_binder.specs.declared.relocation.Kind.{Kind}
use Rattle.elf_binder.specs.declared.relocation.Kind.TheVariants.{Nothing, Absolute32, Absolute64, Relative, JumpSlot}
use Rattle.byte_view.specs.Reading.{must}
use Rattle.elf_binder.specs.Modules.{Module}
use Rattle.elf_binder.specs.Loading.{Source}
use Rattle.elf_binder.specs.Relocating.{kind_of, width_of, is_target, is_writable, value_for, bytes_for, write_relocation, relocate_as, relocate, relocate_library}
use Rattle.elf_binder.specs.BindingLaws.{IsInWritableLoad}
use Rattle.byte_view.proofs.Reading.{bind_then, same_read, must_ok, ok_or_ok}
use Rattle.elf_binder.proofs.KeptBySteps.{kept}
use Rattle.elf_binder.proofs.Standing.{each_true}

-- memory is sound, and has a byte at an address as other memory has it
pub record HasByteOf (old : AddressSpace) (addr : ℕ) (now : AddressSpace) : Type 0 where
  pub sound : IsSound now
  pub byte : byte_at now addr ≡ byte_at old addr

-- as many bytes as the kind says
pub length-bytes : (kind : Kind) (base symbol addend : ℕ) → length (bytes_for kind base symbol addend) ≡ width_of kind
length-bytes Nothing base symbol addend = refl
length-bytes Absolute32 base symbol addend = refl
length-bytes Absolute64 base symbol addend = refl
length-bytes Relative base symbol addend = refl
length-bytes JumpSlot base symbol addend = refl

-- the load that has a target
target_if : (passes : Bool) (at len : ℕ) (load : Load) (more : List Load) → is_target at len load ≡ passes → (passes || list_any (is_target at len) more) ≡ true
    → (list_any (is_target at len) more ≡ true → (found : Load) × Contains more found × (is_target at len found ≡ true))
    → (found : Load) × Contains (load ∷ more) found × (is_target at len found ≡ true)
target_if true at len load more is any rest = (load, (0, omega arith, refl), is)
target_if false at len load more is any rest =
    let found = rest any in (found.0, (suc found.1.0, omega (arith, found.1.1), found.1.2), found.2)

target_in : (at len : ℕ) (loads : List Load) → list_any (is_target at len) loads ≡ true → (found : Load) × Contains loads found × (is_target at len found ≡ true)
target_in at len [] any = absurd (cc)
target_in at len (load ∷ more) any = target_if (is_target at len load) at len load more refl any (target_in at len more)

-- what is written lies in a writable load of the library
inside : (source : Source) (base at len addr : ℕ) → is_writable source.library.loads at len ≡ true → base + at ≤ addr → addr < base + at + len → IsInWritableLoad (source, base) addr
unfolding is_writable
inside source base at len addr is low high =
    let found = target_in at len source.library.loads is in
    let all = and_parts (found.0.writable && nat_le found.0.vaddr at) (nat_le (at + len) (found.0.vaddr + found.0.size)) found.2 in
    let first = and_parts found.0.writable (nat_le found.0.vaddr at) all.0 in
    let below : found.0.vaddr ≤ at = leb-true _ _ first.1 in
    let above : at + len ≤ found.0.vaddr + found.0.size = leb-true _ _ all.1 in
    (found.0, found.1, first.0, omega arith, omega arith)

byte_if : (within : Bool) (old new : AddressSpace) (start len addr : ℕ) (from : List ℕ) → (nat_le start addr && nat_lt addr (start + len)) ≡ within → (start ≤ addr → addr < start + len → ⊥)
    → byte_at new addr ≡ (if within then slice_get from (addr - start) else byte_at old addr) → byte_at new addr ≡ byte_at old addr
byte_if true old new start len addr from is out e =
    let both = and_parts (nat_le start addr) (nat_lt addr (start + len)) is in
    absurd (out (leb-true _ _ both.0) (ltb-true _ _ both.1))
byte_if false old new start len addr from is out e = e

write_keeps : (old now new : AddressSpace) (start len addr : ℕ) (from : List ℕ) → length from ≡ len → HasByteOf old addr now → written_at now start from ≡ Some new → (start ≤ addr → addr < start + len → ⊥) → HasByteOf old addr new
write_keeps old now new start len addr from is before e out =
    let far : start ≤ addr → addr < start + length from → ⊥ = λ low high. out low (omega (arith, is)) in
    record {
      sound = (follows_on now new before.sound (Writes now new start from e)).sound;
      byte = byte_if (nat_le start addr && nat_lt addr (start + length from)) now new start (length from) addr from refl far (written_bytes now new start from before.sound e addr) ∙ before.byte;
    }

relocation_writes : (modules : List Module) (source : Source) (base : ℕ) (old now : AddressSpace) (r : Relocation) (kind : Kind) (new : AddressSpace) (addr : ℕ) → (IsInWritableLoad (source, base) addr → ⊥)
    → HasByteOf old addr now → write_relocation modules source base now r kind ≡ Ok new → HasByteOf old addr new
unfolding write_relocation
relocation_writes modules source base old now r kind new addr out before e =
    bind_then (must (is_writable source.library.loads r.offset (width_of kind)) (source.number, parts.reloc_target, r.at)) _ new e (λ holds passed e1.
    bind_then (ok_or (value_for modules source.library.symbols kind r.symbol) (source.number, parts.unresolved, r.at + 8)) _ new e1 (λ symbol found e2.
    let target = must_ok (is_writable source.library.loads r.offset (width_of kind)) (source.number, parts.reloc_target, r.at) holds passed in
    let from : List ℕ = bytes_for kind base symbol (cast_unsigned w64 r.addend) in
    let wrote = ok_or_ok (written_at now (base + r.offset) from) (source.number, parts.reloc_target, r.at) new e2 in
    write_keeps old now new (base + r.offset) (width_of kind) addr from (length-bytes kind base symbol (cast_unsigned w64 r.addend)) before wrote
    (λ low high. out (inside source base r.offset (width_of kind) addr target low high))))

relocation_as : (modules : List Module) (source : Source) (base : ℕ) (old now : AddressSpace) (r : Relocation) (kind : Kind) (new : AddressSpace) (addr : ℕ) → (IsInWritableLoad (source, base) addr → ⊥)
    → HasByteOf old addr now → relocate_as modules source base now r kind ≡ Ok new → HasByteOf old addr new
relocation_as modules source base old now r Nothing new addr out before e = subst (HasByteOf old addr) (same_read now new e) before
relocation_as modules source base old now r Absolute32 new addr out before e = relocation_writes modules source base old now r Absolute32 new addr out before e
relocation_as modules source base old now r Absolute64 new addr out before e = relocation_writes modules source base old now r Absolute64 new addr out before e
relocation_as modules source base old now r Relative new addr out before e = relocation_writes modules source base old now r Relative new addr out before e
relocation_as modules source base old now r JumpSlot new addr out before e = relocation_writes modules source base old now r JumpSlot new addr out before e

relocation_keeps : (modules : List Module) (source : Source) (base : ℕ) (old : AddressSpace) (addr : ℕ) → (IsInWritableLoad (source, base) addr → ⊥)
    → (now : AddressSpace) (r : Relocation) (new : AddressSpace) → Unit {0} → HasByteOf old addr now → relocate modules source base now r ≡ Ok new → HasByteOf old addr new
unfolding relocate
relocation_keeps modules source base old addr out now r new any before e =
    bind_then (ok_or (kind_of r.kind) (source.number, parts.reloc_type, r.at + 8)) _ new e (λ kind found e1. relocation_as modules source base old now r kind new addr out before e1)

pub library_keeps : (modules : List Module) (old : AddressSpace) (addr : ℕ) (now : AddressSpace) (p : Source × ℕ) (new : AddressSpace) → (IsInWritableLoad p addr → ⊥) → HasByteOf old addr now → relocate_library modules now p ≡ Ok new
    → HasByteOf old addr new
unfolding relocate_library
library_keeps modules old addr now p new out before e =
    kept (HasByteOf old addr) (λ r. Unit {0}) (relocate modules p.0 p.1) (relocation_keeps modules p.0 p.1 old addr out) now p.0.library.relocations new (each_true p.0.library.relocations) before e
