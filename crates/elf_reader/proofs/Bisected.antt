-- The load that holds a range, found by bisection: loads lie apart, so that the first which doesn't end by the address is
-- the only one that may hold it.
use Rattle.std.proofs.Common.{◌≡◌, ℕ, ◌+◌, ◌^◌, ◌<◌, ◌≤◌, Bool, true, false, List, length, get_or, map, find, Some, None, option_map, Err, refl, sym, ap, ◌∙◌, inl, inr, arith}
use Rattle.std.specs.Prelude.{nat_le, ◌==◌, slice_range}
use Rattle.std.specs.List.Sorted.{IsPartitionPoint, IsNonDecreasingBy}
use Rattle.std.proofs.lemmas.Bool.{cases_lt, lt-leb, leb-true, leb-false, and_left, and_right, and_parts, ne_eqb}
use Rattle.byte_view.specs.ElfLoads.{holds_range, file_place, file_place_in, bytes_from}
use Rattle.byte_view.specs.ElfDynamic.{Entry}
use Rattle.byte_view.specs.ElfSymbols.{table_place}
use Rattle.elf_reader.specs.declared.elf.Load.{Load}
use Rattle.elf_reader.specs.Elf.{load_of}
use Rattle.elf_reader.specs.Loads.{AreSound, file_end}
use Rattle.elf_reader.proofs.Mapped.{find_mapped, find_there, find_none}

-- the loads end in order
pub ends_rise : (size : ℕ) (loads : List Load) → AreSound size loads → IsNonDecreasingBy file_end loads
ends_rise size loads sound i j d le h =
    elim (cases_lt i j) [
      | inl l ↦ (let apart = sound.apart i j d l h in omega arith)
      | inr g ↦ (let same : i ≡ j = omega arith in rw same (omega arith))
    ]

pub holds_from : (addr len : ℕ) (load : Load) → holds_range addr len (load_of load) ≡ true → load.vaddr ≤ addr
unfolding holds_range
holds_from addr len load e = leb-true load.vaddr addr (and_parts _ _ e).0

pub holds_to : (addr len : ℕ) (load : Load) → holds_range addr len (load_of load) ≡ true → addr + len ≤ load.vaddr + load.file_size
unfolding holds_range
holds_to addr len load e = leb-true (addr + len) (load.vaddr + load.file_size) (and_parts _ _ e).1

ends_before : (addr len : ℕ) (load : Load) → load.vaddr + load.file_size < addr + len → holds_range addr len (load_of load) ≡ false
unfolding holds_range
ends_before addr len load h = and_right _ _ (lt-leb (addr + len) (load.vaddr + load.file_size) h)

begins_behind : (addr len : ℕ) (load : Load) → addr < load.vaddr → holds_range addr len (load_of load) ≡ false
unfolding holds_range
begins_behind addr len load h = and_left _ _ (lt-leb load.vaddr addr h)

module _ (addr len : ℕ) where
  abbrev holds : Load → Bool
  holds load = holds_range addr len (load_of load)

  abbrev ends_by : Load → Bool
  ends_by load = nat_le (file_end load) addr

  abbrev Parts : List Load → ℕ → Type 0
  Parts loads i = IsPartitionPoint (λ load. ends_by load ≡ true) (λ load. ends_by load ≡ false) loads i

  before_it : (loads : List Load) (i k : ℕ) (d : Load) → 0 < len → Parts loads i → k < i → holds (get_or loads k d) ≡ false
  before_it loads i k d some parts h =
      let e = leb-true (file_end (get_or loads k d)) addr (parts.0 k d (omega arith) h) in
      ends_before addr len (get_or loads k d) (omega arith)

  behind_it : (size : ℕ) (loads : List Load) (i k : ℕ) (d : Load) → AreSound size loads → Parts loads i → i < k → k < length loads → holds (get_or loads k d) ≡ false
  behind_it size loads i k d sound parts l h =
      let e = leb-false (file_end (get_or loads i d)) addr (parts.1 i d (omega arith) (omega arith)) in
      let apart = sound.apart i k d l h in
      begins_behind addr len (get_or loads k d) (omega arith)

  -- the load at the place
  pub found : (size : ℕ) (loads : List Load) (i : ℕ) (d : Load) → 0 < len → Parts loads i → i < length loads → holds (get_or loads i d) ≡ true → find (holds_range addr len) (map load_of loads) ≡ Some (load_of (get_or loads i d))
  found size loads i d some parts h e =
      sym (find_mapped (holds_range addr len) load_of loads) ∙ ap (option_map load_of) (find_there holds loads i d h e (λ k l. before_it loads i k d some parts l))

  -- the load at the place doesn't hold the range, and so none does
  pub refused : (size : ℕ) (loads : List Load) (i : ℕ) → AreSound size loads → 0 < len → Parts loads i → ((d : Load) → i < length loads → holds (get_or loads i d) ≡ false) → find (holds_range addr len) (map load_of loads) ≡ None
  refused size loads i sound some parts e =
      sym (find_mapped (holds_range addr len) load_of loads) ∙ ap (option_map load_of) (find_none holds loads (λ k d h.
      elim (cases_lt k i) [
        | inl l ↦ before_it loads i k d some parts l
        | inr g ↦ elim (cases_lt i k) [
          | inl m ↦ behind_it size loads i k d sound parts m h
          | inr n ↦ (let same : k ≡ i = omega arith in rw same (e d (omega arith)))
        ]
      ]))

  -- no load reaches 2^32
  pub too_high : (size : ℕ) (loads : List Load) → AreSound size loads → 2 ^ 32 ≤ addr + len → find (holds_range addr len) (map load_of loads) ≡ None
  too_high size loads sound high =
      sym (find_mapped (holds_range addr len) load_of loads) ∙ ap (option_map load_of) (find_none holds loads (λ k d h.
      let low = sound.low k d h in
      ends_before addr len (get_or loads k d) (omega arith)))

-- no place, and no bytes, past 2^32
pub no_place : (addr len size : ℕ) (loads : List Load) → AreSound size loads → 2 ^ 32 ≤ addr + len → file_place (map load_of loads) addr len ≡ None
unfolding file_place
no_place addr len size loads sound high = ap (option_map (file_place_in addr)) (too_high addr len size loads sound high)

pub no_bytes : (addr : ℕ) (bytes : List ℕ) (loads : List Load) → AreSound (length bytes) loads → 2 ^ 32 ≤ addr → bytes_from bytes (map load_of loads) addr ≡ None
unfolding bytes_from
no_bytes addr bytes loads sound high =
    ap (option_map (λ load. slice_range bytes (file_place_in addr load) (load.file_at + load.file_size))) (too_high addr 1 (length bytes) loads sound (omega arith))

-- a table that would reach past 2^32 is refused at its entry's value
pub no_table : (part addr len size : ℕ) (loads : List Load) (entry : Entry) → AreSound size loads → 0 < len → 2 ^ 32 ≤ addr + len → table_place part (map load_of loads) entry addr len ≡ Err (part, entry.at + 8)
unfolding table_place
no_table part addr len size loads entry sound some high =
    let more : (len == 0) ≡ false = ne_eqb len 0 (λ e. omega arith) in
    rw (more, no_place addr len size loads sound high) refl
