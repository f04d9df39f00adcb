-- The one load that may have a relocation's target, found by bisection: the first that doesn't end by it.
use Rattle.std.proofs.Common.{◌≡◌, ◌≢◌, ℕ, zero, suc, ◌+◌, ◌<◌, ◌≤◌, Bool, true, false, ◌||◌, List, [], ◌∷◌, length, get_or, map, Some, option_map, refl, sym, ap, ◌∙◌, inl, inr, subst, arith}
use Rattle.std.specs.Prelude.{nat_le, slice_get}
use Rattle.std.specs.List.{list_any}
use Rattle.std.specs.List.Sorted.{IsNonDecreasingBy, IsPartitionPoint}
use Rattle.std.proofs.lemmas.Bool.{cases_lt, lt-leb, leb-true, leb-false, and_left, and_right}
use Rattle.std.proofs.lemmas.List.{length-map}
use Rattle.std.proofs.lemmas.Option.{same_Some, slice_get_within, slice_get-get_or, slice_get-map}
use Rattle.byte_view.specs.ElfLoads.{Load, end_of}
use Rattle.byte_view.specs.ElfLaws.{LoadsLieApart}
use Rattle.elf_reader.specs.declared.elf.Load as read
use Rattle.elf_reader.specs.Elf.{load_of}
use Rattle.elf_binder.specs.Relocating.{is_target, is_writable}
use Rattle.elf_binder.specs.Sources.{load_end}

-- ---- a list of which one element may pass

any_none : {A : Type 0} (test : A → Bool) (xs : List A) → ((k : ℕ) (y : A) → slice_get xs k ≡ Some y → test y ≡ false) → list_any test xs ≡ false
any_none test [] fails = refl
any_none test (x ∷ xs) fails = rw (fails 0 x refl) (any_none test xs (λ k y is. fails (suc k) y is))

or_false : (b : Bool) → (b || false) ≡ b
or_false true = refl
or_false false = refl

any_only : {A : Type 0} (test : A → Bool) (xs : List A) (i : ℕ) (x : A) → slice_get xs i ≡ Some x → ((k : ℕ) (y : A) → k ≢ i → slice_get xs k ≡ Some y → test y ≡ false) → list_any test xs ≡ test x
any_only test [] i x is others = absurd (cc)
any_only test (y ∷ ys) zero x is others =
    let same : y ≡ x = cc in
    let none : list_any test ys ≡ false = any_none test ys (λ k z there. others (suc k) z (λ e. absurd (omega arith)) there) in
    rw (none, same) (or_false (test x))
any_only test (y ∷ ys) (suc i) x is others =
    rw (others 0 y (λ e. absurd (omega arith)) refl) (any_only test ys i x is (λ k z other there. others (suc k) z (λ e. other (omega arith)) there))

-- ---- loads that lie apart

load_at : (loads : List read.Load) (k : ℕ) (d : read.Load) → k < length loads → slice_get (map load_of loads) k ≡ Some (load_of (get_or loads k d))
load_at loads k d within = slice_get-map load_of loads k ∙ ap (option_map load_of) (slice_get-get_or loads k d within)

within : (loads : List read.Load) (k : ℕ) (y : Load) → slice_get (map load_of loads) k ≡ Some y → k < length loads
within loads k y is = omega (arith, slice_get_within (map load_of loads) k y is, length-map loads load_of)

load_there : (loads : List read.Load) (k : ℕ) (d : read.Load) (y : Load) → slice_get (map load_of loads) k ≡ Some y → load_of (get_or loads k d) ≡ y
load_there loads k d y is = same_Some _ _ (sym (load_at loads k d (within loads k y is)) ∙ is)

pub ends_rise : (file : List ℕ) (loads : List read.Load) → LoadsLieApart file (map load_of loads) → IsNonDecreasingBy load_end loads
ends_rise file loads apart i j d le h =
    elim (cases_lt i j) [
      | inl l ↦ (let behind = apart.apart i j (load_of (get_or loads i d)) (load_of (get_or loads j d)) l (load_at loads i d (omega arith)) (load_at loads j d h) in omega (arith, behind))
      | inr g ↦ (let same : i ≡ j = omega arith in rw same (omega arith))
    ]

ends_before : (at len : ℕ) (load : Load) → 0 < len → end_of load ≤ at → is_target at len load ≡ false
ends_before at len load some h = and_right _ _ (lt-leb (at + len) (load.vaddr + load.size) (omega arith))

begins_behind : (at len : ℕ) (load : Load) → at < load.vaddr → is_target at len load ≡ false
begins_behind at len load h = and_left _ _ (and_right _ _ (lt-leb load.vaddr at h))

module _ (file : List ℕ) (loads : List read.Load) (at len i : ℕ) where
  abbrev Parts : Type 0
  Parts = IsPartitionPoint (λ load. nat_le (load_end load) at ≡ true) (λ load. nat_le (load_end load) at ≡ false) loads i

  before_it : (k : ℕ) (d : read.Load) (y : Load) → 0 < len → Parts → k < i → slice_get (map load_of loads) k ≡ Some y → is_target at len y ≡ false
  before_it k d y some parts l is =
      let ends = leb-true (load_end (get_or loads k d)) at (parts.0 k d (omega arith) l) in
      subst (λ (y : Load). is_target at len y ≡ false) (load_there loads k d y is) (ends_before at len (load_of (get_or loads k d)) some ends)

  behind_it : (k : ℕ) (d : read.Load) (y : Load) → LoadsLieApart file (map load_of loads) → Parts → i < k → slice_get (map load_of loads) k ≡ Some y → is_target at len y ≡ false
  behind_it k d y apart parts l is =
      let inside = within loads k y is in
      let ends = leb-false (load_end (get_or loads i d)) at (parts.1 i d (omega arith) (omega arith)) in
      let first = load_at loads i d (omega arith) in
      begins_behind at len y (omega (arith, ends, apart.apart i k (load_of (get_or loads i d)) y l first is))

  -- the load at the place decides
  pub it_decides : (d : read.Load) → LoadsLieApart file (map load_of loads) → 0 < len → Parts → i < length loads → is_writable (map load_of loads) at len ≡ is_target at len (load_of (get_or loads i d))
  unfolding is_writable
  it_decides d apart some parts h =
      any_only (is_target at len) (map load_of loads) i (load_of (get_or loads i d)) (load_at loads i d h) (λ k y other is.
      elim (cases_lt k i) [
        | inl l ↦ before_it k d y some parts l is
        | inr g ↦ elim (cases_lt i k) [
          | inl m ↦ behind_it k d y apart parts m is
          | inr n ↦ absurd (other (omega arith))
        ]
      ])

  -- all end by it
  pub none_has_it : (d : read.Load) → 0 < len → Parts → length loads ≤ i → is_writable (map load_of loads) at len ≡ false
  unfolding is_writable
  none_has_it d some parts h =
      any_none (is_target at len) (map load_of loads) (λ k y is. let inside = within loads k y is in before_it k d y some parts (omega arith) is)
