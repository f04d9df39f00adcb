-- A number that is no row of TypeDef is a type that the table doesn't have.
use Rattle.std.proofs.Common.{◌≡◌, ℕ, zero, suc, ◌+◌, ◌-◌, ◌*◌, ◌<◌, ◌≤◌, false, List, [], map, slice_get, get_or, Option, Some, None, option_map, nat_le, nat_eq, inl, inr, refl, sym, ap, ◌∙◌, arith}
use Rattle.std.specs.List.{range_with_len, list_any}
use Rattle.std.proofs.lemmas.Bool.{cases_lt, ne_eqb}
use Rattle.std.proofs.lemmas.Bool.Decides.{nat_tests}
use Rattle.std.proofs.lemmas.Option.{slice_get_within, slice_get_past, slice_get-get_or, get_or_from_slice_get}
use Rattle.std.proofs.lemmas.List.FromFn.{get_or-map-range_with_len, length-map-range_with_len}
use Rattle.managed_value.specs.declared.names.TypeId.{TypeId}
use Rattle.type_model.specs.Module.{Module, cell, in_column, row, row_count, rows}
use Rattle.type_model.specs.Rows as Rows
use Rattle.type_model.specs.Core as core
use Rattle.type_model.specs.TypeIds.{coded_token, core_id, def_id, named, named_plainly, named_within, row_limit, same_type}
use Rattle.type_model.specs.Types.{and_bases, as_base, bases, bases_within, extends_of, is_below, is_delegate, is_handle, is_value_type}
use Rattle.stub_maker.specs.declared.kinds.Kind.{Kind}
use Rattle.stub_maker.specs.declared.kinds.Kind.TheVariants as kind
use Rattle.stub_maker.specs.Described.{AreKinds, file_kind}

-- row 0 of TypeDef names nothing
nothing_named : (m : Module) (n : ℕ) → named_within n m (2 * row_limit) ≡ None
unfolding named_within named_plainly
nothing_named m zero = refl
nothing_named m (suc n) = refl

module _ (m : Module) (t : ℕ) (below : t < row_limit) (none : row m Rows.type_defs t ≡ None) where
  no_core : nat_le row_limit t ≡ false
  no_core = grind (arith, nat_tests)

  extends_nothing : extends_of m (def_id t) ≡ None
  unfolding extends_of cell named
  extends_nothing =
      rw no_core
      (ap (λ (r : Option (List ℕ)). option_map as_base (named m (coded_token (in_column 3 r)))) none
      ∙ ap (option_map as_base) (nothing_named m (row_count m Rows.type_specs)))

  no_bases : (n : ℕ) → bases_within n m (def_id t) ≡ []
  unfolding bases_within
  no_bases zero = refl
  no_bases (suc n) = ap (and_bases (bases_within n m)) extends_nothing

  below_nothing : (base : TypeId) → is_below m (def_id t) base ≡ false
  unfolding is_below bases
  below_nothing base = ap (list_any (same_type base)) (no_bases (row_count m Rows.type_defs + core.core_count))

  no_value_type : is_value_type m (def_id t) ≡ false
  unfolding is_value_type
  no_value_type = rw (below_nothing (core_id core.value_type_place)) refl

  no_delegate : is_delegate m (def_id t) ≡ false
  unfolding is_delegate
  no_delegate = rw (no_core, below_nothing (core_id core.delegate_place)) refl

  no_handle : is_handle m (def_id t) ≡ false
  unfolding is_handle
  no_handle =
      let other : nat_eq (row_limit + core.safe_handle_place) t ≡ false = ne_eqb (row_limit + core.safe_handle_place) t (λ same. omega arith) in
      rw (other, below_nothing (core_id core.safe_handle_place)) refl

  pub rowless : file_kind m t ≡ kind.Other
  rowless = rw (below_nothing (core_id core.enum_place), no_value_type, no_delegate, no_handle) refl

none_some : {A : Type 0} {a : A} → None ≡ Some a → ⊥
none_some e = cc

module _ (m : Module) (kinds : List Kind) (base : ℕ) (are : AreKinds m kinds) (from_one : 0 < base) where
  -- a kind in the list is that of the row
  pub kind_listed : (k : Kind) → slice_get kinds (base - 1) ≡ Some k → k ≡ file_kind m base
  kind_listed k is =
      let at : slice_get (map (file_kind m) (range_with_len 1 (row_count m Rows.type_defs))) (base - 1) ≡ Some k = ap (λ (l : List Kind). slice_get l (base - 1)) (sym are) ∙ is in
      let within : base - 1 < row_count m Rows.type_defs = omega (arith, slice_get_within (map (file_kind m) (range_with_len 1 (row_count m Rows.type_defs))) (base - 1) k at, length-map-range_with_len (file_kind m) 1 (row_count m Rows.type_defs)) in
      sym (get_or_from_slice_get (map (file_kind m) (range_with_len 1 (row_count m Rows.type_defs))) (base - 1) k k at) ∙ get_or-map-range_with_len (file_kind m) 1 (row_count m Rows.type_defs) (base - 1) base k within (omega arith)

  -- a number past its end is no row
  pub kind_unlisted : base < row_limit → slice_get kinds (base - 1) ≡ None → kind.Other ≡ file_kind m base
  kind_unlisted below is =
      let n : ℕ = row_count m Rows.type_defs in
      let list : List Kind = map (file_kind m) (range_with_len 1 n) in
      let at : slice_get list (base - 1) ≡ None = ap (λ (l : List Kind). slice_get l (base - 1)) (sym are) ∙ is in
      let past : n ≤ base - 1 =
      elim (cases_lt (base - 1) n) [
        | inl within ↦
            let listed : slice_get list (base - 1) ≡ Some (get_or list (base - 1) kind.Other) =
            slice_get-get_or list (base - 1) kind.Other (omega (arith, within, length-map-range_with_len (file_kind m) 1 n)) in
            absurd (none_some (sym at ∙ listed))
        | inr past ↦ past
      ] in
      let none : row m Rows.type_defs base ≡ None =
      rw (ne_eqb base 0 (λ zero. omega arith)) (slice_get_past (rows m Rows.type_defs) (base - 1) past) in
      sym (rowless m base below none)

pub kind_of_zero : (m : Module) → kind.Other ≡ file_kind m 0
kind_of_zero m = sym (rowless m 0 (omega arith) refl)
