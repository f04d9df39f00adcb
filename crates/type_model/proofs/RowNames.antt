-- What rows name, as lists for all rows.
use Rattle.std.proofs.Common.{◌≡◌, ℕ, zero, suc, ◌+◌, ◌-◌, ◌≤◌, true, false, List, [], ◌∷◌, ◌++◌, map, get_or, Option, None, refl, sym, ap, ◌∙◌, arith}
use Rattle.std.specs.Prelude.{◌==◌, ◌&&◌, nat_le, nat_lt}
use Rattle.std.specs.List.{range_with_len}
use Rattle.std.proofs.lemmas.Bool.{and_parts, leb-true}
use Rattle.std.proofs.lemmas.List.FromFn.{map-range_with_len_more, get_or-map-range_with_len}
use Rattle.managed_value.specs.declared.names.TypeId.{TypeId}
use Rattle.type_model.specs.Module.{Module, row_count}
use Rattle.type_model.specs.Rows.{type_refs, type_specs}
use Rattle.type_model.specs.TypeIds.{type_ref, is_row, named, named_within, named_plainly, is_type_spec, token_table, token_row}
use Rattle.type_model.specs.Names.{ref_names, spec_type, spec_names}
use Rattle.type_model.proofs.Walks.{named_at_last}

pub one_more : {A : Type 0} (f : ℕ → A) (n : ℕ) → map f (range_with_len 1 (n + 1)) ≡ map f (range_with_len 1 n) ++ f (n + 1) ∷ []
one_more f n = map-range_with_len_more f 1 n (n + 1) (omega arith)

-- what stands for a row
pub listed : (f : ℕ → Option TypeId) (count row : ℕ) → 1 ≤ row → row ≤ count → get_or (map f (range_with_len 1 count)) (row - 1) None ≡ f row
listed f count row above within = get_or-map-range_with_len f 1 count (row - 1) row None (omega arith) (omega arith)

module _ (m : Module) (table n : ℕ) (there : is_row m table n ≡ true) where
  pub row_above : 1 ≤ n
  row_above =
      let both = (and_parts (nat_le 1 n && nat_le n (row_count m table)) (nat_lt n 0x01000000) there).0 in
      leb-true 1 n (and_parts (nat_le 1 n) (nat_le n (row_count m table)) both).0

  pub row_within : n ≤ row_count m table
  row_within =
      let both = (and_parts (nat_le 1 n && nat_le n (row_count m table)) (nat_lt n 0x01000000) there).0 in
      leb-true n (row_count m table) (and_parts (nat_le 1 n) (nat_le n (row_count m table)) both).1

pub ref_listed : (m : Module) (refs : List (Option TypeId)) (row : ℕ) → refs ≡ ref_names m → is_row m type_refs row ≡ true
    → get_or refs (row - 1) None ≡ type_ref m row
ref_listed m refs row are there =
    ap (λ (l : List (Option TypeId)). get_or l (row - 1) None) are
    ∙ listed (type_ref m) (row_count m type_refs) row (row_above m type_refs row there) (row_within m type_refs row there)

module _ (m : Module) (token : ℕ) where
  pub named_without : is_type_spec m token ≡ false → named m token ≡ named_plainly m token
  unfolding named
  named_without other = named_at_last m (row_count m type_specs) token other

  through : (n : ℕ) → 1 ≤ n → is_type_spec m token ≡ true → named_within n m token ≡ spec_type (n - 1) m (token_row token)
  unfolding named_within
  through zero above is = absurd (omega arith)
  through (suc n) above is = let back : suc n - 1 ≡ n = omega arith in rw (is, back) refl

  pub named_by_spec : (specs : List (Option TypeId)) → specs ≡ spec_names m → is_type_spec m token ≡ true
      → get_or specs (token_row token - 1) None ≡ named m token
  unfolding named
  named_by_spec specs are is =
      let there : is_row m type_specs (token_row token) ≡ true = (and_parts (token_table token == type_specs) (is_row m type_specs (token_row token)) is).1 in
      let above : 1 ≤ token_row token = row_above m type_specs (token_row token) there in
      let within : token_row token ≤ row_count m type_specs = row_within m type_specs (token_row token) there in
      ap (λ (l : List (Option TypeId)). get_or l (token_row token - 1) None) are
      ∙ listed (spec_type (row_count m type_specs - 1) m) (row_count m type_specs) (token_row token) above within
      ∙ sym (through (row_count m type_specs) (omega arith) is)
