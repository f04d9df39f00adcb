-- The type in a row of TypeSpec is the one at the end of its way.
use Rattle.std.proofs.Common.{◌≡◌, ℕ, zero, suc, ◌+◌, ◌-◌, ◌<◌, ◌≤◌, true, false, List, map, length, get_or, min, Option, Some, None, refl, sym, ap, ◌∙◌, inl, inr, arith}
use Rattle.std.specs.Prelude.{◌==◌, option_and_then}
use Rattle.std.specs.List.{range_with_len}
use Rattle.std.proofs.Math.ListN.{get_or-eq_default}
use Rattle.std.proofs.lemmas.Bool.{cases_lt, cases_Bool, lt-ltb, le-ltb, ne_eqb}
use Rattle.std.proofs.lemmas.List.FromFn.{length-map-range_with_len, get_or-map-range_with_len}
use Rattle.std.proofs.lemmas.Option.{slice_get_past}
use Rattle.managed_value.specs.declared.names.TypeId.{TypeId}
use Rattle.type_model.specs.declared.type_ids.Leaf.{Leaf}
use Rattle.type_model.specs.declared.type_ids.Leaf.TheVariants.{Core, Token}
use Rattle.type_model.specs.declared.ways.Way.{Way}
use Rattle.type_model.specs.Module.{Module, row_count, rows}
use Rattle.type_model.specs.Rows.{type_specs}
use Rattle.type_model.specs.TypeIds.{in_brackets, leaf, spec_sig_in, bracketed, leaf_type, named_within, is_type_spec, spec_leaf, spec_sig, token_row}
use Rattle.type_model.specs.Names.{spec_type, found_way, spec_way, spec_ways}
use Rattle.type_model.specs.Ways.{too_many, staying, way_from, joined, way_after}
use Rattle.type_model.proofs.Walks.{named_at_last}

-- brackets in brackets
fits : (n : ℕ) (id : TypeId) → id.arrays + n < too_many → in_brackets n id ≡ Some (record { base = id.base; arrays = id.arrays + n })
unfolding in_brackets
fits n id few = rw (lt-ltb (id.arrays + n) too_many few) refl

past : (n : ℕ) (id : TypeId) → too_many ≤ id.arrays + n → in_brackets n id ≡ None
unfolding in_brackets
past n id many = rw (le-ltb (id.arrays + n) too_many many) refl

in_both : (a b : ℕ) (id : TypeId) → option_and_then (in_brackets a) (in_brackets b id) ≡ in_brackets (min (a + b) too_many) id
in_both a b id =
    elim (cases_lt (id.arrays + b) too_many) [
      | inl few ↦
          let inner : TypeId = record { base = id.base; arrays = id.arrays + b } in
          ap (option_and_then (in_brackets a)) (fits b id few)
          ∙ elim (cases_lt (id.arrays + b + a) too_many) [
            | inl all ↦
                let sum : id.arrays + b + a ≡ id.arrays + min (a + b) too_many = omega arith in
                fits a inner all
                ∙ ap (λ (n : ℕ). let i : TypeId = record { base = id.base; arrays = n } in Some i) sum
                ∙ sym (fits (min (a + b) too_many) id (omega arith))
            | inr over ↦ past a inner over ∙ sym (past (min (a + b) too_many) id (omega arith))
          ]
      | inr many ↦
          ap (option_and_then (in_brackets a)) (past b id many)
          ∙ sym (past (min (a + b) too_many) id (omega arith))
    ]

in_both_if : (a b : ℕ) (id : Option TypeId) → option_and_then (in_brackets a) (option_and_then (in_brackets b) id) ≡ option_and_then (in_brackets (min (a + b) too_many)) id
in_both_if a b None = refl
in_both_if a b (Some id) = in_both a b id

pub too_many_brackets : (n : ℕ) (id : Option TypeId) → too_many ≤ n → option_and_then (in_brackets n) id ≡ None
too_many_brackets n None many = refl
too_many_brackets n (Some id) many = past n id (omega arith)

-- no more brackets
in_none : (n : ℕ) (id : TypeId) → option_and_then (in_brackets 0) (in_brackets n id) ≡ in_brackets n id
in_none n id =
    elim (cases_lt (id.arrays + n) too_many) [
      | inl few ↦
          let inner : TypeId = record { base = id.base; arrays = id.arrays + n } in
          let same : id.arrays + n + 0 ≡ id.arrays + n = omega arith in
          ap (option_and_then (in_brackets 0)) (fits n id few)
          ∙ fits 0 inner (omega arith)
          ∙ ap (λ (k : ℕ). let i : TypeId = record { base = id.base; arrays = k } in Some i) same
          ∙ sym (fits n id few)
      | inr many ↦ ap (option_and_then (in_brackets 0)) (past n id many) ∙ sym (past n id many)
    ]

in_none_if : (n : ℕ) (id : Option TypeId) → option_and_then (in_brackets 0) (option_and_then (in_brackets n) id) ≡ option_and_then (in_brackets n) id
in_none_if n None = refl
in_none_if n (Some id) = in_none n id

module _ (m : Module) where
  abbrev ways : List Way
  ways = spec_ways m

  -- the table says of each row, and of what is none, where it leads
  no_leaf : (s : ℕ) → row_count m type_specs < s → spec_leaf m s ≡ None
  unfolding spec_sig
  no_leaf zero above = absurd (omega arith)
  no_leaf (suc s) above =
      let back : suc s - 1 ≡ s = omega arith in
      let some : (suc s == 0) ≡ false = ne_eqb (suc s) 0 (λ none. omega arith) in
      rw (some, back) (ap (λ (numbers : Option (List ℕ)). option_and_then leaf (option_and_then (spec_sig_in m) numbers)) (slice_get_past (rows m type_specs) s (omega arith)))

  leads : (s : ℕ) → way_from ways s ≡ spec_way m s
  leads s =
      elim (cases_lt s (row_count m type_specs + 1)) [
        | inl within ↦ get_or-map-range_with_len (spec_way m) 0 (row_count m type_specs + 1) s s (staying s) within (omega arith)
        | inr above ↦
            get_or-eq_default ways (staying s) (omega (arith, length-map-range_with_len (spec_way m) 0 (row_count m type_specs + 1)))
            ∙ sym (ap (found_way m s) (no_leaf s (omega arith)))
      ]

  -- a row that leads to itself stays
  stays : (s : ℕ) → spec_way m s ≡ staying s → (n : ℕ) → way_after ways n s ≡ staying s
  unfolding way_after
  stays s is zero = refl
  stays s is (suc n) =
      ap (λ (w : Way). joined w (way_after ways n w.to)) (leads s ∙ is) ∙ ap (joined (staying s)) (stays s is n)

  -- what is told of a way of so many steps
  abbrev Told : ℕ → ℕ → Type 0
  Told n s = spec_type n m s
      ≡ option_and_then (in_brackets (way_after ways n s).brackets) (spec_type 0 m (way_after ways n s).to)

  -- the type in a row, by what stands in its brackets
  abbrev found_type : ℕ → Option (ℕ × Leaf) → Option TypeId
  found_type n found = option_and_then (bracketed (named_within n m)) found

  none_more : (s : ℕ) (found : Option (ℕ × Leaf)) → option_and_then (in_brackets 0) (found_type 0 found) ≡ found_type 0 found
  none_more s None = refl
  none_more s (Some found) = in_none_if found.0 (leaf_type (named_within 0 m) found.1)

  -- a row that leads to itself has the same type through any number of rows
  told_here : (n s : ℕ) → spec_way m s ≡ staying s → found_type n (spec_leaf m s) ≡ found_type 0 (spec_leaf m s) → Told n s
  told_here n s is same =
      same
      ∙ sym (none_more s (spec_leaf m s))
      ∙ sym (ap (λ (w : Way). option_and_then (in_brackets w.brackets) (spec_type 0 m w.to)) (stays s is n))

  plain : (n token : ℕ) → is_type_spec m token ≡ false → named_within n m token ≡ named_within 0 m token
  unfolding named_within
  plain n token other = named_at_last m n token other ∙ refl

  next_row : (n token : ℕ) → is_type_spec m token ≡ true → named_within (suc n) m token ≡ spec_type n m (token_row token)
  unfolding named_within
  next_row n token is = rw is refl

  onwards : (n : ℕ) → ((s : ℕ) → Told n s) → (s brackets token : ℕ) → spec_leaf m s ≡ Some (brackets, Token token) → is_type_spec m token ≡ true → Told (suc n) s
  unfolding way_after
  onwards n told s brackets token is spec =
      let to : ℕ = token_row token in
      let first : Way = record { to = to; brackets = brackets } in
      let rest : Way = way_after ways n to in
      let leads_on : way_from ways s ≡ first = leads s ∙ ap (found_way m s) is ∙ rw spec refl in
      ap (found_type (suc n)) is
      ∙ ap (option_and_then (in_brackets brackets)) (next_row n token spec ∙ told to)
      ∙ in_both_if brackets rest.brackets (spec_type 0 m rest.to)
      ∙ sym (ap (λ (w : Way). option_and_then (in_brackets (joined w (way_after ways n w.to)).brackets) (spec_type 0 m (joined w (way_after ways n w.to)).to)) leads_on)

  told_by : (n : ℕ) → ((s : ℕ) → Told n s) → (s : ℕ) (found : Option (ℕ × Leaf)) → spec_leaf m s ≡ found → Told (suc n) s
  told_by n told s None is =
      told_here (suc n) s (ap (found_way m s) is) (ap (found_type (suc n)) is ∙ sym (ap (found_type 0) is))
  told_by n told s (Some (brackets, Core id)) is =
      told_here (suc n) s (ap (found_way m s) is) (ap (found_type (suc n)) is ∙ sym (ap (found_type 0) is))
  told_by n told s (Some (brackets, Token token)) is =
      elim (cases_Bool (is_type_spec m token)) [
        | inl spec ↦ onwards n told s brackets token is spec
        | inr other ↦
            told_here (suc n) s
            (ap (found_way m s) is ∙ rw other refl)
            (ap (found_type (suc n)) is ∙ ap (option_and_then (in_brackets brackets)) (plain (suc n) token other) ∙ sym (ap (found_type 0) is))
      ]

  pub told : (n s : ℕ) → Told n s
  unfolding way_after
  told zero s = sym (none_more s (spec_leaf m s))
  told (suc n) s = told_by n (told n) s (spec_leaf m s) refl

  module _ (table all : List Way) (steps : ℕ) (are : table ≡ ways) (after : all ≡ map (way_after table steps) (range_with_len 0 (length table))) where
    pub all_there : length all ≡ row_count m type_specs + 1
    all_there =
        ap length after
        ∙ length-map-range_with_len (way_after table steps) 0 (length table)
        ∙ ap length are
        ∙ length-map-range_with_len (spec_way m) 0 (row_count m type_specs + 1)

    -- what the end of a row's way tells is what the row names
    pub one_named : (k : ℕ) (d : Way) (id : Option TypeId) → steps ≡ row_count m type_specs - 1 → k < row_count m type_specs
        → id ≡ option_and_then (in_brackets (get_or all (k + 1) d).brackets) (spec_type 0 m (get_or all (k + 1) d).to)
        → id ≡ spec_type (row_count m type_specs - 1) m (k + 1)
    one_named k d id so_many within is =
        let size : length table ≡ row_count m type_specs + 1 = ap length are ∙ length-map-range_with_len (spec_way m) 0 (row_count m type_specs + 1) in
        let here : get_or all (k + 1) d ≡ way_after ways (row_count m type_specs - 1) (k + 1) =
        ap (λ (l : List Way). get_or l (k + 1) d) after
        ∙ get_or-map-range_with_len (way_after table steps) 0 (length table) (k + 1) (k + 1) d (omega arith) (omega arith)
        ∙ ap (λ (l : List Way). way_after l steps (k + 1)) are
        ∙ ap (λ (n : ℕ). way_after ways n (k + 1)) so_many in
        is
        ∙ ap (λ (w : Way). option_and_then (in_brackets w.brackets) (spec_type 0 m w.to)) here
        ∙ sym (told (row_count m type_specs - 1) (k + 1))

pub ways_few : (m : Module) (table : List Way) → table ≡ spec_ways m → row_count m type_specs < too_many → length table ≤ too_many
ways_few m table are few =
    let size : length table ≡ row_count m type_specs + 1 = ap length are ∙ length-map-range_with_len (spec_way m) 0 (row_count m type_specs + 1) in
    omega arith
