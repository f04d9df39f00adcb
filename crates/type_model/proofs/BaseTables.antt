-- The table of what types extend tells of each type of a file whether it is a value type.
use Rattle.std.proofs.Common.{◌≡◌, ◌≢◌, ℕ, zero, suc, ◌+◌, ◌-◌, ◌*◌, ◌<◌, ◌≤◌, ◌⊎◌, inl, inr, Bool, true, false, ◌||◌, ◌&&◌, List, ◌∷◌, map, length, get_or, min, Option, Some, None, refl, sym, ap, ◌∙◌, subst, arith, add-one}
use Rattle.std.specs.Prelude.{◌==◌, nat_lt, option_map, option_and_then, if◌then◌else◌}
use Rattle.std.specs.List.{range_with_len, list_any}
use Rattle.std.proofs.Math.ListN.{get_or-eq_default, get_or-map}
use Rattle.std.proofs.lemmas.Bool.{cases_lt, cases_Bool, eq-eqb, ne_eqb, eqb-true, le-leb, lt-leb, and_parts, and_from, and_left, both_ways, cond_both}
use Rattle.std.proofs.lemmas.List.{get_or_default, get_or_append_left, get_or-append_right, length-map, length-append}
use Rattle.std.proofs.lemmas.List.FromFn.{length-range_with_len, length-map-range_with_len, get_or-map-range_with_len}
use Rattle.std.proofs.lemmas.Option.{slice_get_past}
use Rattle.graph_cycles.specs.Chains.{next_in, after}
use Rattle.managed_value.specs.declared.names.TypeId.{TypeId}
use Rattle.type_model.specs.Module.{Module, row, row_count, cell, rows}
use Rattle.type_model.specs.Rows.{type_defs, type_specs, type_extends}
use Rattle.type_model.specs.Core as core
use Rattle.type_model.specs.TypeIds.{row_limit, is_core, core_id, def_id, same_type, named, named_within, named_plainly, coded_token}
use Rattle.type_model.specs.Types.{extends_of, as_base, and_bases, bases_within, bases, is_below}
use Rattle.type_model.specs.BaseTable.{nothing, number_of, number_if, place_or_nothing, extended_place, after_core, after_cores, table_of, extends_list, TellsBelow}

-- a node that leads to itself stays
stays : (table : List ℕ) (node : ℕ) → next_in table node ≡ node → (steps : ℕ) → after table steps node ≡ node
unfolding after
stays table node is zero = refl
stays table node is (suc steps) = ap (after table steps) is ∙ stays table node is steps

number_core : (place : ℕ) → number_of (core_id place) ≡ min place nothing
number_core place =
    rw (le-leb row_limit (row_limit + place) (omega arith)) (omega arith)

number_file : (t : ℕ) → t < row_limit → number_of (def_id t) ≡ nothing + t
number_file t small = rw (lt-leb row_limit t small)

number_of_extended : (known : Option core.CoreType)
    → number_if (option_map core_id (option_and_then (λ (k : core.CoreType). k.extends) known)) ≡ extended_place known
number_of_extended None = refl
number_of_extended (Some known) = number_of_place known.extends
  where
    number_of_place : (place : Option ℕ) → number_if (option_map core_id place) ≡ place_or_nothing place
    number_of_place None = refl
    number_of_place (Some place) = number_core place

no_core : (place : ℕ) → nothing ≤ place → core.core_at place ≡ None
unfolding core.core_at core.core_types
no_core place past = slice_get_past core.core_types place past

extends_core : (m : Module) (place : ℕ)
    → extends_of m (core_id place) ≡ option_map core_id (option_and_then (λ (k : core.CoreType). k.extends) (core.core_at place))
unfolding extends_of
extends_core m place =
    let known : is_core (row_limit + place) ≡ true = le-leb row_limit (row_limit + place) (omega arith) in
    let back : row_limit + place - row_limit ≡ place = omega arith in
    rw (known, back)

and_true : (b : Bool) → (b && true) ≡ b
and_true true = refl
and_true false = refl

base_of : (base : ℕ) → row_limit ≤ base → row_limit + (base - row_limit) ≡ base
base_of base above = omega arith

-- a type that isn't the core type of a place has another number
module _ (last : ℕ) (small : last < nothing) where
  not_place : (id : TypeId) → id.arrays ≡ 0 → same_type (core_id last) id ≡ false → id.base ≢ row_limit + last
  not_place id plain other same =
      both_ways _ other (and_from (row_limit + last == id.base) (0 == id.arrays) (eq-eqb (row_limit + last) id.base (sym same)) (eq-eqb 0 id.arrays (sym plain)))

  not_last : (id : TypeId) → id.arrays ≡ 0 → same_type (core_id last) id ≡ false → number_of id ≢ last
  not_last id plain other is =
      elim (cases_lt id.base row_limit) [
        | inl file ↦
            let number : number_of id ≡ nothing + id.base = number_file id.base file in
            omega arith
        | inr known ↦
            let number : number_of id ≡ min (id.base - row_limit) nothing =
            ap (λ (b : Bool). let n : ℕ = if b then min (id.base - row_limit) nothing else nothing + id.base in n) (le-leb row_limit id.base known) in
            not_place id plain other (omega arith)
      ]

  number_of_last : (id : TypeId) → same_type (core_id last) id ≡ true → number_of id ≡ last
  number_of_last id is =
      let base : row_limit + last ≡ id.base = eqb-true (row_limit + last) id.base (and_parts (row_limit + last == id.base) (0 == id.arrays) is).0 in
      let number : number_of id ≡ min (id.base - row_limit) nothing =
      ap (λ (b : Bool). let n : ℕ = if b then min (id.base - row_limit) nothing else nothing + id.base in n) (le-leb row_limit id.base (omega arith)) in
      omega arith

-- what a type extends is no array
PlainIf : Option TypeId → Type 0
PlainIf None = Unit {0}
PlainIf (Some id) = id.arrays ≡ 0

plain_array : PlainIf (Some (core_id core.array_place))
unfolding PlainIf
plain_array = refl

plain_core : (place : Option ℕ) → PlainIf (option_map core_id place)
unfolding PlainIf
plain_core None = tt
plain_core (Some place) = refl

plain_as_base : (id : Option TypeId) → PlainIf (option_map as_base id)
unfolding PlainIf
plain_as_base None = tt
plain_as_base (Some id) =
    cond_both (id.arrays == 0) id (core_id core.array_place) (λ (i : TypeId). i.arrays ≡ 0) (λ none. eqb-true id.arrays 0 none) (λ some. refl)

plain_choice : (array known : Bool) (place : Option ℕ) (id : Option TypeId)
    → PlainIf (if array then Some (core_id core.array_place) else if known then option_map core_id place else option_map as_base id)
plain_choice true known place id = plain_array
plain_choice false true place id = plain_core place
plain_choice false false place id = plain_as_base id

plain_base : (m : Module) (id : TypeId) → PlainIf (extends_of m id)
unfolding extends_of
plain_base m id =
    plain_choice (nat_lt 0 id.arrays) (is_core id.base)
    (option_and_then (λ (known : core.CoreType). known.extends) (core.core_at (id.base - row_limit)))
    (named m (coded_token (type_extends m id.base)))

module _ (m : Module) where
  abbrev all : ℕ
  all = row_count m type_defs

  pub list_length : length (extends_list m) ≡ all
  list_length = length-map-range_with_len (λ (t : ℕ). extends_of m (def_id t)) 1 all

  lacks : (t : ℕ) → all < t → row m type_defs t ≡ None
  lacks t above =
      let some : (t == 0) ≡ false = ne_eqb t 0 (λ none. omega arith) in
      rw some (slice_get_past (rows m type_defs) (t - 1) (omega arith))

  -- no token of row 0 names anything
  nothing_named : (n : ℕ) → named_within n m (2 * row_limit) ≡ None
  unfolding named_within named_plainly
  nothing_named zero = refl
  nothing_named (suc n) = refl

  no_row : (t : ℕ) → t < row_limit → row m type_defs t ≡ None → extends_of m (def_id t) ≡ None
  unfolding extends_of cell named
  no_row t small none =
      let no_core : is_core t ≡ false = lt-leb row_limit t small in
      rw (no_core, none) (ap (option_map as_base) (nothing_named (row_count m type_specs)))

module _ (m : Module) (last : ℕ) (small : last < nothing) where
  abbrev count : ℕ
  count = row_count m type_defs

  abbrev table : List ℕ
  table = table_of last (extends_list m)

  cores_length : length (after_cores last) ≡ nothing
  unfolding after_cores
  cores_length = length-map-range_with_len (after_core last) 0 nothing

  in_cores : (place : ℕ) → place < nothing → get_or (after_cores last) place place ≡ after_core last place
  unfolding after_cores
  in_cores place below = get_or-map-range_with_len (after_core last) 0 nothing place place place below (omega arith)

  at_core : (place : ℕ) → place < nothing → next_in table place ≡ after_core last place
  at_core place below =
      get_or_append_left (after_cores last) (nothing ∷ map number_if (extends_list m)) place place (omega (arith, cores_length))
      ∙ in_cores place below

  past_cores : (node : ℕ) → nothing ≤ node → next_in table node ≡ get_or (nothing ∷ map number_if (extends_list m)) (node - nothing) node
  past_cores node above = get_or-append_right (after_cores last) (nothing ∷ map number_if (extends_list m)) nothing node node cores_length above

  at_nothing : next_in table nothing ≡ nothing
  at_nothing = past_cores nothing (omega arith)

  row_at : (k node : ℕ) → k < count → get_or (map number_if (extends_list m)) k node ≡ number_if (extends_of m (def_id (k + 1)))
  row_at k node below =
      get_or_default (map number_if (extends_list m)) k node nothing (rw (length-map (extends_list m) number_if, list_length m) below)
      ∙ get_or-map number_if (extends_list m) k None
      ∙ ap number_if (get_or-map-range_with_len (λ (t : ℕ). extends_of m (def_id t)) 1 count k (k + 1) None below (omega arith))

  at_row : (k : ℕ) → k < count → next_in table (nothing + (k + 1)) ≡ number_if (extends_of m (def_id (k + 1)))
  at_row k below =
      let place : nothing + (k + 1) - nothing ≡ suc k = omega arith in
      past_cores (nothing + (k + 1)) (omega arith)
      ∙ ap (λ (i : ℕ). get_or (nothing ∷ map number_if (extends_list m)) i (nothing + (k + 1))) place
      ∙ row_at k (nothing + (k + 1)) below

  table_length : length table ≡ nothing + suc count
  table_length = simp (length-append, cores_length, length-map) (omega (arith, length-range_with_len 1 count))

  past : (t : ℕ) → count < t → next_in table (nothing + t) ≡ nothing + t
  past t above = get_or-eq_default table (nothing + t) (omega (arith, table_length))

  -- what a step leads to: what the type extends, or nowhere, where it extends nothing
  abbrev Step : TypeId → ℕ → Type 0
  Step id number = (next_in table number ≡ number_if (extends_of m id))
      ⊎ ((extends_of m id ≡ None) × (next_in table number ≡ number))

  core_step : (place : ℕ) → place ≢ last → Step (core_id place) (min place nothing)
  core_step place other =
      elim (cases_lt place nothing) [
        | inl below ↦
            let number : min place nothing ≡ place = omega arith in
            let plain : after_core last place ≡ extended_place (core.core_at place) = rw (ne_eqb place last other) in
            inl (ap (next_in table) number ∙ at_core place below ∙ plain ∙ sym (ap number_if (extends_core m place) ∙ number_of_extended (core.core_at place)))
        | inr past ↦
            let number : min place nothing ≡ nothing = omega arith in
            inr (
              extends_core m place ∙ ap (λ (known : Option core.CoreType). option_map core_id (option_and_then (λ (k : core.CoreType). k.extends) known)) (no_core place past),
              ap (next_in table) number ∙ at_nothing ∙ sym number,
            )
      ]

  file_step : (t : ℕ) → t < row_limit → Step (def_id t) (nothing + t)
  file_step zero small = inr (no_row m zero small refl, at_nothing)
  file_step (suc k) small =
      elim (cases_lt k count) [
        | inl below ↦ inl (subst (λ (n : ℕ). next_in table (nothing + n) ≡ number_if (extends_of m (def_id n))) (add-one k) (at_row k below))
        | inr above ↦ inr (no_row m (suc k) small (lacks m (suc k) (omega arith)), past (suc k) (omega arith))
      ]

  step : (id : TypeId) → id.arrays ≡ 0 → same_type (core_id last) id ≡ false → Step id (number_of id)
  step id plain other =
      elim (cases_lt id.base row_limit) [
        | inl file ↦
            let is : def_id id.base ≡ id = ap (λ (n : ℕ). let i : TypeId = record { base = id.base; arrays = n } in i) (sym plain) in
            subst (λ (i : TypeId). Step i (number_of i)) is (subst (Step (def_id id.base)) (sym (number_file id.base file)) (file_step id.base file))
        | inr known ↦
            let place : ℕ = id.base - row_limit in
            let is : core_id place ≡ id =
            ap (λ (n : ℕ). let i : TypeId = record { base = n; arrays = 0 } in i) (base_of id.base known)
            ∙ ap (λ (n : ℕ). let i : TypeId = record { base = id.base; arrays = n } in i) (sym plain) in
            let elsewhere : place ≢ last = λ same. not_place last small id plain other (sym (base_of id.base known) ∙ ap (λ (n : ℕ). row_limit + n) same) in
            subst (λ (i : TypeId). Step i (number_of i)) is (subst (Step (core_id place)) (sym (number_core place)) (core_step place elsewhere))
      ]

  absorbs : after_core last last ≡ last
  absorbs = rw (eq-eqb last last refl) refl

  -- where a base leads, if this is known of each type
  follow : (steps : ℕ)
      → ((id : TypeId) → id.arrays ≡ 0 → same_type (core_id last) id ≡ false
      → (after table steps (number_of id) == last)
      ≡ list_any (same_type (core_id last)) (bases_within steps m id))
      → (base : Option TypeId) → PlainIf base
      → (after table steps (number_if base) == last)
      ≡ list_any (same_type (core_id last)) (and_bases (bases_within steps m) base)
  unfolding PlainIf
  follow steps known None plain =
      ap (λ (n : ℕ). n == last) (stays table nothing at_nothing steps) ∙ ne_eqb nothing last (λ same. omega arith)
  follow steps known (Some base) plain =
      elim (cases_Bool (same_type (core_id last) base)) [
        | inl same ↦
            ap (λ (n : ℕ). after table steps n == last) (number_of_last last small base same)
            ∙ ap (λ (n : ℕ). n == last) (stays table last (at_core last small ∙ absorbs) steps)
            ∙ eq-eqb last last refl
            ∙ sym (ap (λ (b : Bool). b || list_any (same_type (core_id last)) (bases_within steps m base)) same)
        | inr another ↦
            known base plain another
            ∙ sym (ap (λ (b : Bool). b || list_any (same_type (core_id last)) (bases_within steps m base)) another)
      ]

  tells : (steps : ℕ) (id : TypeId) → id.arrays ≡ 0 → same_type (core_id last) id ≡ false
      → (after table steps (number_of id) == last)
      ≡ list_any (same_type (core_id last)) (bases_within steps m id)
  unfolding after bases_within
  tells zero id plain other = ne_eqb (number_of id) last (not_last last small id plain other)
  tells (suc steps) id plain other =
      elim (step id plain other) [
        | inl on ↦
            ap (λ (n : ℕ). after table steps n == last) on
            ∙ follow steps (tells steps) (extends_of m id) (plain_base m id)
        | inr end ↦
            ap (λ (n : ℕ). after table steps n == last) end.1
            ∙ ap (λ (n : ℕ). n == last) (stays table (number_of id) end.1 steps)
            ∙ ne_eqb (number_of id) last (not_last last small id plain other)
            ∙ sym (ap (λ (base : Option TypeId). list_any (same_type (core_id last)) (and_bases (bases_within steps m) base)) end.0)
      ]

  pub below_told : (t : ℕ) → t < row_limit
      → (after table (count + nothing) (nothing + t) == last) ≡ is_below m (def_id t) (core_id last)
  unfolding is_below bases
  below_told t few =
      let other : same_type (core_id last) (def_id t) ≡ false =
      and_left (row_limit + last == t) _ (ne_eqb (row_limit + last) t (λ same. omega arith)) in
      ap (λ (n : ℕ). after table (count + nothing) n == last) (sym (number_file t few))
      ∙ tells (count + nothing) (def_id t) refl other

  past_below : (t : ℕ) → t < row_limit → count < t → is_below m (def_id t) (core_id last) ≡ false
  past_below t few above =
      sym (below_told t few)
      ∙ ap (λ (n : ℕ). n == last) (stays table (nothing + t) (past t above) (count + nothing))
      ∙ ne_eqb (nothing + t) last (λ same. omega arith)

  module _ (rows : ℕ) (all : rows ≡ min (count + 1) row_limit) where
    abbrev starts : List ℕ
    starts = map (λ (row : ℕ). 57 + row) (range_with_len 0 rows)

    abbrev ends : List ℕ
    ends = map (after table (count + nothing)) starts

    start_at : (t : ℕ) → t < rows → get_or starts t 0 ≡ nothing + t
    start_at t within = get_or-map-range_with_len (λ (row : ℕ). 57 + row) 0 rows t t 0 within (omega arith)

    starts_length : length starts ≡ rows
    starts_length = length-map-range_with_len (λ (row : ℕ). 57 + row) 0 rows

    end_at : (t : ℕ) → t < rows → get_or ends t 0 ≡ after table (count + nothing) (nothing + t)
    end_at t within =
        get_or_default ends t 0 (after table (count + nothing) 0) (omega (arith, ends_length))
        ∙ get_or-map (after table (count + nothing)) starts t 0
        ∙ ap (after table (count + nothing)) (start_at t within)
      where
        ends_length : length ends ≡ rows
        ends_length = length-map starts (after table (count + nothing)) ∙ starts_length

    module _ (below : List Bool) (are : below ≡ map (λ (end : ℕ). end == last) ends) where
      below_length : length below ≡ rows
      below_length =
          ap length are
          ∙ length-map ends (λ (end : ℕ). end == last)
          ∙ length-map starts (after table (count + nothing))
          ∙ starts_length

      told_within : (t : ℕ) → t < row_limit → t < rows → get_or below t false ≡ is_below m (def_id t) (core_id last)
      told_within t few within =
          get_or_default below t false (0 == last) (omega (arith, below_length))
          ∙ ap (λ (l : List Bool). get_or l t (0 == last)) are
          ∙ get_or-map (λ (end : ℕ). end == last) ends t 0
          ∙ ap (λ (end : ℕ). end == last) (end_at t within)
          ∙ below_told t few

      pub all_told : TellsBelow m last below
      all_told t few =
          elim (cases_lt t rows) [
            | inl within ↦ told_within t few within
            | inr above ↦ get_or-eq_default below false (omega (arith, below_length)) ∙ sym (past_below t few (omega arith))
          ]
