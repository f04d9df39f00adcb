-- Steps along a chain by twos.
use Rattle.std.proofs.Common.{◌≡◌, ◌≢◌, ℕ, zero, suc, ◌+◌, ◌*◌, ◌/◌, ◌%◌, ◌<◌, ◌≤◌, ◌⊎◌, inl, inr, List, [], ◌∷◌, map, length, get_or, refl, sym, ap, ◌∙◌, arith, add-suc}
use Rattle.std.proofs.Math.ListN.{get_or-eq_default, get_or-map}
use Rattle.std.proofs.lemmas.Bool.{cases_lt}
use Rattle.std.proofs.lemmas.List.{get_or_default, length-map}
use Rattle.graph_cycles.specs.Chains.{next_in, after}

two_steps : (table : List ℕ) (node : ℕ) → next_in (map (next_in table) table) node ≡ next_in table (next_in table node)
two_steps table node =
    elim (cases_lt node (length table)) [
      | inl within ↦
          get_or_default (map (next_in table) table) node node (next_in table node) (omega (arith, length-map table (next_in table)))
          ∙ get_or-map (next_in table) table node node
      | inr past ↦
          let stays : next_in table node ≡ node = get_or-eq_default table node past in
          get_or-eq_default (map (next_in table) table) node (omega (arith, length-map table (next_in table)))
          ∙ sym (ap (next_in table) stays ∙ stays)
    ]

by_twos : (table : List ℕ) (steps node : ℕ) → after (map (next_in table) table) steps node ≡ after table (steps + steps) node
unfolding after
by_twos table zero node = refl
by_twos table (suc steps) node =
    let more : suc steps + suc steps ≡ suc (suc (steps + steps)) = omega arith in
    by_twos table steps (next_in (map (next_in table) table) node)
    ∙ ap (after table (steps + steps)) (two_steps table node)
    ∙ sym (ap (λ (n : ℕ). after table n node) more)

pub none_left : (table : List ℕ) (nodes : List ℕ) → map (after table 0) nodes ≡ nodes
unfolding after
none_left table [] = refl
none_left table (node ∷ nodes) = ap (λ (l : List ℕ). node ∷ l) (none_left table nodes)

module _ (table : List ℕ) (left : ℕ) where
  even_one : left % 2 ≢ 1 → (node : ℕ) → after (map (next_in table) table) (left / 2) node ≡ after table left node
  even_one even node =
      let halves : left / 2 + left / 2 ≡ left = omega arith in
      by_twos table (left / 2) node ∙ ap (λ (n : ℕ). after table n node) halves

  odd_one : left % 2 ≡ 1 → (node : ℕ) → after (map (next_in table) table) (left / 2) (next_in table node) ≡ after table left node
  unfolding after
  odd_one odd node =
      let halves : suc (left / 2 + left / 2) ≡ left = omega arith in
      by_twos table (left / 2) (next_in table node) ∙ ap (λ (n : ℕ). after table n node) halves

  pub even_step : left % 2 ≢ 1 → (nodes : List ℕ) → map (after (map (next_in table) table) (left / 2)) nodes ≡ map (after table left) nodes
  even_step even [] = refl
  even_step even (node ∷ nodes) =
      let one = even_one even node in
      let more = even_step even nodes in
      cc (one, more)

  pub odd_step : left % 2 ≡ 1 → (nodes : List ℕ)
      → map (after (map (next_in table) table) (left / 2)) (map (next_in table) nodes) ≡ map (after table left) nodes
  odd_step odd [] = refl
  odd_step odd (node ∷ nodes) =
      let one = odd_one odd node in
      let more = odd_step odd nodes in
      cc (one, more)
