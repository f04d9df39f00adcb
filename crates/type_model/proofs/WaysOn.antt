-- Steps along ways by twos.
use Rattle.std.proofs.Common.{◌≡◌, ◌≢◌, ℕ, zero, suc, ◌+◌, ◌/◌, ◌%◌, ◌≤◌, inl, inr, List, [], ◌∷◌, map, length, min, refl, sym, ap, ◌∙◌, arith}
use Rattle.std.proofs.Math.ListN.{get_or-eq_default, get_or-map}
use Rattle.std.proofs.lemmas.Bool.{cases_lt}
use Rattle.std.proofs.lemmas.List.{get_or_default, length-map}
use Rattle.type_model.specs.declared.ways.Way.{Way}
use Rattle.type_model.specs.Ways.{too_many, staying, way_from, joined, way_after, prolonged}

join_joined : (a b c : Way) → joined (joined a b) c ≡ joined a (joined b c)
join_joined a b c =
    let sums : min (min (a.brackets + b.brackets) too_many + c.brackets) too_many ≡ min (a.brackets + min (b.brackets + c.brackets) too_many) too_many = omega arith in
    ap (λ (n : ℕ). let w : Way = record { to = c.to; brackets = n } in w) sums

-- a table of the ways of two steps
abbrev pub doubled : List Way → List Way
doubled table = map (λ (way : Way). joined way (way_from table way.to)) table

two_steps : (table : List Way) (node : ℕ) → way_from (doubled table) node ≡ joined (way_from table node) (way_from table (way_from table node).to)
two_steps table node =
    elim (cases_lt node (length table)) [
      | inl within ↦
          get_or_default (doubled table) node (staying node) (joined (staying node) (way_from table (staying node).to)) (omega (arith, length-map table (λ (way : Way). joined way (way_from table way.to))))
          ∙ get_or-map (λ (way : Way). joined way (way_from table way.to)) table node (staying node)
      | inr past ↦
          let stays : way_from table node ≡ staying node = get_or-eq_default table (staying node) past in
          get_or-eq_default (doubled table) (staying node) (omega (arith, length-map table (λ (way : Way). joined way (way_from table way.to))))
          ∙ sym (ap (λ (w : Way). joined w (way_from table w.to)) stays ∙ ap (joined (staying node)) stays)
    ]

by_twos : (table : List Way) (steps node : ℕ) → way_after (doubled table) steps node ≡ way_after table (steps + steps) node
unfolding way_after
by_twos table zero node = refl
by_twos table (suc steps) node =
    let more : suc steps + suc steps ≡ suc (suc (steps + steps)) = omega arith in
    let first : Way = way_from table node in
    let second : Way = way_from table first.to in
    ap (λ (w : Way). joined w (way_after (doubled table) steps w.to)) (two_steps table node)
    ∙ ap (joined (joined first second)) (by_twos table steps second.to)
    ∙ join_joined first second (way_after table (steps + steps) second.to)
    ∙ sym (ap (λ (n : ℕ). way_after table n node) more)

few : (table : List Way) (steps node : ℕ) → (way_after table steps node).brackets ≤ too_many
unfolding way_after
few table zero node = omega arith
few table (suc steps) node = omega arith

pub from_start : (table : List Way) (steps : ℕ) (nodes : List ℕ) → map (prolonged table steps) (map staying nodes) ≡ map (way_after table steps) nodes
from_start table steps [] = refl
from_start table steps (node ∷ nodes) =
    let least : min (0 + (way_after table steps node).brackets) too_many ≡ (way_after table steps node).brackets = omega (arith, few table steps node) in
    let first : prolonged table steps (staying node) ≡ way_after table steps node =
    ap (λ (n : ℕ). let w : Way = record { to = (way_after table steps node).to; brackets = n } in w) least in
    let rest = from_start table steps nodes in
    cc (first, rest)

-- a way whose brackets are too many to count has just so many
abbrev pub counted : Way → Way
counted way = joined way (staying way.to)

pub starts_counted : (nodes : List ℕ) → map counted (map staying nodes) ≡ map staying nodes
starts_counted [] = refl
starts_counted (node ∷ nodes) = ap (λ (l : List Way). staying node ∷ l) (starts_counted nodes)

pub steps_counted : (table ways : List Way)
    → map counted (map (λ (way : Way). joined way (way_from table way.to)) ways) ≡ map (λ (way : Way). joined way (way_from table way.to)) ways
steps_counted table [] = refl
steps_counted table (way ∷ ways) =
    let next : Way = way_from table way.to in
    let least : min (min (way.brackets + next.brackets) too_many + 0) too_many ≡ min (way.brackets + next.brackets) too_many = omega arith in
    let first : counted (joined way next) ≡ joined way next = ap (λ (n : ℕ). let w : Way = record { to = next.to; brackets = n } in w) least in
    let rest = steps_counted table ways in
    cc (first, rest)

pub none_left : (table ways : List Way) → map counted ways ≡ ways → map (prolonged table 0) ways ≡ ways
unfolding way_after
none_left table ways are = are

module _ (table : List Way) (left : ℕ) where
  even_one : left % 2 ≢ 1 → (way : Way) → prolonged (doubled table) (left / 2) way ≡ prolonged table left way
  even_one even way =
      let halves : left / 2 + left / 2 ≡ left = omega arith in
      ap (joined way) (by_twos table (left / 2) way.to ∙ ap (λ (n : ℕ). way_after table n way.to) halves)

  odd_one : left % 2 ≡ 1 → (way : Way) → prolonged (doubled table) (left / 2) (joined way (way_from table way.to)) ≡ prolonged table left way
  unfolding way_after
  odd_one odd way =
      let halves : suc (left / 2 + left / 2) ≡ left = omega arith in
      let next : Way = way_from table way.to in
      join_joined way next (way_after (doubled table) (left / 2) next.to)
      ∙ ap (λ (w : Way). joined way (joined next w)) (by_twos table (left / 2) next.to)
      ∙ ap (λ (n : ℕ). joined way (way_after table n way.to)) halves

  pub even_step : left % 2 ≢ 1 → (ways : List Way) → map (prolonged (doubled table) (left / 2)) ways ≡ map (prolonged table left) ways
  even_step even [] = refl
  even_step even (way ∷ ways) =
      let one = even_one even way in
      let more = even_step even ways in
      cc (one, more)

  pub odd_step : left % 2 ≡ 1 → (ways : List Way)
      → map (prolonged (doubled table) (left / 2)) (map (λ (way : Way). joined way (way_from table way.to)) ways) ≡ map (prolonged table left) ways
  odd_step odd [] = refl
  odd_step odd (way ∷ ways) =
      let one = odd_one odd way in
      let more = odd_step odd ways in
      cc (one, more)
