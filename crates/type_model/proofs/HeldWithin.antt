-- A type that holds another, at any depth, leads to it in the graph of what stands inside value types.
use Rattle.std.proofs.Common.{◌≡◌, ◌≤◌, ◌<◌, ◌⊎◌, inl, inr, ℕ, zero, suc, ◌+◌, ◌-◌, List, [], ◌∷◌, ◌++◌, length, get_or, Option, Some, None, Contains, refl, sym, ap, subst, ◌∙◌, arith}
use Rattle.std.specs.Prelude.{option_map}
use Rattle.std.specs.List.{range_with_len, flat_map}
use Rattle.std.proofs.lemmas.List.Elements.{Contains-append_left, Contains-append_right, Contains-append_cases}
use Rattle.std.proofs.lemmas.List.FromFn.{length-range_with_len, get_or-range_with_len}
use Rattle.graph_cycles.specs.declared.graph.Edge.{Edge}
use Rattle.graph_cycles.specs.Cycles.{HasEdge, Leads, Along, Further}
use Rattle.graph_cycles.proofs.Walks.{joined}
use Rattle.type_model.specs.Module.{Module, row_count}
use Rattle.type_model.specs.Rows.{type_defs}
use Rattle.type_model.specs.Types.{own_fields}
use Rattle.type_model.specs.Part.{edge, all_types, base_def, extends_edges, field_value, held_by, inside_edges}
use Rattle.type_model.specs.Laws.{Holds, HoldsWithin, Directly, Deeper}

contains_more : {X : Type 0} (head x : X) (rest : List X) → Contains rest x → Contains (head ∷ rest) x
contains_more head x rest p = (suc p.0, omega (arith, p.1), p.2)

contains_cases : {X : Type 0} (head x : X) (rest : List X) → Contains (head ∷ rest) x → (head ≡ x) ⊎ Contains rest x
contains_cases {X} head x rest p = by_index p.0 p.1 p.2
  where
    by_index : (k : ℕ) → k < suc (length rest) → get_or (head ∷ rest) k x ≡ x → (head ≡ x) ⊎ Contains rest x
    by_index zero within found = inl found
    by_index (suc k) within found = inr (k, omega arith, found)

contains_one : {X : Type 0} (x : X) → Contains (x ∷ []) x
contains_one x = (0, omega arith, refl)

module _ {X Y : Type 0} (f : X → List Y) where
  in_all : (xs : List X) (x : X) (y : Y) → Contains xs x → Contains (f x) y → Contains (flat_map f xs) y
  in_all [] x y p q = absurd (omega (arith, p.1))
  in_all (z ∷ zs) x y p q = by (λ more. in_all zs x y more q) (contains_cases z x zs p)
    where
      by : (Contains zs x → Contains (flat_map f zs) y) → (z ≡ x) ⊎ Contains zs x → Contains (f z ++ flat_map f zs) y
      by later (inl is) = Contains-append_left (f z) (flat_map f zs) y (subst (λ (w : X). Contains (f w) y) (sym is) q)
      by later (inr more) = Contains-append_right (f z) (flat_map f zs) y (later more)

  from_one : (xs : List X) (y : Y) → Contains (flat_map f xs) y → (x : X) × Contains xs x × Contains (f x) y
  from_one [] y p = absurd (omega (arith, p.1))
  from_one (z ∷ zs) y p = by (from_one zs y) (Contains-append_cases (f z) (flat_map f zs) y p)
    where
      by : (Contains (flat_map f zs) y → (x : X) × Contains zs x × Contains (f x) y) → Contains (f z) y ⊎ Contains (flat_map f zs) y
          → (x : X) × Contains (z ∷ zs) x × Contains (f x) y
      by more (inl here) = (z, (0, omega arith, refl), here)
      by more (inr later) = let found = more later in (found.0, contains_more z found.0 zs found.1, found.2)

abbrev an_edge : ℕ → ℕ → Edge
an_edge from to = record { from = from; to = to }

edge_is : (from u w : ℕ) (o : Option ℕ) → Contains (edge from o) (record { from = u; to = w }) → (from ≡ u) × (o ≡ Some w)
edge_is from u w None p = absurd (omega (arith, p.1))
edge_is from u w (Some v) p = by (contains_cases (an_edge from v) (an_edge u w) [] p)
  where
    by : (an_edge from v ≡ an_edge u w) ⊎ Contains [] (an_edge u w) → (from ≡ u) × (Some v ≡ Some w)
    by (inl is) = (ap (λ (e : Edge). e.from) is, ap (λ (e : Edge). Some e.to) is)
    by (inr none) = absurd (omega (arith, none.1))

edge_there : (from to : ℕ) (o : Option ℕ) → o ≡ Some to → Contains (edge from o) (record { from = from; to = to })
edge_there from to o is = subst (λ (p : Option ℕ). Contains (edge from p) (record { from = from; to = to })) (sym is) (contains_one (record { from = from; to = to }))

module _ (m : Module) where
  abbrev count : ℕ
  count = row_count m type_defs

  a_row : (t : ℕ) → 1 ≤ t → t ≤ count → Contains (all_types m) t
  a_row t above within =
      (t - 1, omega (arith, length-range_with_len 1 count), get_or-range_with_len 1 count (t - 1) t (omega arith) ∙ omega arith)

  extended : (t b : ℕ) → HasEdge (extends_edges m) t b → Contains (all_types m) t × (base_def m t ≡ Some b)
  unfolding extends_edges
  extended t b there =
      let found = from_one (λ (x : ℕ). edge x (base_def m x)) (all_types m) (record { from = t; to = b }) there in
      let is = edge_is found.0 t b (base_def m found.0) found.2 in
      (subst (Contains (all_types m)) is.0 found.1, sym (ap (base_def m) is.0) ∙ is.1)

  by_base : (t b : ℕ) → HasEdge (extends_edges m) t b → HasEdge (inside_edges m) (count + t) (count + b)
  unfolding inside_edges
  by_base t b there =
      let is = extended t b there in
      in_all (held_by m count) (all_types m) t (record { from = count + t; to = count + b }) is.0
      (contains_more (record { from = t; to = count + t }) (record { from = count + t; to = count + b }) _
      (Contains-append_left _ _ (record { from = count + t; to = count + b })
      (edge_there (count + t) (count + b) (option_map (λ (base : ℕ). count + base) (base_def m t)) (ap (option_map (λ (base : ℕ). count + base)) is.1))))

  by_itself : (t : ℕ) → Contains (all_types m) t → HasEdge (inside_edges m) t (count + t)
  unfolding inside_edges
  by_itself t row = in_all (held_by m count) (all_types m) t (record { from = t; to = count + t }) row (0, omega arith, refl)

  by_field : (t f u : ℕ) → Contains (all_types m) t → Contains (own_fields m t) f → field_value m f ≡ Some u → HasEdge (inside_edges m) (count + t) u
  unfolding inside_edges
  by_field t f u row own value =
      in_all (held_by m count) (all_types m) t (record { from = count + t; to = u }) row
      (contains_more (record { from = t; to = count + t }) (record { from = count + t; to = u }) _
      (Contains-append_right (edge (count + t) (option_map (λ (base : ℕ). count + base) (base_def m t))) _ (record { from = count + t; to = u })
      (in_all (λ (g : ℕ). edge (count + t) (field_value m g)) (own_fields m t) f (record { from = count + t; to = u }) own
      (edge_there (count + t) u (field_value m f) value))))

  above : (t b : ℕ) → Leads (extends_edges m) t b → Contains (all_types m) t × Leads (inside_edges m) (count + t) (count + b)
  above t b (Along e) = ((extended t b e).0, Along (by_base t b e))
  above t b (Further {v = v} walk e) = let so_far = above t v walk in (so_far.0, Further so_far.1 (by_base v b e))

  from_holder : (t u d : ℕ) → (d ≡ t) ⊎ Leads (extends_edges m) t d → Contains (all_types m) d → HasEdge (inside_edges m) (count + d) u → Leads (inside_edges m) t u
  from_holder t u d (inl is) row e =
      let row_t : Contains (all_types m) t = subst (Contains (all_types m)) is row in
      Further (Along (by_itself t row_t)) (subst (λ (n : ℕ). HasEdge (inside_edges m) (count + n) u) is e)
  from_holder t u d (inr walk) row e =
      let up = above t d walk in
      Further (joined (inside_edges m) t (count + t) (count + d) (Along (by_itself t up.0)) up.1) e

  directly : (t u : ℕ) → Holds m t u → Leads (inside_edges m) t u
  directly t u h =
      let row : Contains (all_types m) h.declarer = a_row h.declarer h.first h.last in
      from_holder t u h.declarer h.extended row (by_field h.declarer h.field u row h.own h.value)

  pub held_within : (t u : ℕ) → HoldsWithin m t u → Leads (inside_edges m) t u
  held_within t u (Directly h) = directly t u h
  held_within t u (Deeper {u = v} more h) = joined (inside_edges m) t v u (held_within t v more) (directly v u h)
