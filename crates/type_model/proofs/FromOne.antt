-- Each edge of the graphs of types comes from a node of 1 or more, so none leads from 0.
use Rattle.std.proofs.Common.{◌≡◌, ℕ, zero, suc, ◌+◌, ◌≤◌, false, List, [], ◌∷◌, ◌++◌, Option, Some, None, refl, sym, subst, arith, append_assoc}
use Rattle.std.specs.Prelude.{option_map}
use Rattle.std.specs.List.{range_with_len, flat_map}
use Rattle.std.proofs.lemmas.Bool.{ne_eqb}
use Rattle.graph_cycles.specs.declared.graph.Edge.{Edge}
use Rattle.graph_cycles.specs.Cycles.{leads}
use Rattle.type_model.specs.Module.{Module, row_count}
use Rattle.type_model.specs.Rows.{type_defs}
use Rattle.type_model.specs.Types.{own_fields}
use Rattle.type_model.specs.Part.{edge, base_def, encloser_of, field_value, held_by, extends_edges, nesting_edges, inside_edges}

abbrev NoneFromZero : List Edge → Type 0
NoneFromZero edges = (to : ℕ) → leads edges 0 to ≡ false

one_more : (e : Edge) (es : List Edge) → 1 ≤ e.from → NoneFromZero es → NoneFromZero (e ∷ es)
unfolding leads
one_more e es above none to = rw (none to, none e.from, ne_eqb 0 e.from (λ same. omega arith)) refl

edge_then : (from : ℕ) (to : Option ℕ) (es : List Edge) → 1 ≤ from → NoneFromZero es → NoneFromZero (edge from to ++ es)
edge_then from None es above none = none
edge_then from (Some to) es above none = one_more (record { from = from; to = to }) es above none

edges_then : (from : ℕ) (to : ℕ → Option ℕ) (fields : List ℕ) (es : List Edge) → 1 ≤ from → NoneFromZero es
    → NoneFromZero (flat_map (λ (f : ℕ). edge from (to f)) fields ++ es)
edges_then from to [] es above none = none
edges_then from to (f ∷ fields) es above none =
    subst NoneFromZero (sym (append_assoc (edge from (to f)) (flat_map (λ (g : ℕ). edge from (to g)) fields) es))
    (edge_then from (to f) (flat_map (λ (g : ℕ). edge from (to g)) fields ++ es) above (edges_then from to fields es above none))

all_then : (f : ℕ → List Edge) → ((t : ℕ) → 1 ≤ t → (es : List Edge) → NoneFromZero es → NoneFromZero (f t ++ es))
    → (a n : ℕ) → 1 ≤ a → NoneFromZero (flat_map f (range_with_len a n))
unfolding leads
all_then f one a zero above to = refl
all_then f one a (suc n) above to =
    one a above (flat_map f (range_with_len (a + 1) n)) (all_then f one (a + 1) n (omega arith)) to

held_then : (m : Module) (n t : ℕ) → 1 ≤ t → (es : List Edge) → NoneFromZero es → NoneFromZero (held_by m n t ++ es)
held_then m n t above es none =
    let base : List Edge = edge (n + t) (option_map (λ (b : ℕ). n + b) (base_def m t)) in
    let fields : List Edge = flat_map (λ (f : ℕ). edge (n + t) (field_value m f)) (own_fields m t) in
    one_more (record { from = t; to = n + t }) ((base ++ fields) ++ es) above
    (subst NoneFromZero (sym (append_assoc base fields es))
    (edge_then (n + t) (option_map (λ (b : ℕ). n + b) (base_def m t)) (fields ++ es) (omega arith)
    (edges_then (n + t) (field_value m) (own_fields m t) es (omega arith) none)))

pub extends_from_one : (m : Module) (to : ℕ) → leads (extends_edges m) 0 to ≡ false
unfolding extends_edges
extends_from_one m =
    all_then (λ (t : ℕ). edge t (base_def m t)) (λ t above es none. edge_then t (base_def m t) es above none)
    1 (row_count m type_defs) (omega arith)

pub nesting_from_one : (m : Module) (to : ℕ) → leads (nesting_edges m) 0 to ≡ false
unfolding nesting_edges
nesting_from_one m =
    all_then (λ (t : ℕ). edge t (encloser_of m t)) (λ t above es none. edge_then t (encloser_of m t) es above none)
    1 (row_count m type_defs) (omega arith)

pub inside_from_one : (m : Module) (to : ℕ) → leads (inside_edges m) 0 to ≡ false
unfolding inside_edges
inside_from_one m =
    all_then (held_by m (row_count m type_defs)) (held_then m (row_count m type_defs)) 1 (row_count m type_defs) (omega arith)
