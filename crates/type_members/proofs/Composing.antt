-- What may stand for what composes. Only what leads on from Array and from Object has to be looked at: to Object, and nowhere.
use Rattle.std.proofs.Common.{◌≡◌, ℕ, zero, suc, ◌+◌, ◌*◌, ◌-◌, ◌<◌, ◌≤◌, inl, inr, min, Bool, true, false, cond, List, [], ◌∷◌, ◌++◌, get_or, Option, Some, None, refl, sym, ap, ◌∙◌, subst, arith}
use Rattle.std.specs.Prelude.{Contains}
use Rattle.std.specs.List.{flat_map, range_with_len}
use Rattle.std.proofs.lemmas.List.Elements.{Contains-append_cases}
use Rattle.std.proofs.lemmas.Bool.{leb-true}
use Rattle.managed_value.specs.declared.names.TypeId.{TypeId}
use Rattle.graph_cycles.specs.declared.graph.Edge.{Edge}
use Rattle.graph_cycles.specs.Cycles.{Leads}
use Rattle.graph_cycles.specs.Cycles.Leads.{Along, Further}
use Rattle.graph_cycles.proofs.Walks.{joined}
use Rattle.type_model.specs.Module.{Module, rows, row_count}
use Rattle.type_model.specs.Rows.{type_defs, interface_impls}
use Rattle.type_model.specs.Core.{core_at, core_types}
use Rattle.type_model.specs.TypeIds.{row_limit, is_core, core_id, def_id, named, coded_token}
use Rattle.type_model.specs.Types.{extends_of}
use Rattle.type_members.specs.Subtypes.{IsSubtype, Itself, Plain, Elements, AsArray, IsOfArrays, type_edges, core_places, node, edge_to, leads_on, above_edge, extends_edge, core_interface_edges, interface_edge, if_plain}
use Rattle.type_members.proofs.CoreEdges.{handle_alone}

-- the nodes of Object and of Array
abbrev Good : Edge → Type 0
Good e = (e.from ≡ 1 → ⊥) × (e.from ≡ 7 → e.to ≡ 1)

abbrev AllGood : List Edge → Type 0
AllGood edges = (e : Edge) → Contains edges e → Good e

none_in : (e : Edge) → Contains [] e → ⊥
none_in e (k, within, is) = omega (arith, within)

good_none : AllGood []
good_none e here = absurd (none_in e here)

only_in : (d e : Edge) → Contains (d ∷ []) e → d ≡ e
only_in d e (zero, within, is) = is
only_in d e (suc k, within, is) = absurd (omega (arith, within))

good_one : (d : Edge) → Good d → AllGood (d ∷ [])
good_one d good e here = subst Good (only_in d e here) good

good_append : (xs ys : List Edge) → AllGood xs → AllGood ys → AllGood (xs ++ ys)
good_append xs ys left right e here =
    elim (Contains-append_cases xs ys e here) [ inl is ↦ left e is | inr is ↦ right e is ]

good_flat : {X : Type 0} (f : X → List Edge) → ((x : X) → AllGood (f x)) → (xs : List X) → AllGood (flat_map f xs)
good_flat f each [] = good_none
good_flat f each (x ∷ xs) = good_append (f x) (flat_map f xs) (each x) (good_flat f each xs)

good_if : (b : Bool) (edges : List Edge) → AllGood edges → AllGood (cond b edges [])
good_if true edges good = good
good_if false edges good = good_none

good_to : (from : ℕ) (above : Option TypeId) → ((id : TypeId) → above ≡ Some id → Good (record { from = from; to = node id.base })) → AllGood (edge_to from above)
good_to from None good = good_none
good_to from (Some id) good = good_one (record { from = from; to = node id.base }) (good id refl)

good_above : (m : Module) (elements : Bool) (id : TypeId) (above : Option TypeId)
    → ((up : TypeId) → above ≡ Some up → Good (record { from = node id.base; to = node up.base })) → AllGood (above_edge m elements id above)
good_above m elements id above good =
    good_if (leads_on m elements id) (edge_to (node id.base) above) (good_to (node id.base) above good)

-- types of the file have even nodes
even_good : (n to : ℕ) → Good (record { from = 2 * n; to = to })
even_good n to = (λ is. omega (arith, is), λ is. absurd (omega (arith, is)))

module _ (m : Module) (base : ℕ) where
  abbrev one : TypeId
  one = record { base = base; arrays = 0 }

  node_of_file : is_core base ≡ false → node base ≡ 2 * base
  node_of_file plain = ap (λ (b : Bool). cond b (2 * min (base - row_limit) 57 + 1) (2 * base)) plain

  node_of_core : is_core base ≡ true → node base ≡ 2 * min (base - row_limit) 57 + 1
  node_of_core core = ap (λ (b : Bool). cond b (2 * min (base - row_limit) 57 + 1) (2 * base)) core

  file_good : (to : ℕ) → is_core base ≡ false → Good (record { from = node base; to = to })
  file_good to plain = subst (λ (n : ℕ). Good (record { from = n; to = to })) (sym (node_of_file plain)) (even_good base to)

  is_object : is_core base ≡ true → node base ≡ 1 → base ≡ 0x01000000
  is_object core is =
      let above : 0x01000000 ≤ base = leb-true 0x01000000 base core in
      let number : 2 * min (base - 0x01000000) 57 + 1 ≡ 1 = sym (node_of_core core) ∙ is in
      omega arith

  is_array : is_core base ≡ true → node base ≡ 7 → base ≡ 0x01000003
  is_array core is =
      let above : 0x01000000 ≤ base = leb-true 0x01000000 base core in
      let number : 2 * min (base - 0x01000000) 57 + 1 ≡ 7 = sym (node_of_core core) ∙ is in
      omega arith

object_extends : (m : Module) → extends_of m (record { base = 0x01000000; arrays = 0 }) ≡ None
unfolding extends_of core_at core_types
object_extends m = refl

array_extends : (m : Module) → extends_of m (record { base = 0x01000003; arrays = 0 }) ≡ Some (core_id 0)
unfolding extends_of core_at core_types
array_extends m = refl

module _ (m : Module) (base : ℕ) (up : TypeId) (extends : extends_of m (record { base = base; arrays = 0 }) ≡ Some up) where
  core_good : is_core base ≡ true → Good (record { from = node base; to = node up.base })
  core_good core = (
    λ is.
        let same : extends_of m (record { base = base; arrays = 0 }) ≡ extends_of m (record { base = 0x01000000; arrays = 0 }) =
        ap (λ (n : ℕ). extends_of m (record { base = n; arrays = 0 })) (is_object m base core is) in
        let clash : Some up ≡ None = sym extends ∙ same ∙ object_extends m in
        cc,
    λ is.
        let same : extends_of m (record { base = base; arrays = 0 }) ≡ extends_of m (record { base = 0x01000003; arrays = 0 }) =
        ap (λ (n : ℕ). extends_of m (record { base = n; arrays = 0 })) (is_array m base core is) in
        let found : Some up ≡ Some (core_id 0) = sym extends ∙ same ∙ array_extends m in
        let object : up ≡ core_id 0 = cc in
        ap (λ (id : TypeId). node id.base) object,
  )

  base_good : (b : Bool) → is_core base ≡ b → Good (record { from = node base; to = node up.base })
  base_good true core = core_good core
  base_good false plain = file_good m base (node up.base) plain

extends_good : (m : Module) (elements : Bool) (base : ℕ) → AllGood (extends_edge m elements (record { base = base; arrays = 0 }))
extends_good m elements base =
    good_above m elements (record { base = base; arrays = 0 }) (extends_of m (record { base = base; arrays = 0 }))
    (λ up is. base_good m base up is (is_core base) refl)

interface_good : (m : Module) (elements : Bool) (numbers : List ℕ) → AllGood (interface_edge m elements numbers)
interface_good m elements numbers = by_class (is_core (get_or numbers 0 0)) refl
  where
    class : ℕ
    class = get_or numbers 0 0

    by_class : (b : Bool) → is_core (get_or numbers 0 0) ≡ b
        → AllGood (cond b [] (above_edge m elements (def_id (get_or numbers 0 0)) (if_plain (named m (coded_token (get_or numbers 1 0))))))
    by_class true core = good_none
    by_class false plain =
        good_above m elements (def_id (get_or numbers 0 0)) (if_plain (named m (coded_token (get_or numbers 1 0))))
        (λ up is. file_good m (get_or numbers 0 0) (node up.base) plain)

handles_good : (m : Module) (elements : Bool) → AllGood (flat_map (core_interface_edges m elements) core_places)
handles_good m elements =
    subst AllGood (sym (handle_alone m elements))
    (good_above m elements (core_id 30) (Some (core_id 24)) (λ up is. (λ none. omega (arith, none), λ none. absurd (omega (arith, none)))))

all_good : (m : Module) (elements : Bool) → AllGood (type_edges m elements)
unfolding type_edges
all_good m elements =
    let cores : List Edge = flat_map (λ place. extends_edge m elements (core_id place)) core_places in
    let files : List Edge = flat_map (λ t. extends_edge m elements (def_id t)) (range_with_len 1 (row_count m type_defs)) in
    let handles : List Edge = flat_map (core_interface_edges m elements) core_places in
    let interfaces : List Edge = flat_map (interface_edge m elements) (rows m interface_impls) in
    good_append (cores ++ files ++ handles) interfaces
    (good_append (cores ++ files) handles
    (good_append cores files
    (good_flat (λ (place : ℕ). extends_edge m elements (core_id place)) (λ place. extends_good m elements (row_limit + place)) core_places)
    (good_flat (λ (t : ℕ). extends_edge m elements (def_id t)) (λ t. extends_good m elements t) (range_with_len 1 (row_count m type_defs))))
    (handles_good m elements))
    (good_flat (interface_edge m elements) (interface_good m elements) (rows m interface_impls))

module _ (edges : List Edge) (good : AllGood edges) where
  from_object : (u w : ℕ) → Leads edges u w → u ≡ 1 → ⊥
  from_object u w (Along e) is = (good (record { from = u; to = w }) e).0 is
  from_object u w (Further {v = v} walk e) is = from_object u v walk is

  from_array : (u w : ℕ) → Leads edges u w → u ≡ 7 → w ≡ 1
  from_array u w (Along e) is = (good (record { from = u; to = w }) e).1 is
  from_array u w (Further {v = v} walk e) is = absurd ((good (record { from = v; to = w }) e).0 (from_array u v walk is))

object_alone : (m : Module) (base : ℕ) (b : Bool) → is_core base ≡ b → node base ≡ 1 → base ≡ 0x01000000
object_alone m base true core is = is_object m base core is
object_alone m base false plain is = let even : 2 * base ≡ 1 = sym (node_of_file m base plain) ∙ is in absurd (omega arith)

of_arrays_on : (m : Module) (elements : Bool) (b c : ℕ) → IsOfArrays b → Leads (type_edges m elements) (node b) (node c) → IsOfArrays c
of_arrays_on m elements b c (inl is) walk =
    inr (object_alone m c (is_core c) refl (from_array (type_edges m elements) (all_good m elements) (node b) (node c) walk (ap node is)))
of_arrays_on m elements b c (inr is) walk =
    absurd (from_object (type_edges m elements) (all_good m elements) (node b) (node c) walk (ap node is))

module _ (m : Module) where
  after_plain : (a b c : TypeId) → a.arrays ≡ 0 → b.arrays ≡ 0 → Leads (type_edges m false) (node a.base) (node b.base) → IsSubtype m b c → IsSubtype m a c
  after_plain a b c p q walk (Itself _) = Plain a b p q walk
  after_plain a b c p q walk (Plain _ _ r s on) = Plain a c p s (joined (type_edges m false) (node a.base) (node b.base) (node c.base) walk on)
  after_plain a b c p q walk (Elements _ _ r s on) = absurd (omega (arith, q, r))
  after_plain a b c p q walk (AsArray _ _ l is) = absurd (omega (arith, q, l))

  after_elements : (a b c : TypeId) → 0 < a.arrays → b.arrays ≡ a.arrays → Leads (type_edges m true) (node a.base) (node b.base) → IsSubtype m b c → IsSubtype m a c
  after_elements a b c p q walk (Itself _) = Elements a b p q walk
  after_elements a b c p q walk (Plain _ _ r s on) = absurd (omega (arith, p, q, r))
  after_elements a b c p q walk (Elements _ _ r s on) = Elements a c p (s ∙ q) (joined (type_edges m true) (node a.base) (node b.base) (node c.base) walk on)
  after_elements a b c p q walk (AsArray _ _ l is) = AsArray a c (omega (arith, q, l)) is

  after_array : (a b c : TypeId) → b.arrays < a.arrays → IsOfArrays b.base → IsSubtype m b c → IsSubtype m a c
  after_array a b c l is (Itself _) = AsArray a b l is
  after_array a b c l is (Plain _ _ r s on) = AsArray a c (omega (arith, l, r, s)) (of_arrays_on m false b.base c.base is on)
  after_array a b c l is (Elements _ _ r s on) = AsArray a c (omega (arith, l, r, s)) (of_arrays_on m true b.base c.base is on)
  after_array a b c l is (AsArray _ _ k other) = AsArray a c (omega (arith, l, k)) other

pub compose : (m : Module) (a b c : TypeId) → IsSubtype m a b → IsSubtype m b c → IsSubtype m a c
compose m a b c (Itself _) on = on
compose m a b c (Plain _ _ p q walk) on = after_plain m a b c p q walk on
compose m a b c (Elements _ _ p q walk) on = after_elements m a b c p q walk on
compose m a b c (AsArray _ _ l is) on = after_array m a b c l is on
