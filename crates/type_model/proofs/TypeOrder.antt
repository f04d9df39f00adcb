-- Types in order of their names: what is found by them, and that sorting makes them so.
use Rattle.std.proofs.Common.{◌≡◌, ℕ, suc, ◌+◌, ◌-◌, Bool, true, false, not, ◌&&◌, cond, List, [], ◌∷◌, length, get_or, Option, Some, None, refl, sym, ap, ◌∙◌, arith}
use Rattle.std.specs.Prelude.{◌==◌, find, slice_get, bytes_eq, option_map}
use Rattle.std.specs.Cmp.{IsStrictWeakOrder, IsTotalOrder, then_total, unsigned_ties, both_tied}
use Rattle.std.specs.Cmp.Lexicographic.{slice_cmp, lists_ties, on_texts}
use Rattle.std.specs.Bool.{then_some}
use Rattle.std.specs.List.{range_with_len, position_from}
use Rattle.std.specs.List.Sorted.{IsPermutation, IsSortedBy, IsNonDecreasingBy, IsPartitionedBy, IsStableBy, ties}
use Rattle.std.specs.declared.cmp.Ordering.{Ordering}
use Rattle.std.specs.declared.cmp.Ordering.TheVariants.{Less, Equal, Greater}
use Rattle.std.specs.Ordering.{is_lt, is_eq, ordering_index, ordering_reverse, ordering_then, nat_cmp}
use Rattle.std.proofs.lemmas.List.Elements.{filter_agree}
use Rattle.std.proofs.lemmas.List.Sorted.{searchable_from_sorted, ranks_by}
use Rattle.std.proofs.lemmas.Slice.Eq.{bytes_eq-Decides}
use Rattle.std.proofs.lemmas.Bool.{and_parts, ne_eqb}
use Rattle.std.proofs.lemmas.Iterator.Adapters.{position_from-zero}
use Rattle.type_model.specs.Module.{Module, rows, cell, in_column, text}
use Rattle.type_model.specs.Rows.{type_defs, type_namespace}
use Rattle.type_model.specs.TypeIds.{has_name, type_def_named}
use Rattle.type_model.specs.ByName.{key, key_cmp, compared, precedes, SplitsAt, is_named, IsByName}
use Rattle.type_model.proofs.Finding.{hit, find_equal, parted, same_found}

abbrev Key : Type 0
Key = List ℕ × List ℕ

keys_total : IsTotalOrder key_cmp
keys_total = then_total (on_texts (λ (k : Key). k.0)) (on_texts (λ (k : Key). k.1))

named_is : (m : Module) (wanted : Key) (t : ℕ) → is_named m wanted t ≡ is_eq (compared m wanted t)
named_is m wanted t =
    both_tied _ _ (slice_cmp nat_cmp (key m t).0 wanted.0) (slice_cmp nat_cmp (key m t).1 wanted.1)
    (lists_ties nat_cmp unsigned_ties (key m t).0 wanted.0) (lists_ties nat_cmp unsigned_ties (key m t).1 wanted.1)

module _ (m : Module) (types : List ℕ) (wanted : Key) (sorted : IsSortedBy (precedes m) types) where
  rises : IsNonDecreasingBy (λ t. ordering_index (compared m wanted t)) types
  rises = searchable_from_sorted keys_total (key m) types wanted sorted

  pub names_parted : IsPartitionedBy (λ t. is_lt (compared m wanted t)) types
  names_parted = parted (compared m wanted) types rises

  -- what bisection finds is the first place of the name
  pub find_named : (at : ℕ) → SplitsAt m wanted types at
      → find (is_named m wanted) types ≡ hit (is_named m wanted) (slice_get types at)
  find_named at point =
      let same : is_named m wanted ≡ (λ t. is_eq (compared m wanted t)) = λ i. λ t. named_is m wanted t i in
      ap (λ (test : ℕ → Bool). find test types) same
      ∙ find_equal (compared m wanted) types rises at point
      ∙ ap (λ (test : ℕ → Bool). hit test (slice_get types at)) (sym same)

module _ (m : Module) (types : List ℕ) (by : IsByName m types) (name namespace : List ℕ) (at : ℕ) (point : SplitsAt m (name, namespace) types at) where
  found : type_def_named m namespace name ≡ hit (is_named m (name, namespace)) (slice_get types at)
  found = sym (by.finds name namespace) ∙ find_named m types (name, namespace) by.sorted at point

  pub found_nowhere : None ≡ slice_get types at → None ≡ type_def_named m namespace name
  found_nowhere end = sym (found ∙ ap (hit (is_named m (name, namespace))) (sym end))

  if_named : (b : Bool) (t : ℕ) → then_some b t ≡ cond b (Some t) None
  if_named true t = refl
  if_named false t = refl

  pub found_type : (t : ℕ) → Some t ≡ slice_get types at → then_some (is_named m (name, namespace) t) t ≡ type_def_named m namespace name
  found_type t first = if_named (is_named m (name, namespace) t) t ∙ sym (found ∙ ap (hit (is_named m (name, namespace))) (sym first))

tied_are_equal : (r s : Ordering) → r ≡ ordering_reverse s → (not (is_lt r) && not (is_lt s)) ≡ is_eq s
tied_are_equal r Less is = ap (λ o. not (is_lt o) && false) is
tied_are_equal r Equal is = ap (λ o. not (is_lt o) && true) is
tied_are_equal r Greater is = ap (λ o. not (is_lt o) && true) is

-- places whose keys tie with one of a key have that key
ties_named : (m : Module) (wanted : Key) (t other : ℕ) → is_named m wanted t ≡ true
    → ties (precedes m) t other ≡ is_named m wanted other
ties_named m wanted t other named =
    let parts = and_parts (bytes_eq (key m t).0 wanted.0) (bytes_eq (key m t).1 wanted.1) named in
    let name : (key m t).0 ≡ wanted.0 = (bytes_eq-Decides (key m t).0 wanted.0).0 parts.0 in
    let namespace : (key m t).1 ≡ wanted.1 = (bytes_eq-Decides (key m t).1 wanted.1).0 parts.1 in
    tied_are_equal _ _ (keys_total.antisymm (key m t) (key m other))
    ∙ ap (λ (n : List ℕ). is_eq (ordering_then (slice_cmp nat_cmp (key m other).0 n) (slice_cmp nat_cmp (key m other).1 (key m t).1))) name
    ∙ ap (λ (n : List ℕ). is_eq (ordering_then (slice_cmp nat_cmp (key m other).0 wanted.0) (slice_cmp nat_cmp (key m other).1 n))) namespace
    ∙ sym (named_is m wanted other)

-- by the rows in their order the first that has the name is found
module _ {X : Type 0} (test : X → Bool) (by_row : ℕ → Bool) where
  listed : (xs : List X) (n : ℕ) → ((k : ℕ) (x : X) → slice_get xs k ≡ Some x → by_row (n + k) ≡ test x)
      → find by_row (range_with_len n (length xs)) ≡ position_from test n xs
  listed [] n agree = refl
  listed (x ∷ xs) n agree =
      let start : n ≡ n + 0 = omega arith in
      let here : by_row n ≡ test x = ap by_row start ∙ agree 0 x refl in
      let more : find by_row (range_with_len (n + 1) (length xs)) ≡ position_from test (n + 1) xs =
      listed xs (n + 1) (λ k y is. let later : n + 1 + k ≡ n + suc k = omega arith in ap by_row later ∙ agree (suc k) y is) in
      ap (λ (b : Bool). cond b (Some n) (find by_row (range_with_len (n + 1) (length xs)))) here
      ∙ ap (λ (rest : Option ℕ). cond (test x) (Some n) rest) more

  shifted_if : (b : Bool) (n : ℕ) (rest more : Option ℕ) → option_map (λ (k : ℕ). k + 1) rest ≡ more
      → option_map (λ (k : ℕ). k + 1) (cond b (Some n) rest) ≡ cond b (Some (n + 1)) more
  shifted_if true n rest more are = refl
  shifted_if false n rest more are = are

  shifted : (xs : List X) (n : ℕ) → option_map (λ (k : ℕ). k + 1) (position_from test n xs) ≡ position_from test (n + 1) xs
  shifted [] n = refl
  shifted (x ∷ xs) n = shifted_if (test x) n (position_from test (n + 1) xs) (position_from test (n + 1 + 1) xs) (shifted xs (n + 1))

module _ (m : Module) where
  cell_here : (k column : ℕ) (numbers : List ℕ) → slice_get (rows m type_defs) k ≡ Some numbers → cell m type_defs (1 + k) column ≡ get_or numbers column 0
  unfolding cell
  cell_here k column numbers is =
      let some : (1 + k == 0) ≡ false = ne_eqb (1 + k) 0 (λ none. omega arith) in
      let back : 1 + k - 1 ≡ k = omega arith in
      rw (some, back) (ap (in_column column) is)

  agree : (name namespace : List ℕ) (k : ℕ) (numbers : List ℕ) → slice_get (rows m type_defs) k ≡ Some numbers
      → is_named m (name, namespace) (1 + k) ≡ has_name m namespace name numbers
  agree name namespace k numbers is =
      ap (λ (n : ℕ). bytes_eq (text m n) name && bytes_eq (type_namespace m (1 + k)) namespace) (cell_here k 1 numbers is)
      ∙ ap (λ (n : ℕ). bytes_eq (text m (get_or numbers 1 0)) name && bytes_eq (text m n) namespace) (cell_here k 2 numbers is)

  abbrev all : List ℕ
  all = range_with_len 1 (length (rows m type_defs))

  found_in_order : (name namespace : List ℕ) → find (is_named m (name, namespace)) all ≡ type_def_named m namespace name
  unfolding type_def_named
  found_in_order name namespace =
      listed (has_name m namespace name) (is_named m (name, namespace)) (rows m type_defs) 1 (agree name namespace)
      ∙ sym (ap (option_map (λ (k : ℕ). k + 1)) (position_from-zero (has_name m namespace name) (rows m type_defs))
      ∙ shifted (has_name m namespace name) (is_named m (name, namespace)) (rows m type_defs) 0)

  -- types that a stable sort by the names has put in order
  pub order_is : (types : List ℕ) → IsPermutation all types → IsSortedBy (precedes m) types → IsStableBy (precedes m) all types → IsByName m types
  order_is types moves sorted stable =
      let tied = λ (wanted : Key) (t : ℕ) (named : is_named m wanted t ≡ true) (list : List ℕ).
      filter_agree (ties (precedes m) t) (is_named m wanted) (λ other. ties_named m wanted t other named) list in
      record {
        sorted = sorted;
        finds = λ name namespace.
            same_found (is_named m (name, namespace)) all types
            (λ t named. sym (tied (name, namespace) t named types) ∙ stable t ∙ tied (name, namespace) t named all) moves
            ∙ found_in_order name namespace;
      }

  pub names_rank : IsStrictWeakOrder (precedes m)
  names_rank = ranks_by keys_total (key m)
