-- Places in order of names: what is found by them, and that sorting makes them so.
use Rattle.std.proofs.Common.{◌≡◌, ℕ, ◌+◌, Bool, true, false, not, ◌&&◌, cond, List, [], ◌∷◌, ◌++◌, map, length, Option, Some, None, refl, sym, ap, ◌∙◌, append_assoc}
use Rattle.std.specs.Prelude.{find, filter, slice_get, bytes_eq, option_map, option_and_then}
use Rattle.std.specs.Bool.{then_some}
use Rattle.std.specs.Cmp.{IsStrictWeakOrder, unsigned_ties}
use Rattle.std.specs.Cmp.Lexicographic.{slice_cmp, nat_list_cmp_total, lists_ties}
use Rattle.std.specs.List.{enumerate_from}
use Rattle.std.specs.List.Sorted.{IsPermutation, IsSortedBy, IsNonDecreasingBy, IsPartitionedBy, IsStableBy, ties}
use Rattle.std.specs.declared.cmp.Ordering.{Ordering}
use Rattle.std.specs.declared.cmp.Ordering.TheVariants.{Less, Equal, Greater}
use Rattle.std.specs.Ordering.{is_lt, is_eq, ordering_index, ordering_reverse, nat_cmp}
use Rattle.std.specs.Option.{option_map_or}
use Rattle.std.proofs.lemmas.List.{length_push}
use Rattle.std.proofs.lemmas.List.Elements.{filter_agree}
use Rattle.std.proofs.lemmas.List.Sorted.{searchable_from_sorted, ranks_by}
use Rattle.std.proofs.lemmas.Slice.Eq.{bytes_eq-Decides}
use Rattle.elf_binder.specs.declared.module.Export.{Export}
use Rattle.elf_binder.specs.Modules.{has_name}
use Rattle.elf_binder.specs.Index.{export_name, compared, precedes, SplitsAt, is_named, is_wanted, indexes_of, IsByName}
use Rattle.elf_binder.proofs.Finding.{hit, find_equal, parted, same_found}

named_is : (exports : List Export) (name : List ℕ) (place : ℕ) → is_named exports name place ≡ is_eq (compared exports name place)
named_is exports name place = lists_ties nat_cmp unsigned_ties (export_name exports place) name

module _ (exports : List Export) (places : List ℕ) (name : List ℕ) (sorted : IsSortedBy (precedes exports) places) where
  rises : IsNonDecreasingBy (λ place. ordering_index (compared exports name place)) places
  rises = searchable_from_sorted nat_list_cmp_total (export_name exports) places name sorted

  pub names_parted : IsPartitionedBy (λ place. is_lt (compared exports name place)) places
  names_parted = parted (compared exports name) places rises

  -- what bisection finds is the first place of the name
  pub find_named : (at : ℕ) → SplitsAt exports name places at
      → find (is_named exports name) places ≡ hit (is_named exports name) (slice_get places at)
  find_named at point =
      let same : is_named exports name ≡ (λ place. is_eq (compared exports name place)) = λ i. λ place. named_is exports name place i in
      ap (λ (test : ℕ → Bool). find test places) same
      ∙ find_equal (compared exports name) places rises at point
      ∙ ap (λ (test : ℕ → Bool). hit test (slice_get places at)) (sym same)

  module _ (at : ℕ) (point : SplitsAt exports name places at) where
    -- the address of what bisection finds
    abbrev found_by : Option ℕ → Option ℕ
    found_by place = option_map (λ (e : Export). e.address) (option_and_then (slice_get exports) (hit (is_named exports name) place))

    address_found : option_map (λ (e : Export). e.address) (option_and_then (slice_get exports) (find (is_named exports name) places)) ≡ found_by (slice_get places at)
    address_found = ap (λ (o : Option ℕ). option_map (λ (e : Export). e.address) (option_and_then (slice_get exports) o)) (find_named at point)

    pub found_nowhere : slice_get places at ≡ None
        → None ≡ option_map (λ (e : Export). e.address) (option_and_then (slice_get exports) (find (is_named exports name) places))
    found_nowhere end = sym (address_found ∙ ap found_by end)

    nothing_if : (place : ℕ) (named : Bool) → slice_get exports place ≡ None
        → option_map (λ (e : Export). e.address) (option_and_then (slice_get exports) (cond named (Some place) None)) ≡ None
    nothing_if place true none = ap (option_map (λ (e : Export). e.address)) none
    nothing_if place false none = refl

    pub found_nothing : (place : ℕ) → slice_get places at ≡ Some place → slice_get exports place ≡ None
        → None ≡ option_map (λ (e : Export). e.address) (option_and_then (slice_get exports) (find (is_named exports name) places))
    found_nothing place first none =
        sym (address_found ∙ ap found_by first ∙ nothing_if place (is_named exports name place) none)

    address_if : (place : ℕ) (export : Export) (named : Bool) → slice_get exports place ≡ Some export
        → option_map (λ (e : Export). e.address) (option_and_then (slice_get exports) (cond named (Some place) None)) ≡ then_some named export.address
    address_if place export true some = ap (option_map (λ (e : Export). e.address)) some
    address_if place export false some = refl

    pub found_export : (place : ℕ) (export : Export) → slice_get places at ≡ Some place → slice_get exports place ≡ Some export
        → then_some (bytes_eq export.name name) export.address
        ≡ option_map (λ (e : Export). e.address) (option_and_then (slice_get exports) (find (is_named exports name) places))
    found_export place export first some =
        sym
        (address_found
        ∙ ap found_by first
        ∙ address_if place export (is_named exports name place) some
        ∙ ap (λ (o : Option Export). then_some (bytes_eq (option_map_or (λ (e : Export). e.name) o []) name) export.address) some)

tied_are_equal : (r s : Ordering) → r ≡ ordering_reverse s → (not (is_lt r) && not (is_lt s)) ≡ is_eq s
tied_are_equal r Less is = ap (λ o. not (is_lt o) && false) is
tied_are_equal r Equal is = ap (λ o. not (is_lt o) && true) is
tied_are_equal r Greater is = ap (λ o. not (is_lt o) && true) is

-- places whose names tie with one of a name have that name
ties_named : (exports : List Export) (name : List ℕ) (place other : ℕ) → is_named exports name place ≡ true
    → ties (precedes exports) place other ≡ is_named exports name other
ties_named exports name place other named =
    tied_are_equal _ _ (nat_list_cmp_total.antisymm (export_name exports place) (export_name exports other))
    ∙ ap (λ (n : List ℕ). is_eq (slice_cmp nat_cmp (export_name exports other) n)) ((bytes_eq-Decides (export_name exports place) name).0 named)
    ∙ sym (named_is exports name other)

there : (front : List Export) (export : Export) (more : List Export) → slice_get (front ++ export ∷ more) (length front) ≡ Some export
there [] export more = refl
there (first ∷ front) export more = there front export more

module _ (only_callable : Bool) (exports : List Export) (name : List ℕ) where
  -- the places of some exports that are wanted, which stand from a place on
  abbrev places_from : ℕ → List Export → List ℕ
  places_from n rest = map (λ entry. entry.0) (filter (λ entry. is_wanted only_callable entry.1) (enumerate_from n rest))

  abbrev found_from : ℕ → List Export → Option Export
  found_from n rest = option_and_then (slice_get exports) (find (is_named exports name) (places_from n rest))

  abbrev first_wanted : List Export → Option Export
  first_wanted = find (λ export. is_wanted only_callable export && has_name name export)

  module _ (export : Export) (rest : List Export) (n : ℕ) (stands : slice_get exports n ≡ Some export) (found : found_from (n + 1) rest ≡ first_wanted rest) where
    named_here : (named : Bool)
        → option_and_then (slice_get exports) (cond named (Some n) (find (is_named exports name) (places_from (n + 1) rest)))
        ≡ cond named (Some export) (first_wanted rest)
    named_here true = stands
    named_here false = found

    wanted_here : (wanted : Bool)
        → option_and_then (slice_get exports) (find (is_named exports name) (map (λ entry. entry.0) (cond wanted ((n, export) ∷ filter (λ entry. is_wanted only_callable entry.1) (enumerate_from (n + 1) rest)) (filter (λ entry. is_wanted only_callable entry.1) (enumerate_from (n + 1) rest)))))
        ≡ cond (wanted && has_name name export) (Some export) (first_wanted rest)
    wanted_here true =
        ap
        (λ (o : Option Export). option_and_then (slice_get exports) (cond (bytes_eq (option_map_or (λ (e : Export). e.name) o []) name) (Some n) (find (is_named exports name) (places_from (n + 1) rest))))
        stands
        ∙ named_here (has_name name export)
    wanted_here false = found

  listed : (front rest : List Export) → exports ≡ front ++ rest → found_from (length front) rest ≡ first_wanted rest
  listed front [] is = refl
  listed front (export ∷ rest) is =
      let long : length (front ++ export ∷ []) ≡ length front + 1 = length_push front export in
      let more : found_from (length (front ++ export ∷ [])) rest ≡ first_wanted rest = listed (front ++ export ∷ []) rest (is ∙ sym (append_assoc front (export ∷ []) rest)) in
      wanted_here export rest (length front)
      (ap (λ (l : List Export). slice_get l (length front)) is ∙ there front export rest)
      (ap (λ (k : ℕ). found_from k rest) (sym long) ∙ more)
      (is_wanted only_callable export)

  -- by the places in their order the first export of the name is found
  found_in_order : found_from 0 exports ≡ first_wanted exports
  found_in_order = listed [] exports refl

-- places that a stable sort by the names has put in order
pub index_is : (only_callable : Bool) (exports : List Export) (places : List ℕ) → IsPermutation (indexes_of only_callable exports) places
    → IsSortedBy (precedes exports) places → IsStableBy (precedes exports) (indexes_of only_callable exports) places
    → IsByName only_callable exports places
index_is only_callable exports places moves sorted stable =
    let tied = λ (name : List ℕ) (place : ℕ) (named : is_named exports name place ≡ true) (list : List ℕ).
    filter_agree (ties (precedes exports) place) (is_named exports name) (λ other. ties_named exports name place other named) list in
    record {
      sorted = sorted;
      finds = λ name.
          ap (option_and_then (slice_get exports))
          (same_found (is_named exports name) (indexes_of only_callable exports) places
          (λ place named. sym (tied name place named places) ∙ stable place ∙ tied name place named (indexes_of only_callable exports)) moves)
          ∙ found_in_order only_callable exports name;
    }

pub names_rank : (exports : List Export) → IsStrictWeakOrder (precedes exports)
names_rank exports = ranks_by nat_list_cmp_total (export_name exports)
