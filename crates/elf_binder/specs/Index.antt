-- Indexes of exports in order of the exports' names, by which a name is found without going
-- through all of them.
use Rattle.std.specs.Prelude.{◌≡◌, ℕ, Bool, true, false, not, ◌&&◌, ◌||◌, List, [], map, filter, find, bytes_eq, slice_get, option_and_then}
use Rattle.std.specs.Cmp.Lexicographic.{slice_cmp}
use Rattle.std.specs.List.{enumerate_from}
use Rattle.std.specs.List.Sorted.{IsSortedBy, IsPartitionPoint}
use Rattle.std.specs.Option.{option_map_or}
use Rattle.std.specs.declared.cmp.Ordering.{Ordering}
use Rattle.std.specs.Ordering.{is_lt, nat_cmp}
use Rattle.elf_binder.specs.declared.module.Export.{Export}
use Rattle.elf_binder.specs.Modules.{has_name}

-- the name of the export of an index, no bytes where there is none
abbrev pub export_name : List Export → ℕ → List ℕ
export_name exports index = option_map_or (λ export. export.name) (slice_get exports index) []

-- how the name of the export of an index compares with a name
abbrev pub compared : List Export → List ℕ → ℕ → Ordering
compared exports name index = slice_cmp nat_cmp (export_name exports index) name

-- the order of indexes by the names of their exports
abbrev pub order : List Export → ℕ → ℕ → Ordering
order exports a b = compared exports (export_name exports b) a

abbrev pub precedes : List Export → ℕ → ℕ → Bool
precedes exports a b = is_lt (order exports a b)

-- of the indexes, just those before this position have names before the name
abbrev pub SplitsAt : List Export → List ℕ → List ℕ → ℕ → Type 0
SplitsAt exports name indexes at =
    IsPartitionPoint (λ index. is_lt (compared exports name index) ≡ true)
    (λ index. is_lt (compared exports name index) ≡ false) indexes at

abbrev pub is_named : List Export → List ℕ → ℕ → Bool
is_named exports name index = bytes_eq (export_name exports index) name

-- all exports, or just those that may be called
abbrev pub is_wanted : Bool → Export → Bool
is_wanted only_callable export = not only_callable || export.callable

-- the indexes of the exports that are wanted, in their order
abbrev pub indexes_of : Bool → List Export → List ℕ
indexes_of only_callable exports =
    map (λ entry. entry.0)
    (filter (λ entry. is_wanted only_callable entry.1) (enumerate_from 0 exports))

-- The indexes are in order of the names, and the first index of a name is that of the first
-- export of this name that is wanted.
pub record IsByName (only_callable : Bool) (exports : List Export) (indexes : List ℕ) : Type 0 where
  pub sorted : IsSortedBy (precedes exports) indexes
  pub finds :
      (name : List ℕ) → option_and_then (slice_get exports) (find (is_named exports name) indexes)
      ≡ find (λ export. is_wanted only_callable export && has_name name export) exports
