-- The types of a file in order of their names, by which a name is found without going through all
-- of them.
use Rattle.std.specs.Prelude.{◌≡◌, ℕ, Bool, true, false, ◌&&◌, List, find, bytes_eq}
use Rattle.std.specs.Cmp.Lexicographic.{slice_cmp}
use Rattle.std.specs.List.Sorted.{IsSortedBy, IsPartitionPoint}
use Rattle.std.specs.declared.cmp.Ordering.{Ordering}
use Rattle.std.specs.Ordering.{is_lt, nat_cmp, ordering_then}
use Rattle.type_model.specs.Module.{Module}
use Rattle.type_model.specs.Rows.{type_name, type_namespace}
use Rattle.type_model.specs.TypeIds.{type_def_named}

-- the name and the namespace of a type, by its row
abbrev pub key : Module → ℕ → List ℕ × List ℕ
key m t = (type_name m t, type_namespace m t)

abbrev pub key_cmp : List ℕ × List ℕ → List ℕ × List ℕ → Ordering
key_cmp a b = ordering_then (slice_cmp nat_cmp a.0 b.0) (slice_cmp nat_cmp a.1 b.1)

-- how the key of a type compares with a key
abbrev pub compared : Module → List ℕ × List ℕ → ℕ → Ordering
compared m wanted t = key_cmp (key m t) wanted

-- the order of types by their keys
abbrev pub order : Module → ℕ → ℕ → Ordering
order m a b = compared m (key m b) a

abbrev pub precedes : Module → ℕ → ℕ → Bool
precedes m a b = is_lt (order m a b)

-- of the types, just those before this position have keys before the key
abbrev pub SplitsAt : Module → List ℕ × List ℕ → List ℕ → ℕ → Type 0
SplitsAt m wanted types at =
    IsPartitionPoint (λ t. is_lt (compared m wanted t) ≡ true)
    (λ t. is_lt (compared m wanted t) ≡ false) types at

abbrev pub is_named : Module → List ℕ × List ℕ → ℕ → Bool
is_named m wanted t =
    bytes_eq (type_name m t) wanted.0 && bytes_eq (type_namespace m t) wanted.1

-- The types are in order of their keys, and the first of a key is the first type of the file that has
-- it.
pub record IsByName (m : Module) (types : List ℕ) : Type 0 where
  pub sorted : IsSortedBy (precedes m) types
  pub finds :
      (name namespace : List ℕ)
      → find (is_named m (name, namespace)) types ≡ type_def_named m namespace name
