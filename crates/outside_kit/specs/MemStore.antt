-- What a store in memory holds, and its calls.
use Rattle.std.specs.Prelude.{◌≡◌, ℕ, Bool, true, false, List, Some, Result, Ok, Err}
use Rattle.std.specs.BTreeMap.{get_by_text}
use Rattle.std.specs.Str.{bytes_eq}
use Rattle.std.specs.Map.{update}
use Rattle.bound_base.specs.Outside.{Files}
use Rattle.bound_base.specs.declared.outside.StoreFault.{StoreFault}
use Rattle.bound_base.specs.declared.outside.StoreFault.TheVariants.{Absent, Failed, Memory}
use Rattle.outside_kit.specs.declared.calls.Calls.{Calls}
use Rattle.outside_kit.specs.declared.mem_store.MemStore.{MemStore}

-- what is held under each name
abbrev pub store_files : MemStore → Files
store_files store = get_by_text store.files

abbrev pub store_calls : MemStore → Calls
store_calls store = store.calls

-- These bytes are held under the name, and under each other name what was.
abbrev pub IsHeldAs : Files → Files → List ℕ → List ℕ → Type 0
IsHeldAs old new name bytes =
    (other : List ℕ) → new other ≡ update bytes_eq old name (Some bytes) other

-- the read counts as one that failed
abbrev pub has_failed : Result ℕ StoreFault → Bool
has_failed (Ok n) = false
has_failed (Err Absent) = false
has_failed (Err Failed) = true
has_failed (Err Memory) = false
