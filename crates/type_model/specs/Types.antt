-- What types extend, which are value types, enums, delegates and handles, and their fields
-- (ECMA-335 II.10, II.13, II.14).
use Rattle.std.specs.Prelude.{ℕ, zero, suc, ◌+◌, ◌-◌, Bool, true, false, not, ◌==◌, ◌&&◌, ◌||◌, nat_lt, nat_le, List, [], ◌∷◌, filter, reverse, slice_index, bytes_eq, codes, find, Option, Some, None, option_map, option_and_then, bit_and, if◌then◌else◌}
use Rattle.std.specs.List.{range_with_len, flat_map, list_any}
use Rattle.managed_value.specs.declared.names.TypeId.{TypeId}
use Rattle.sig_reader.specs.declared.signature.TypeSig.{TypeSig, out-TypeSig}
use Rattle.sig_reader.specs.declared.signature.Sig.{Sig}
use Rattle.sig_reader.specs.declared.signature.TypeSig.TheOpen.{TypeSig-F}
use Rattle.sig_reader.specs.Reading.{field_sig}
use Rattle.type_model.specs.Module.{Module, row, row_count, blob}
use Rattle.type_model.specs.Rows
use Rattle.type_model.specs.Core as core
use Rattle.type_model.specs.TypeIds.{row_limit, core_id, same_type, is_core, named, coded_token, type_of}

-- a type that extends an array extends Array
abbrev pub as_base : TypeId → TypeId
as_base id = if id.arrays == 0 then id else core_id core.array_place

-- What a type extends: Array for an array; for a core type by the table; for a type of the file what
-- its row names, where it names something.
unfoldable pub extends_of : Module → TypeId → Option TypeId
extends_of m id =
    if nat_lt 0 id.arrays then Some (core_id core.array_place)
    else if is_core id.base
    then option_map core_id
    (option_and_then (λ known. known.extends) (core.core_at (id.base - row_limit)))
    else option_map as_base (named m (coded_token (Rows.type_extends m id.base)))

abbrev pub and_bases : (TypeId → List TypeId) → Option TypeId → List TypeId
and_bases bases None = []
and_bases bases (Some base) = base ∷ bases base

-- what a type extends, what that extends, and so on, so many
unfoldable pub bases_within : ℕ → Module → TypeId → List TypeId
bases_within zero m id = []
bases_within (suc n) m id = and_bases (bases_within n m) (extends_of m id)

-- No chain of an accepted file is longer: it has each type of the file at most once, and then core
-- types.
unfoldable pub bases : Module → TypeId → List TypeId
bases m id = bases_within (row_count m Rows.type_defs + core.core_count) m id

-- a type is another's base, at any distance
unfoldable pub is_below : Module → TypeId → TypeId → Bool
is_below m id base = list_any (same_type base) (bases m id)

-- a value type is below ValueType; Enum itself is a class (I.8.9.7)
unfoldable pub is_value_type : Module → TypeId → Bool
is_value_type m id =
    is_below m id (core_id core.value_type_place) && not (same_type (core_id core.enum_place) id)

-- a delegate type is a type of the file below Delegate (II.14.6)
unfoldable pub is_delegate : Module → TypeId → Bool
is_delegate m id = not (is_core id.base) && is_below m id (core_id core.delegate_place)

-- a class of handles is SafeHandle or below it
unfoldable pub is_handle : Module → TypeId → Bool
is_handle m id =
    same_type (core_id core.safe_handle_place) id || is_below m id (core_id core.safe_handle_place)

-- a field that each object has for itself: one that isn't static (II.23.1.5)
abbrev pub is_instance : Module → ℕ → Bool
is_instance m f = bit_and (Rows.field_flags m f) 0x10 == 0

-- the rows of a run
abbrev pub run : ℕ → ℕ → List ℕ
run first end = range_with_len first (end - first)

-- the rows of Field of a type of the file, and those among them that are instance fields
abbrev pub declared_fields : Module → ℕ → List ℕ
declared_fields m t = run (Rows.first_field m t) (Rows.end_of_fields m t)

abbrev pub own_fields : Module → ℕ → List ℕ
own_fields m t = filter (is_instance m) (declared_fields m t)

-- the field that SafeHandle has, the value of the handle, by the place of that core member
abbrev pub handle_field : ℕ
handle_field = row_limit + 0

-- the instance fields that a type has beside those of its bases: rows of Field, or SafeHandle's
abbrev pub fields_of_one : Module → TypeId → List ℕ
fields_of_one m id =
    if nat_lt 0 id.arrays then []
    else if is_core id.base
    then (if id.base == row_limit + core.safe_handle_place then handle_field ∷ [] else [])
    else own_fields m id.base

-- the instance fields of a type, those of its farthest base first
unfoldable pub instance_fields : Module → TypeId → List ℕ
instance_fields m id = flat_map (fields_of_one m) (reverse (id ∷ bases m id))

-- a field's signature, by its row of Field; None outside the grammar (II.23.2.4)
abbrev pub field_sig_in : Module → List ℕ → Option TypeSig
field_sig_in m numbers = field_sig (blob m (slice_index numbers 2))

unfoldable pub field_sig_of : Module → ℕ → Option TypeSig
field_sig_of m f = option_and_then (field_sig_in m) (row m Rows.fields f)

-- the type of a field's signature
unfoldable pub field_type : Module → ℕ → Option TypeId
field_type m f = option_and_then (type_of m) (field_sig_of m f)

-- the core types that are integers: those of 1 to 8 bytes, IntPtr and UIntPtr
abbrev pub is_integer_place : ℕ → Bool
is_integer_place place =
    nat_le 7 place && nat_le place 16

-- the integer type that a type of a signature is; a pointer is none
abbrev pub integer_id : TypeId → Option ℕ
integer_id id =
    if id.arrays == 0 && is_core id.base && is_integer_place (id.base - row_limit)
    then Some (id.base - row_limit)
    else None

abbrev pub is_pointer_step : TypeSig-F TypeSig Sig → Bool
is_pointer_step (TypeSig-F.Ptr to) = true
is_pointer_step _ = false

unfoldable pub integer_of : Module → TypeSig → Option ℕ
integer_of m sig =
    if is_pointer_step (out-TypeSig sig) then None else option_and_then integer_id (type_of m sig)

-- the one of a list that has just one
abbrev pub only : {A : Type 0} → List A → Option A
only [] = None
only (x ∷ []) = Some x
only (x ∷ y ∷ more) = None

-- The integer type of an enum, by its place among the core types: an enum is a type of the file
-- below Enum that has just one instance field, of an integer type (II.14.3).
unfoldable pub enum_of : Module → TypeId → Option ℕ
enum_of m id =
    if not (is_core id.base) && is_below m id (core_id core.enum_place)
    then option_and_then (λ f. option_and_then (integer_of m) (field_sig_of m f))
    (only (instance_fields m id))
    else None

-- the method that a delegate's call is: of a type of the file, the first that is named Invoke
unfoldable pub invoke_of : Module → TypeId → Option ℕ
invoke_of m id =
    if nat_lt 0 id.arrays || is_core id.base then None
    else find (λ n. bytes_eq (Rows.method_name m n) (codes "Invoke"))
    (run (Rows.first_method m id.base) (Rows.end_of_methods m id.base))
