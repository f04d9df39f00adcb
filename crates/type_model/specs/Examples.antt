-- The core types of which definitions speak by a place, by their names.
use Rattle.std.specs.Prelude.{◌≡◌, ℕ, List, length, codes, Some}
use Rattle.type_model.specs.Core

-- the place of a type of the namespace System
abbrev pub IsPlaceOf : List ℕ → ℕ → Type 0
IsPlaceOf name place = Core.core_named Core.system name ≡ Some place

-- the integers have the places from 7 to 16
pub record IntegerPlaces : Type 0 where
  pub sbyte : IsPlaceOf (codes "SByte") 7
  pub byte : IsPlaceOf (codes "Byte") 8
  pub int16 : IsPlaceOf (codes "Int16") 9
  pub uint16 : IsPlaceOf (codes "UInt16") 10
  pub int32 : IsPlaceOf (codes "Int32") Core.int32_place
  pub uint32 : IsPlaceOf (codes "UInt32") 12
  pub int64 : IsPlaceOf (codes "Int64") 13
  pub uint64 : IsPlaceOf (codes "UInt64") 14
  pub int_ptr : IsPlaceOf (codes "IntPtr") Core.int_ptr_place
  pub uint_ptr : IsPlaceOf (codes "UIntPtr") Core.uint_ptr_place

pub record CorePlacesAreNamed : Type 0 where
  pub object : IsPlaceOf (codes "Object") Core.object_place
  pub value_type : IsPlaceOf (codes "ValueType") Core.value_type_place
  pub enum : IsPlaceOf (codes "Enum") Core.enum_place
  pub array : IsPlaceOf (codes "Array") Core.array_place
  pub string : IsPlaceOf (codes "String") Core.string_place
  pub boolean : IsPlaceOf (codes "Boolean") Core.boolean_place
  pub char : IsPlaceOf (codes "Char") Core.char_place
  pub integers : IntegerPlaces
  pub void : IsPlaceOf (codes "Void") Core.void_place
  pub delegate : IsPlaceOf (codes "Delegate") Core.delegate_place
  pub multicast_delegate : IsPlaceOf (codes "MulticastDelegate") Core.multicast_delegate_place
  pub disposable : IsPlaceOf (codes "IDisposable") Core.disposable_place
  pub safe_handle : Core.core_named Core.interop_services (codes "SafeHandle") ≡ Some Core.safe_handle_place
  pub exception : IsPlaceOf (codes "Exception") Core.exception_place
  pub system_exception : IsPlaceOf (codes "SystemException") Core.system_exception_place
  pub count : length Core.core_types ≡ Core.core_count
