-- The core types: those of the usual library that a program may name, each by its place here. What
-- they extend, which of them are abstract, sealed or interfaces, and which interfaces they have is
-- as in the usual library (ECMA-335 IV and .NET's class library), as far as core types go.
use Rattle.std.specs.Prelude.{ℕ, List, [], ◌∷◌, ◌++◌, codes, position, bytes_eq, ◌&&◌, slice_get, Option, Some, None}

pub record CoreType : Type 0 where
  pub namespace : List ℕ
  pub name : List ℕ
  pub extends : Option ℕ
  pub flags : ℕ
  pub interfaces : List ℕ

-- flags of types (II.23.1.15): public; abstract, sealed, interface
abbrev pub open_class : List ℕ → List ℕ → ℕ → CoreType
open_class namespace name extends = record {
  namespace = namespace;
  name = name;
  extends = Some extends;
  flags = 0x1;
  interfaces = [];
}

abbrev pub sealed_class : List ℕ → List ℕ → ℕ → CoreType
sealed_class namespace name extends = record {
  namespace = namespace;
  name = name;
  extends = Some extends;
  flags = 0x101;
  interfaces = [];
}

abbrev pub abstract_class : List ℕ → List ℕ → ℕ → CoreType
abstract_class namespace name extends = record {
  namespace = namespace;
  name = name;
  extends = Some extends;
  flags = 0x81;
  interfaces = [];
}

abbrev pub static_class : List ℕ → List ℕ → ℕ → CoreType
static_class namespace name extends = record {
  namespace = namespace;
  name = name;
  extends = Some extends;
  flags = 0x181;
  interfaces = [];
}

abbrev pub system : List ℕ
system = codes "System"

abbrev pub interop_services : List ℕ
interop_services = codes "System.Runtime.InteropServices"

-- places that are spoken of one by one
abbrev pub object_place : ℕ
object_place = 0

abbrev pub value_type_place : ℕ
value_type_place = 1

abbrev pub enum_place : ℕ
enum_place = 2

abbrev pub array_place : ℕ
array_place = 3

abbrev pub string_place : ℕ
string_place = 4

abbrev pub boolean_place : ℕ
boolean_place = 5

abbrev pub char_place : ℕ
char_place = 6

abbrev pub int32_place : ℕ
int32_place = 11

abbrev pub int_ptr_place : ℕ
int_ptr_place = 15

abbrev pub uint_ptr_place : ℕ
uint_ptr_place = 16

abbrev pub void_place : ℕ
void_place = 17

abbrev pub delegate_place : ℕ
delegate_place = 22

abbrev pub multicast_delegate_place : ℕ
multicast_delegate_place = 23

abbrev pub disposable_place : ℕ
disposable_place = 24

abbrev pub safe_handle_place : ℕ
safe_handle_place = 30

abbrev pub exception_place : ℕ
exception_place = 32

abbrev pub system_exception_place : ℕ
system_exception_place = 33

abbrev pub basic_types : List CoreType
basic_types =
    (record { namespace = system; name = codes "Object"; extends = None; flags = 0x1; interfaces = [] })
    ∷ abstract_class system (codes "ValueType") object_place
    ∷ abstract_class system (codes "Enum") value_type_place
    ∷ abstract_class system (codes "Array") object_place
    ∷ sealed_class system (codes "String") object_place
    ∷ sealed_class system (codes "Boolean") value_type_place
    ∷ sealed_class system (codes "Char") value_type_place
    ∷ sealed_class system (codes "SByte") value_type_place
    ∷ sealed_class system (codes "Byte") value_type_place
    ∷ sealed_class system (codes "Int16") value_type_place
    ∷ sealed_class system (codes "UInt16") value_type_place
    ∷ sealed_class system (codes "Int32") value_type_place
    ∷ sealed_class system (codes "UInt32") value_type_place
    ∷ sealed_class system (codes "Int64") value_type_place
    ∷ sealed_class system (codes "UInt64") value_type_place
    ∷ sealed_class system (codes "IntPtr") value_type_place
    ∷ sealed_class system (codes "UIntPtr") value_type_place
    ∷ sealed_class system (codes "Void") value_type_place
    ∷ []

abbrev pub library_types : List CoreType
library_types =
    abstract_class system (codes "Type") object_place
    ∷ sealed_class system (codes "RuntimeTypeHandle") value_type_place
    ∷ sealed_class system (codes "RuntimeFieldHandle") value_type_place
    ∷ abstract_class system (codes "Attribute") object_place
    ∷ abstract_class system (codes "Delegate") object_place
    ∷ abstract_class system (codes "MulticastDelegate") delegate_place
    ∷ (record { namespace = system; name = codes "IDisposable"; extends = None; flags = 0xA1; interfaces = [] })
    ∷ static_class system (codes "Console") object_place
    ∷ static_class system (codes "Environment") object_place
    ∷ static_class system (codes "GC") object_place
    ∷ static_class (codes "System.Runtime.CompilerServices") (codes "RuntimeHelpers") object_place
    ∷ static_class interop_services (codes "Marshal") object_place
    ∷ (record { namespace = interop_services; name = codes "SafeHandle"; extends = Some object_place; flags = 0x81; interfaces = disposable_place ∷ [] })
    ∷ abstract_class (codes "Microsoft.Win32.SafeHandles") (codes "SafeHandleZeroOrMinusOneIsInvalid") safe_handle_place
    ∷ []

abbrev pub exception_types : List CoreType
exception_types =
    open_class system (codes "Exception") object_place  -- 32
    ∷ open_class system (codes "SystemException") exception_place
    ∷ open_class system (codes "ApplicationException") exception_place
    ∷ open_class system (codes "ArgumentException") system_exception_place  -- 35
    ∷ open_class system (codes "ArgumentNullException") 35
    ∷ open_class system (codes "ArgumentOutOfRangeException") 35
    ∷ open_class system (codes "ArithmeticException") system_exception_place  -- 38
    ∷ open_class system (codes "DivideByZeroException") 38
    ∷ open_class system (codes "OverflowException") 38
    ∷ open_class system (codes "ArrayTypeMismatchException") system_exception_place
    ∷ sealed_class system (codes "IndexOutOfRangeException") system_exception_place
    ∷ open_class system (codes "InvalidCastException") system_exception_place
    ∷ open_class system (codes "InvalidOperationException") system_exception_place  -- 44
    ∷ open_class system (codes "ObjectDisposedException") 44
    ∷ open_class system (codes "NullReferenceException") system_exception_place
    ∷ open_class system (codes "OutOfMemoryException") system_exception_place
    ∷ open_class system (codes "NotSupportedException") system_exception_place
    ∷ open_class system (codes "NotImplementedException") system_exception_place
    ∷ open_class system (codes "TypeLoadException") system_exception_place  -- 50
    ∷ open_class system (codes "DllNotFoundException") 50
    ∷ open_class system (codes "EntryPointNotFoundException") 50
    ∷ sealed_class system (codes "TypeInitializationException") system_exception_place
    ∷ open_class system (codes "AccessViolationException") system_exception_place
    ∷ sealed_class system (codes "InsufficientExecutionStackException") system_exception_place
    ∷ open_class interop_services (codes "MarshalDirectiveException") system_exception_place
    ∷ []

unfoldable pub core_types : List CoreType
core_types = basic_types ++ library_types ++ exception_types

abbrev pub core_count : ℕ
core_count = 57

-- the place of the core type with a namespace and a name
unfoldable pub core_named : List ℕ → List ℕ → Option ℕ
core_named namespace name =
    position (λ core. bytes_eq core.name name && bytes_eq core.namespace namespace) core_types

unfoldable pub core_at : ℕ → Option CoreType
core_at place = slice_get core_types place
