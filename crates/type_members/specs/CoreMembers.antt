-- The members of core types that a program may name, each by its place here. Owners and types are places of core types
-- (ECMA-335 IV and .NET's class library); a property stands for its reading method.
use Rattle.std.specs.Prelude.{ℕ, List, [], ◌∷◌, ◌++◌, codes, slice_get, Option}
use Rattle.std.specs.List.{range_with_len, flat_map}
use Rattle.type_members.specs.declared.core_members.MemberKind.{MemberKind}
use Rattle.type_members.specs.declared.core_members.MemberKind.TheVariants.{Static, Instance, Virtual, StaticField, InstanceField}
use Rattle.type_members.specs.declared.core_members.CorePart.{CorePart}
use Rattle.type_members.specs.declared.core_members.CorePart.TheVariants.{Of, ArrayOf, RefTo}

pub record CoreMember : Type 0 where
  pub owner : ℕ
  pub name : List ℕ
  pub kind : MemberKind
  pub params : List CorePart
  pub result : CorePart

abbrev pub member : ℕ → List ℕ → MemberKind → List CorePart → CorePart → CoreMember
member owner name kind params result =
    record { owner = owner; name = name; kind = kind; params = params; result = result }

-- the field of SafeHandle, of which it is spoken by its place
abbrev pub handle_field_members : List CoreMember
handle_field_members =
    member 30 (codes "handle") InstanceField [] (Of 15)
    ∷ []

-- Object and String
abbrev pub basic_members : List CoreMember
basic_members =
    member 0 (codes ".ctor") Instance [] (Of 17)
    ∷ member 0 (codes "ReferenceEquals") Static (Of 0 ∷ Of 0 ∷ []) (Of 5)
    ∷ member 4 (codes "get_Length") Instance [] (Of 11)
    ∷ member 4 (codes "get_Chars") Instance (Of 11 ∷ []) (Of 6)
    ∷ member 4 (codes "Empty") StaticField [] (Of 4)
    ∷ member 4 (codes "Concat") Static (Of 4 ∷ Of 4 ∷ []) (Of 4)
    ∷ member 4 (codes "Concat") Static (Of 4 ∷ Of 4 ∷ Of 4 ∷ []) (Of 4)
    ∷ member 4 (codes "Concat") Static (Of 4 ∷ Of 4 ∷ Of 4 ∷ Of 4 ∷ []) (Of 4)
    ∷ member 4 (codes "op_Equality") Static (Of 4 ∷ Of 4 ∷ []) (Of 5)
    ∷ member 4 (codes "op_Inequality") Static (Of 4 ∷ Of 4 ∷ []) (Of 5)
    ∷ member 4 (codes "Equals") Instance (Of 4 ∷ []) (Of 5)
    ∷ []

-- numbers, Boolean, Char, IntPtr and UIntPtr
abbrev pub number_members : List CoreMember
number_members =
    member 5 (codes "ToString") Instance [] (Of 4)
    ∷ member 6 (codes "ToString") Instance [] (Of 4)
    ∷ member 7 (codes "ToString") Instance [] (Of 4)
    ∷ member 8 (codes "ToString") Instance [] (Of 4)
    ∷ member 9 (codes "ToString") Instance [] (Of 4)
    ∷ member 10 (codes "ToString") Instance [] (Of 4)
    ∷ member 11 (codes "ToString") Instance [] (Of 4)
    ∷ member 12 (codes "ToString") Instance [] (Of 4)
    ∷ member 13 (codes "ToString") Instance [] (Of 4)
    ∷ member 14 (codes "ToString") Instance [] (Of 4)
    ∷ member 15 (codes "ToString") Instance [] (Of 4)
    ∷ member 16 (codes "ToString") Instance [] (Of 4)
    ∷ member 15 (codes "Zero") StaticField [] (Of 15)
    ∷ member 15 (codes "ToInt32") Instance [] (Of 11)
    ∷ member 15 (codes "ToInt64") Instance [] (Of 13)
    ∷ member 15 (codes "op_Equality") Static (Of 15 ∷ Of 15 ∷ []) (Of 5)
    ∷ member 15 (codes "op_Inequality") Static (Of 15 ∷ Of 15 ∷ []) (Of 5)
    ∷ member 15 (codes "op_Explicit") Static (Of 11 ∷ []) (Of 15)
    ∷ member 15 (codes "op_Explicit") Static (Of 13 ∷ []) (Of 15)
    ∷ member 15 (codes "op_Explicit") Static (Of 15 ∷ []) (Of 11)
    ∷ member 15 (codes "op_Explicit") Static (Of 15 ∷ []) (Of 13)
    ∷ member 15 (codes ".ctor") Instance (Of 11 ∷ []) (Of 17)
    ∷ member 15 (codes ".ctor") Instance (Of 13 ∷ []) (Of 17)
    ∷ []

-- Console, Environment, GC, RuntimeHelpers and Type
abbrev pub library_members : List CoreMember
library_members =
    member 25 (codes "Write") Static (Of 4 ∷ []) (Of 17)
    ∷ member 25 (codes "Write") Static (Of 11 ∷ []) (Of 17)
    ∷ member 25 (codes "Write") Static (Of 12 ∷ []) (Of 17)
    ∷ member 25 (codes "Write") Static (Of 13 ∷ []) (Of 17)
    ∷ member 25 (codes "Write") Static (Of 14 ∷ []) (Of 17)
    ∷ member 25 (codes "Write") Static (Of 6 ∷ []) (Of 17)
    ∷ member 25 (codes "Write") Static (Of 5 ∷ []) (Of 17)
    ∷ member 25 (codes "WriteLine") Static (Of 4 ∷ []) (Of 17)
    ∷ member 25 (codes "WriteLine") Static (Of 11 ∷ []) (Of 17)
    ∷ member 25 (codes "WriteLine") Static (Of 12 ∷ []) (Of 17)
    ∷ member 25 (codes "WriteLine") Static (Of 13 ∷ []) (Of 17)
    ∷ member 25 (codes "WriteLine") Static (Of 14 ∷ []) (Of 17)
    ∷ member 25 (codes "WriteLine") Static (Of 6 ∷ []) (Of 17)
    ∷ member 25 (codes "WriteLine") Static (Of 5 ∷ []) (Of 17)
    ∷ member 25 (codes "WriteLine") Static [] (Of 17)
    ∷ member 26 (codes "Exit") Static (Of 11 ∷ []) (Of 17)
    ∷ member 27 (codes "KeepAlive") Static (Of 0 ∷ []) (Of 17)
    ∷ member 28 (codes "InitializeArray") Static (Of 3 ∷ Of 20 ∷ []) (Of 17)
    ∷ member 18 (codes "GetTypeFromHandle") Static (Of 19 ∷ []) (Of 18)
    ∷ []

-- IDisposable and SafeHandle
abbrev pub handle_members : List CoreMember
handle_members =
    member 24 (codes "Dispose") Virtual [] (Of 17)
    ∷ member 30 (codes ".ctor") Instance (Of 15 ∷ Of 5 ∷ []) (Of 17)
    ∷ member 30 (codes "SetHandle") Instance (Of 15 ∷ []) (Of 17)
    ∷ member 30 (codes "get_IsClosed") Instance [] (Of 5)
    ∷ member 30 (codes "get_IsInvalid") Virtual [] (Of 5)
    ∷ member 30 (codes "ReleaseHandle") Virtual [] (Of 5)
    ∷ member 30 (codes "DangerousGetHandle") Instance [] (Of 15)
    ∷ member 30 (codes "DangerousAddRef") Instance (RefTo 5 ∷ []) (Of 17)
    ∷ member 30 (codes "DangerousRelease") Instance [] (Of 17)
    ∷ member 30 (codes "Dispose") Instance [] (Of 17)
    ∷ member 30 (codes "Close") Instance [] (Of 17)
    ∷ member 31 (codes ".ctor") Instance (Of 5 ∷ []) (Of 17)
    ∷ member 31 (codes "get_IsInvalid") Virtual [] (Of 5)
    ∷ []

-- Marshal
abbrev pub marshal_members : List CoreMember
marshal_members =
    member 29 (codes "GetLastWin32Error") Static [] (Of 11)
    ∷ member 29 (codes "GetLastPInvokeError") Static [] (Of 11)
    ∷ member 29 (codes "SetLastPInvokeError") Static (Of 11 ∷ []) (Of 17)
    ∷ member 29 (codes "SizeOf") Static (Of 18 ∷ []) (Of 11)
    ∷ member 29 (codes "AllocHGlobal") Static (Of 11 ∷ []) (Of 15)
    ∷ member 29 (codes "AllocHGlobal") Static (Of 15 ∷ []) (Of 15)
    ∷ member 29 (codes "FreeHGlobal") Static (Of 15 ∷ []) (Of 17)
    ∷ member 29 (codes "ReadByte") Static (Of 15 ∷ []) (Of 8)
    ∷ member 29 (codes "ReadByte") Static (Of 15 ∷ Of 11 ∷ []) (Of 8)
    ∷ member 29 (codes "ReadInt16") Static (Of 15 ∷ []) (Of 9)
    ∷ member 29 (codes "ReadInt16") Static (Of 15 ∷ Of 11 ∷ []) (Of 9)
    ∷ member 29 (codes "ReadInt32") Static (Of 15 ∷ []) (Of 11)
    ∷ member 29 (codes "ReadInt32") Static (Of 15 ∷ Of 11 ∷ []) (Of 11)
    ∷ member 29 (codes "ReadInt64") Static (Of 15 ∷ []) (Of 13)
    ∷ member 29 (codes "ReadInt64") Static (Of 15 ∷ Of 11 ∷ []) (Of 13)
    ∷ member 29 (codes "ReadIntPtr") Static (Of 15 ∷ []) (Of 15)
    ∷ member 29 (codes "ReadIntPtr") Static (Of 15 ∷ Of 11 ∷ []) (Of 15)
    ∷ member 29 (codes "WriteByte") Static (Of 15 ∷ Of 8 ∷ []) (Of 17)
    ∷ member 29 (codes "WriteByte") Static (Of 15 ∷ Of 11 ∷ Of 8 ∷ []) (Of 17)
    ∷ member 29 (codes "WriteInt16") Static (Of 15 ∷ Of 9 ∷ []) (Of 17)
    ∷ member 29 (codes "WriteInt16") Static (Of 15 ∷ Of 11 ∷ Of 9 ∷ []) (Of 17)
    ∷ member 29 (codes "WriteInt32") Static (Of 15 ∷ Of 11 ∷ []) (Of 17)
    ∷ member 29 (codes "WriteInt32") Static (Of 15 ∷ Of 11 ∷ Of 11 ∷ []) (Of 17)
    ∷ member 29 (codes "WriteInt64") Static (Of 15 ∷ Of 13 ∷ []) (Of 17)
    ∷ member 29 (codes "WriteInt64") Static (Of 15 ∷ Of 11 ∷ Of 13 ∷ []) (Of 17)
    ∷ member 29 (codes "WriteIntPtr") Static (Of 15 ∷ Of 15 ∷ []) (Of 17)
    ∷ member 29 (codes "WriteIntPtr") Static (Of 15 ∷ Of 11 ∷ Of 15 ∷ []) (Of 17)
    ∷ member 29 (codes "PtrToStringAnsi") Static (Of 15 ∷ []) (Of 4)
    ∷ member 29 (codes "PtrToStringUTF8") Static (Of 15 ∷ []) (Of 4)
    ∷ member 29 (codes "PtrToStringUni") Static (Of 15 ∷ []) (Of 4)
    ∷ member 29 (codes "StringToHGlobalAnsi") Static (Of 4 ∷ []) (Of 15)
    ∷ member 29 (codes "StringToHGlobalUni") Static (Of 4 ∷ []) (Of 15)
    ∷ member 29 (codes "Copy") Static (ArrayOf 8 ∷ Of 11 ∷ Of 15 ∷ Of 11 ∷ []) (Of 17)
    ∷ member 29 (codes "Copy") Static (ArrayOf 11 ∷ Of 11 ∷ Of 15 ∷ Of 11 ∷ []) (Of 17)
    ∷ member 29 (codes "Copy") Static (Of 15 ∷ ArrayOf 8 ∷ Of 11 ∷ Of 11 ∷ []) (Of 17)
    ∷ member 29 (codes "Copy") Static (Of 15 ∷ ArrayOf 11 ∷ Of 11 ∷ Of 11 ∷ []) (Of 17)
    ∷ member 29 (codes "GetFunctionPointerForDelegate") Static (Of 22 ∷ []) (Of 15)
    ∷ []

-- the members of each exception, by its place
abbrev pub exception_members : ℕ → List CoreMember
exception_members place =
    member place (codes ".ctor") Instance [] (Of 17)
    ∷ member place (codes ".ctor") Instance (Of 4 ∷ []) (Of 17)
    ∷ member place (codes "get_Message") Virtual [] (Of 4)
    ∷ []

unfoldable pub core_members : List CoreMember
core_members =
    handle_field_members ++ basic_members ++ number_members ++ library_members
    ++ flat_map exception_members (range_with_len 32 25)
    ++ handle_members ++ marshal_members

abbrev pub core_member_count : ℕ
core_member_count = 179

unfoldable pub core_member_at : ℕ → Option CoreMember
core_member_at place = slice_get core_members place
