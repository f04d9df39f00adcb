-- What the types, the methods and the imports of a module are to the marshalling table.
use Rattle.std.specs.Prelude.{◌≡◌, ℕ, ◌+◌, ◌-◌, min, Bool, ◌||◌, true, false, not, ◌==◌, ◌&&◌, List, [], ◌∷◌, map, Option, Some, None, Result, option_map, option_and_then, unwrap_or, bit_and, if◌then◌else◌, find}
use Rattle.std.specs.List.{enumerate_from}
use Rattle.managed_value.specs.declared.names.TypeId.{TypeId}
use Rattle.sig_reader.specs.declared.signature.TypeSig.{TypeSig, out-TypeSig}
use Rattle.sig_reader.specs.declared.signature.TypeSig.TheOpen.{TypeSig-F}
use Rattle.sig_reader.specs.declared.signature.Sig.{Sig, out-Sig}
use Rattle.type_model.specs.Module.{Module, row_count}
use Rattle.type_model.specs.Rows
use Rattle.type_model.specs.Core as core
use Rattle.type_model.specs.TypeIds.{core_id, def_id, is_core, is_row, row_limit, same_type, type_of}
use Rattle.type_model.specs.Types.{enum_of, instance_fields, invoke_of, is_below, is_delegate, is_handle, is_value_type}
use Rattle.type_model.specs.Part.{all_types}
use Rattle.type_model.specs.Members.{FieldRow, Import, Marshalled, Method, TypeRow, field, mark_of, marshalled, method, sig_of, type_row_of}
use Rattle.stub_maker.specs.declared.kinds.Width.TheVariants as width
use Rattle.stub_maker.specs.declared.kinds.Kind.{Kind}
use Rattle.stub_maker.specs.declared.kinds.Kind.TheVariants as kind
use Rattle.stub_maker.specs.declared.kinds.TypeKind.{TypeKind}
use Rattle.stub_maker.specs.declared.kinds.TypeKind.TheVariants.{One, Array}
use Rattle.stub_maker.specs.declared.kinds.Descriptor.{Descriptor}
use Rattle.stub_maker.specs.declared.kinds.Descriptor.TheVariants.{Nothing, Unread, Is}
use Rattle.stub_maker.specs.declared.kinds.Passed.{Passed}
use Rattle.stub_maker.specs.declared.stub.Stub.{Stub}
use Rattle.stub_maker.specs.declared.stub.Back.{Back}
use Rattle.stub_maker.specs.Shapes.{Known}
use Rattle.stub_maker.specs.declared.facts.FieldFacts.{FieldFacts}
use Rattle.stub_maker.specs.declared.facts.StructFacts.{StructFacts}
use Rattle.stub_maker.specs.Facts.{TypeFacts, known}
use Rattle.stub_maker.specs.declared.signature.Imported.{Imported}
use Rattle.stub_maker.specs.declared.signature.Signature.{Signature}
use Rattle.stub_maker.specs.declared.refused.Param.TheVariants.{Whole}
use Rattle.stub_maker.specs.declared.refused.Why.TheVariants as why
use Rattle.stub_maker.specs.declared.table.Column.TheVariants as column
use Rattle.native_layout.specs.declared.shapes.Shape.{Shape}
use Rattle.stub_maker.specs.Answers.{and_then, map_ok}
use Rattle.stub_maker.specs.Rules.{Refused, entry_in, laid, refused_at, stub_of, whole}
use Rattle.stub_maker.specs.Callbacks.{back_of}

-- the core types that are numbers or characters, or a string, by their places: Boolean, Char and String, the integers, IntPtr and
-- UIntPtr
abbrev pub core_kinds : List (ℕ × Kind)
core_kinds =
    (core.string_place, kind.Text) ∷ (core.boolean_place, kind.Boolean) ∷ (core.char_place, kind.Character)
    ∷ (7, kind.Integer width.One true) ∷ (8, kind.Integer width.One false) ∷ (9, kind.Integer width.Two true) ∷ (10, kind.Integer width.Two false)
    ∷ (11, kind.Integer width.Four true) ∷ (12, kind.Integer width.Four false) ∷ (13, kind.Integer width.Eight true) ∷ (14, kind.Integer width.Eight false)
    ∷ (15, kind.NativeInteger true) ∷ (16, kind.NativeInteger false) ∷ []

-- what a core type is, by its place, where the table has it by itself
abbrev pub core_kind : ℕ → Option Kind
core_kind place = option_map (λ c. c.1) (find (λ c. c.0 == place) core_kinds)

-- an enum is its integer type; a type below Enum that is no enum is none that the table has
abbrev pub enum_kind : Option ℕ → Kind
enum_kind None = kind.Other
enum_kind (Some place) = unwrap_or (core_kind place) kind.Other

-- what a type of the file is, by its row
abbrev pub file_kind : Module → ℕ → Kind
file_kind m t =
    let id = def_id t in
    if is_below m id (core_id core.enum_place) then enum_kind (enum_of m id)
    else if is_value_type m id then kind.Struct t
    else if is_delegate m id then kind.Delegate t
    else if is_handle m id then kind.Handle
    else kind.Other

-- what a core type is, by its `base`
abbrev pub core_type_kind : Module → ℕ → Kind
core_type_kind m base =
    unwrap_or (core_kind (base - row_limit))
    (if is_handle m (record { base = base; arrays = 0 }) then kind.Handle else kind.Other)

-- what a type that is no array is, by its `base`
abbrev pub kind_of : Module → ℕ → Kind
kind_of m base = if is_core base then core_type_kind m base else file_kind m base

-- what each type of a file is, in the order of their rows
abbrev pub AreKinds : Module → List Kind → Type 0
AreKinds m kinds = kinds ≡ map (file_kind m) (all_types m)

-- what a type is
unfoldable pub type_kind : Module → TypeId → TypeKind
type_kind m id =
    if id.arrays == 0 then One (kind_of m id.base)
    else Array id.base (if id.arrays == 1 then kind_of m id.base else kind.Other)

abbrev pub type_kind_by : Module → Option TypeId → TypeKind
type_kind_by m None = One kind.Other
type_kind_by m (Some id) = type_kind m id

-- an array of what this type of a signature is: of pointers, or of what it names
abbrev pub array_kind : TypeKind → TypeSig-F TypeSig Sig → TypeKind
array_kind named (TypeSig-F.Ptr to) = Array (row_limit + core.uint_ptr_place) kind.Pointer
array_kind named _ = named

-- what a type of a signature is: a pointer, an array, or what it names
abbrev pub sig_kind_step : TypeKind → TypeSig-F TypeSig Sig → TypeKind
sig_kind_step named (TypeSig-F.Ptr to) = One kind.Pointer
sig_kind_step named (TypeSig-F.Vector element) = array_kind named (out-TypeSig element)
sig_kind_step named _ = named

unfoldable pub sig_kind : Module → TypeSig → TypeKind
sig_kind m sig = sig_kind_step (type_kind_by m (type_of m sig)) (out-TypeSig sig)

-- what a type of a signature refers to, and whether it is by reference
abbrev pub referred_step : TypeSig → TypeSig-F TypeSig Sig → Bool × TypeSig
referred_step sig (TypeSig-F.ByRef to) = (true, to)
referred_step sig _ = (false, sig)

abbrev pub descriptor_of : Marshalled → Descriptor
descriptor_of None = Nothing
descriptor_of (Some None) = Unread
descriptor_of (Some (Some spec)) = Is spec

-- a place of a method's signature; 0 is the result, and parameters count from 1
unfoldable pub passed_at : Module → ℕ → ℕ → TypeSig → Passed
passed_at m n place sig =
    let referred = referred_step sig (out-TypeSig sig) in record {
      reference = referred.0;
      kind = sig_kind m referred.1;
      flags = mark_of m n place;
      descriptor = descriptor_of (marshalled m n place);
    }

-- a result whose type is Void is none
abbrev pub is_void : Module → TypeSig → Bool
is_void m sig = unwrap_or (option_map (same_type (core_id core.void_place)) (type_of m sig)) false

abbrev pub passed_result : Module → ℕ → TypeSig → Option Passed
passed_result m n sig = if is_void m sig then None else Some (passed_at m n 0 sig)

-- the parameters of a method
abbrev pub passed_params : Module → ℕ → List TypeSig → List Passed
passed_params m n sigs = map (λ numbered. passed_at m n numbered.0 numbered.1) (enumerate_from 1 sigs)

-- a method's signature
abbrev pub signature_by : Module → ℕ → Sig → Signature
signature_by m n sig = record {
  vararg = (out-Sig sig).vararg;
  generic = (out-Sig sig).generic;
  params = passed_params m n (out-Sig sig).params;
  result = passed_result m n (out-Sig sig).result;
}

unfoldable pub signature_of : Module → ℕ → Option Signature
signature_of m n = option_map (signature_by m n) (sig_of m n)

-- CharSet of ImplMap's flags (ECMA-335 II.23.1.8) and StringFormat of a type's (II.23.1.15): Unicode or not
abbrev pub is_unicode_import : ℕ → Bool
is_unicode_import flags = bit_and flags 0x6 == 0x4

abbrev pub is_unicode_type : ℕ → Bool
is_unicode_type flags = bit_and flags 0x30000 == 0x10000

-- a field, with the charset of the type that declares it
abbrev pub field_by : Module → FieldRow → FieldFacts
field_by m known = record {
  kind = unwrap_or (option_map (sig_kind m) known.sig) (One kind.Other);
  unicode = is_unicode_type (Rows.type_flags m known.owner);
  descriptor = descriptor_of known.spec;
  offset = known.offset;
}

-- what is no field of the file crosses nowhere
abbrev pub no_field : FieldFacts
no_field = record { kind = One kind.Other; unicode = false; descriptor = Nothing; offset = None }

-- an instance field, by its row
abbrev pub field_facts : Module → ℕ → FieldFacts
field_facts m f = unwrap_or (option_map (field_by m) (field m f)) no_field

-- the layout of a type's flags (II.23.1.15): sequential, or explicit; any other is auto
abbrev pub layout_bits : ℕ → ℕ
layout_bits flags = bit_and flags 0x18

-- A packing above 128 bytes is none, so that the greatest that a column of two bytes holds stands for each above it.
abbrev pub struct_by : Module → ℕ → TypeRow → StructFacts
struct_by m t known = record {
  ty = t;
  pack = min known.pack 0xFFFF;
  least = known.least;
  explicit = layout_bits known.flags == 0x10;
  fields = map (field_facts m) (instance_fields m (def_id t));
}

abbrev pub is_laid_by_flags : ℕ → Bool
is_laid_by_flags flags = layout_bits flags == 0x8 || layout_bits flags == 0x10

-- a value type of the file that is no enum
abbrev pub is_struct : Kind → Bool
is_struct (kind.Struct t) = true
is_struct _ = false

abbrev pub is_delegate_kind : Kind → Bool
is_delegate_kind (kind.Delegate t) = true
is_delegate_kind _ = false

-- a value type of the file with a sequential or an explicit layout, by its row
unfoldable pub struct_facts : Module → ℕ → Option StructFacts
struct_facts m t =
    let known = type_row_of m t in
    if is_row m Rows.type_defs t && is_struct (kind_of m t) && is_laid_by_flags known.flags
    then Some (struct_by m t known)
    else None

-- the signature of the Invoke of a delegate type of the file, by the type's row
unfoldable pub invoke_signature : Module → ℕ → Option Signature
invoke_signature m t =
    if is_row m Rows.type_defs t && is_delegate_kind (kind_of m t)
    then option_and_then (signature_of m) (invoke_of m (def_id t))
    else None

unfoldable pub facts_of : Module → TypeFacts
facts_of m = record {
  count = row_count m Rows.type_defs;
  struct_of = struct_facts m;
  invoke_of = invoke_signature m;
}

unfoldable pub known_of : Module → Known
known_of m = known (facts_of m)

-- the flags of methods and of ImplMap: static (II.23.1.10), preservesig (II.23.1.11), the native error number is saved (II.23.1.8)
abbrev pub imported_by : Module → Import → Method → Imported
imported_by m i of = record {
  preserves_signature = not (bit_and of.impl_flags 0x80 == 0);
  is_static = not (bit_and of.flags 0x10 == 0);
  signature = signature_of m i.method;
  unicode = is_unicode_import i.flags;
  saves_error = not (bit_and i.flags 0x40 == 0);
}

abbrev pub stub_if : Known → Option Imported → Result Stub Refused
stub_if known None = whole why.Type0
stub_if known (Some i) = stub_of known i

-- The stub of an import, or what of it has no row in the table and why. A method that isn't there is one without a signature.
unfoldable pub stub_of_import : Module → Import → Result Stub Refused
stub_of_import m i = stub_if (known_of m) (option_map (imported_by m i) (method m i.method))

-- how a callback by a delegate type of the file crosses, or what of it has no row in the table and why
unfoldable pub back_of_delegate : Module → TypeId → Result Back Refused
back_of_delegate m id = back_of (known_of m) (invoke_signature m id.base)

-- a type without a descriptor
abbrev pub bare : TypeKind → Passed
bare k = record { reference = false; kind = k; flags = 0; descriptor = Nothing }

-- the shape that a field has of a type without a descriptor, under the charset Ansi, or why it has none
abbrev pub bare_shape : Known → TypeKind → Result Shape Refused
bare_shape known k =
    refused_at Whole (map_ok (λ e. e.shape) (and_then (λ e. laid e.shape e) (entry_in known false column.Field (bare k))))

unfoldable pub shape_of_type : Module → TypeId → Result Shape Refused
shape_of_type m id = bare_shape (known_of m) (type_kind m id)
