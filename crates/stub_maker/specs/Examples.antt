-- Rows worked out by hand: what the table answers for some parameters and results.
use Rattle.std.specs.Prelude.{◌≡◌, ℕ, ◌==◌, true, false, List, [], ◌∷◌, map, Option, Some, None, Result, Ok, Err, if◌then◌else◌}
use Rattle.native_layout.specs.declared.shapes.Enc.TheVariants.{Utf8, Utf16}
use Rattle.native_layout.specs.declared.shapes.Shape as shape
use Rattle.native_layout.specs.declared.shapes.Shape.{Shape}
use Rattle.native_layout.specs.declared.shapes.StructShape.{StructShape}
use Rattle.marshal_spec.specs.declared.spec.Spec.TheVariants.{Plain, ByValText, ByValArray, LpArray}
use Rattle.stub_maker.specs.declared.kinds.Width.TheVariants.{Four, Eight}
use Rattle.stub_maker.specs.declared.kinds.Kind.TheVariants as kind
use Rattle.stub_maker.specs.declared.kinds.TypeKind.{TypeKind}
use Rattle.stub_maker.specs.declared.kinds.TypeKind.TheVariants.{One, Array}
use Rattle.stub_maker.specs.declared.kinds.Descriptor.{Descriptor}
use Rattle.stub_maker.specs.declared.kinds.Descriptor.TheVariants.{Nothing, Unread, Is}
use Rattle.stub_maker.specs.declared.kinds.Passed.{Passed}
use Rattle.stub_maker.specs.declared.table.Column.TheVariants as column
use Rattle.stub_maker.specs.declared.stub.Mark.TheVariants.{Give, Take, Both}
use Rattle.stub_maker.specs.declared.stub.Step.{Step}
use Rattle.stub_maker.specs.declared.stub.Step.TheVariants as step
use Rattle.stub_maker.specs.declared.stub.Received.{Received}
use Rattle.stub_maker.specs.declared.stub.Received.TheVariants as received
use Rattle.stub_maker.specs.declared.stub.Res.{Res}
use Rattle.stub_maker.specs.declared.stub.Res.TheVariants as res
use Rattle.stub_maker.specs.declared.refused.Why.{Why}
use Rattle.stub_maker.specs.declared.refused.Why.TheVariants.{Type0, Descriptor as WrongDescriptor, Mark as WrongMark, Layout as NoLayout, PreserveSig}
use Rattle.stub_maker.specs.declared.refused.Param.{Param}
use Rattle.stub_maker.specs.declared.refused.Param.TheVariants.{Arg, Result as TheResult, Whole}
use Rattle.stub_maker.specs.declared.signature.Imported.{Imported}
use Rattle.stub_maker.specs.declared.signature.Signature.{Signature}
use Rattle.stub_maker.specs.declared.stub.Stub.{Stub}
use Rattle.stub_maker.specs.Answers.{map_ok}
use Rattle.stub_maker.specs.Shapes.{Known}
use Rattle.stub_maker.specs.Rules.{Refused, returned, step_of, stub_of}
use Rattle.stub_maker.specs.Callbacks.{received_of}
use Rattle.stub_maker.specs.declared.facts.FieldFacts.{FieldFacts}
use Rattle.stub_maker.specs.Facts.{field_shape}

-- a struct in sequence of these fields, by its row
abbrev pub struct_of_fields : ℕ → List Shape → StructShape
struct_of_fields ty fields = record {
  ty = ty;
  pack = 0;
  least = 0;
  explicit = false;
  fields = fields;
  offsets = map (λ f. None) fields;
}

-- two longs; three longs; a text and an int; no fields
abbrev pub two_longs : StructShape
two_longs = struct_of_fields 2 (shape.Int 8 true ∷ shape.Int 8 true ∷ [])

abbrev pub three_longs : StructShape
three_longs = struct_of_fields 3 (shape.Int 8 true ∷ shape.Int 8 true ∷ shape.Int 8 true ∷ [])

abbrev pub with_text : StructShape
with_text = struct_of_fields 4 (shape.Text Utf8 ∷ shape.Int 4 true ∷ [])

abbrev pub empty_struct : StructShape
empty_struct = struct_of_fields 6 []

-- structs 2, 3, 4 and 6 have rows, 5 has none; the delegate type 10 has one, and 11 has none
abbrev pub some_types : Known
some_types = record {
  struct_of = λ t.
      if t == 2 then Some two_longs else if t == 3 then Some three_longs else if t == 4 then Some with_text
      else if t == 6 then Some empty_struct else None;
  is_callable = λ t. t == 10;
}

-- a type without flags and without a descriptor
abbrev pub plain : TypeKind → Passed
plain type = record { reference = false; kind = type; flags = 0; descriptor = Nothing }

abbrev pub int : TypeKind
int = One (kind.Integer Four true)

abbrev pub ints : TypeKind
ints = Array 11 (kind.Integer Four true)

abbrev pub by_reference : Passed → Passed
by_reference p = record p { reference = true }

abbrev pub as_code : ℕ → Passed → Passed
as_code code p = record p { descriptor = Is (Plain code) }

-- 1 is In, 2 is Out
abbrev pub flagged : ℕ → Passed → Passed
flagged flags p = record p { flags = flags }

abbrev pub array_as : Option ℕ → Option ℕ → Option ℕ → Option ℕ → Passed → Passed
array_as code parameter count flag p = record p { descriptor = Is (LpArray code parameter count flag) }

-- a parameter of an import with the charset Ansi, and what it is answered
pub record Row (A : Type 0) : Type 0 where
  pub passed : Passed
  pub says : Result A Why

abbrev row : {A : Type 0} → Passed → Result A Why → Row A
row passed says = record { passed = passed; says = says }

abbrev pub import_rows : List (Row Step)
import_rows =
    row (plain int) (Ok (step.Word 0 (shape.Int 4 true)))
    ∷ row (as_code 0x07 (plain (One (kind.Integer Four false)))) (Ok (step.Word 0 (shape.Int 4 true)))
    ∷ row (as_code 0x09 (plain int)) (Err WrongDescriptor)
    ∷ row (as_code 0x14 (plain int)) (Err WrongDescriptor)
    ∷ row (record (plain int) { descriptor = Unread }) (Err WrongDescriptor)
    ∷ row (as_code 0x1F (plain (One (kind.Integer Eight false)))) (Ok (step.Word 0 (shape.Int 8 true)))
    ∷ row (as_code 0x0A (plain (One (kind.NativeInteger true)))) (Ok (step.Word 0 (shape.Native false)))
    ∷ row (flagged 1 (plain int)) (Ok (step.Word 0 (shape.Int 4 true)))
    ∷ row (flagged 2 (plain int)) (Err WrongMark)
    ∷ row (plain (One kind.Boolean)) (Ok (step.Word 0 (shape.Bool 4)))
    ∷ row (as_code 0x02 (plain (One kind.Boolean))) (Ok (step.Word 0 (shape.Bool 4)))
    ∷ row (as_code 0x03 (plain (One kind.Boolean))) (Ok (step.Word 0 (shape.Bool 1)))
    ∷ row (as_code 0x04 (plain (One kind.Boolean))) (Ok (step.Word 0 (shape.Bool 1)))
    ∷ row (as_code 0x07 (plain (One kind.Boolean))) (Err WrongDescriptor)
    ∷ row (plain (One kind.Character)) (Ok (step.Word 0 (shape.Char 1)))
    ∷ row (as_code 0x06 (plain (One kind.Character))) (Ok (step.Word 0 (shape.Char 2)))
    ∷ row (plain (One kind.Pointer)) (Ok (step.Word 0 (shape.Native true)))
    ∷ row (as_code 0x1F (plain (One kind.Pointer))) (Err WrongDescriptor)
    ∷ row (plain (One kind.Text)) (Ok (step.Text 0 Utf8))
    ∷ row (as_code 0x15 (plain (One kind.Text))) (Ok (step.Text 0 Utf16))
    ∷ row (record (plain (One kind.Text)) { descriptor = Is (ByValText 4) }) (Err WrongDescriptor)
    ∷ row (flagged 3 (plain (One kind.Text))) (Err WrongMark)
    ∷ row (plain (One (kind.Struct 5))) (Err Type0)
    ∷ row (plain ints) (Ok (step.Lend 0 (shape.Int 4 true)))
    ∷ row (flagged 2 (plain ints)) (Ok (step.Lend 0 (shape.Int 4 true)))
    ∷ row (array_as (Some 0x08) None None None (plain ints)) (Ok (step.Lend 0 (shape.Int 4 false)))
    ∷ row (array_as (Some 0x14) None None None (plain ints)) (Err WrongDescriptor)
    ∷ row (record (plain ints) { descriptor = Is (ByValArray 4 None) }) (Err WrongDescriptor)
    ∷ row (plain (Array 5 kind.Boolean)) (Ok (step.Copy 0 Give (shape.Bool 4)))
    ∷ row (flagged 2 (plain (Array 5 kind.Boolean))) (Ok (step.Copy 0 Take (shape.Bool 4)))
    ∷ row (flagged 3 (plain (Array 5 kind.Boolean))) (Ok (step.Copy 0 Both (shape.Bool 4)))
    ∷ row (plain (Array 6 kind.Character)) (Ok (step.Copy 0 Give (shape.Char 1)))
    ∷ row (array_as (Some 0x06) None None None (plain (Array 6 kind.Character))) (Ok (step.Lend 0 (shape.Char 2)))
    ∷ row (plain (Array 4 kind.Text)) (Ok (step.Copy 0 Give (shape.Text Utf8)))
    ∷ row (plain (Array 10 (kind.Delegate 10))) (Err Type0)
    ∷ row (plain (Array 11 kind.Other)) (Err Type0)
    ∷ row (plain (One (kind.Delegate 10))) (Ok (step.Thunk 0))
    ∷ row (as_code 0x26 (plain (One (kind.Delegate 10)))) (Ok (step.Thunk 0))
    ∷ row (flagged 2 (plain (One (kind.Delegate 10)))) (Err WrongMark)
    ∷ row (plain (One (kind.Delegate 11))) (Err Type0)
    ∷ row (plain (One kind.Handle)) (Ok (step.Hold 0))
    ∷ row (as_code 0x1F (plain (One kind.Handle))) (Err WrongDescriptor)
    ∷ row (plain (One kind.Other)) (Err Type0)
    ∷ row (by_reference (plain int)) (Ok (step.Place 0 Both (shape.Int 4 true)))
    ∷ row (flagged 1 (by_reference (plain int))) (Ok (step.Place 0 Give (shape.Int 4 true)))
    ∷ row (flagged 2 (by_reference (plain int))) (Ok (step.Place 0 Take (shape.Int 4 true)))
    ∷ row (flagged 3 (by_reference (plain int))) (Ok (step.Place 0 Both (shape.Int 4 true)))
    ∷ row (by_reference (plain (One kind.Text))) (Ok (step.Place 0 Both (shape.Text Utf8)))
    ∷ row (by_reference (plain (One kind.Pointer))) (Ok (step.Place 0 Both (shape.Native true)))
    ∷ row (by_reference (plain ints)) (Err Type0)
    ∷ row (by_reference (plain (One (kind.Delegate 10)))) (Err Type0)
    ∷ row (by_reference (plain (One kind.Handle))) (Err Type0)
    ∷ []

-- the same under the charset Unicode
abbrev pub unicode_rows : List (Row Step)
unicode_rows =
    row (plain (One kind.Character)) (Ok (step.Word 0 (shape.Char 2)))
    ∷ row (as_code 0x03 (plain (One kind.Character))) (Ok (step.Word 0 (shape.Char 1)))
    ∷ row (plain (One kind.Text)) (Ok (step.Text 0 Utf16))
    ∷ row (as_code 0x30 (plain (One kind.Text))) (Ok (step.Text 0 Utf8))
    ∷ row (plain (Array 6 kind.Character)) (Ok (step.Lend 0 (shape.Char 2)))
    ∷ row (plain (Array 4 kind.Text)) (Ok (step.Copy 0 Give (shape.Text Utf16)))
    ∷ []

-- results of imports
abbrev pub result_rows : List (Row Res)
result_rows =
    row (plain int) (Ok (res.Word (shape.Int 4 true)))
    ∷ row (flagged 2 (plain int)) (Ok (res.Word (shape.Int 4 true)))
    ∷ row (plain (One kind.Text)) (Ok (res.Text Utf8))
    ∷ row (plain ints) (Err Type0)
    ∷ row (plain (One (kind.Delegate 10))) (Err Type0)
    ∷ row (plain (One kind.Handle)) (Err Type0)
    ∷ row (by_reference (plain int)) (Err Type0)
    ∷ row (as_code 0x09 (plain int)) (Err WrongDescriptor)
    ∷ []

-- a type of the file by its row, where it is a value type
abbrev pub struct : ℕ → TypeKind
struct t = One (kind.Struct t)

-- value types as parameters of imports
abbrev pub struct_rows : List (Row Step)
struct_rows =
    row (plain (struct 2)) (Ok (step.Value 0 (shape.Struct two_longs)))
    ∷ row (as_code 0x1B (plain (struct 2))) (Ok (step.Value 0 (shape.Struct two_longs)))
    ∷ row (as_code 0x07 (plain (struct 2))) (Err WrongDescriptor)
    ∷ row (flagged 2 (plain (struct 2))) (Err WrongMark)
    ∷ row (by_reference (plain (struct 2))) (Ok (step.Place 0 Both (shape.Struct two_longs)))
    ∷ row (flagged 1 (by_reference (plain (struct 2)))) (Ok (step.Place 0 Give (shape.Struct two_longs)))
    ∷ row (plain (Array 2 (kind.Struct 2))) (Ok (step.Lend 0 (shape.Struct two_longs)))
    ∷ row (by_reference (plain (Array 2 (kind.Struct 2)))) (Err Type0)
    ∷ row (plain (struct 4)) (Ok (step.Value 0 (shape.Struct with_text)))
    ∷ row (flagged 2 (by_reference (plain (struct 4)))) (Ok (step.Place 0 Take (shape.Struct with_text)))
    ∷ row (plain (Array 4 (kind.Struct 4))) (Ok (step.Copy 0 Give (shape.Struct with_text)))
    ∷ row (flagged 3 (plain (Array 4 (kind.Struct 4)))) (Ok (step.Copy 0 Both (shape.Struct with_text)))
    ∷ row (plain (struct 6)) (Err NoLayout)
    ∷ row (by_reference (plain (struct 6))) (Err NoLayout)
    ∷ row (flagged 2 (plain (struct 6))) (Err WrongMark)
    ∷ []

-- value types as results of imports
abbrev pub struct_result_rows : List (Row Res)
struct_result_rows =
    row (plain (struct 2)) (Ok (res.Value (shape.Struct two_longs)))
    ∷ row (plain (struct 3)) (Ok (res.Value (shape.Struct three_longs)))
    ∷ row (plain (struct 4)) (Err Type0)
    ∷ row (plain (struct 6)) (Err NoLayout)
    ∷ row (by_reference (plain (struct 2))) (Err Type0)
    ∷ []

-- imports as a whole: a static method whose signature is preserved
abbrev pub import_with : Option Signature → Imported
import_with signature = record {
  preserves_signature = true;
  is_static = true;
  signature = signature;
  unicode = false;
  saves_error = true;
}

abbrev pub signature_with : List Passed → Option Passed → Signature
signature_with params result_way = record { vararg = false; generic = 0; params = params; result = result_way }

abbrev pub no_params : Signature
no_params = signature_with [] None

-- what has no row in an import
abbrev pub refused : Param → Why → Result Stub Refused
refused param why = Err (record { param = param; why = why })

-- an import, and what it is answered
pub record ImportRow : Type 0 where
  pub imported : Imported
  pub says : Result Stub Refused

abbrev import_row : Imported → Result Stub Refused → ImportRow
import_row imported says = record { imported = imported; says = says }

-- a handle, a struct in words, one that isn't, one that holds a text, a place that native code writes, a place that it doesn't, and
-- an array that is lent
abbrev pub seven_params : List Passed
seven_params =
    plain (One kind.Handle) ∷ plain (struct 2) ∷ plain (struct 3) ∷ plain (struct 4) ∷ flagged 2 (by_reference (plain int))
    ∷ flagged 1 (by_reference (plain int)) ∷ plain ints ∷ []

abbrev pub stub_of_seven : Stub
stub_of_seven = record {
  steps =
      step.Hold 0 ∷ step.Value 1 (shape.Struct two_longs) ∷ step.Value 2 (shape.Struct three_longs)
      ∷ step.Value 3 (shape.Struct with_text) ∷ step.Place 4 Take (shape.Int 4 true) ∷ step.Place 5 Give (shape.Int 4 true)
      ∷ step.Lend 6 (shape.Int 4 true) ∷ [];
  back = 4 ∷ [];
  ends = 6 ∷ 5 ∷ 4 ∷ 3 ∷ 2 ∷ 0 ∷ [];
  result = res.Word (shape.Int 4 true);
  errno = true;
}

abbrev pub stub_rows : List ImportRow
stub_rows =
    import_row (import_with (Some (signature_with seven_params (Some (plain int))))) (Ok stub_of_seven)
    ∷ import_row (record (import_with (Some no_params)) { preserves_signature = false }) (refused Whole PreserveSig)
    ∷ import_row (record (import_with None) { preserves_signature = false }) (refused Whole PreserveSig)
    ∷ import_row (import_with None) (refused Whole Type0)
    ∷ import_row (record (import_with (Some no_params)) { is_static = false }) (refused Whole Type0)
    ∷ import_row (import_with (Some (record no_params { vararg = true }))) (refused Whole Type0)
    ∷ import_row (import_with (Some (record no_params { generic = 1 }))) (refused Whole Type0)
    ∷ import_row
    (import_with (Some (signature_with (plain int ∷ flagged 2 (plain int) ∷ plain (One kind.Other) ∷ []) (Some (plain ints)))))
    (refused (Arg 1) WrongMark)
    ∷ import_row (import_with (Some (signature_with (plain int ∷ []) (Some (plain ints))))) (refused TheResult Type0)
    ∷ []

-- parameters of callbacks, of which number 0 is an int, number 1 an array of ints, and number 2 a bool
abbrev pub callback_params : List Passed
callback_params = plain int ∷ plain ints ∷ plain (One kind.Boolean) ∷ []

abbrev pub callback_rows : List (Row Received)
callback_rows =
    row (plain int) (Ok (received.Word (shape.Int 4 true)))
    ∷ row (by_reference (plain int)) (Ok (received.Place (shape.Int 4 true)))
    ∷ row (plain (One kind.Pointer)) (Ok (received.Word (shape.Native true)))
    ∷ row (by_reference (plain (One kind.Pointer))) (Err Type0)
    ∷ row (plain (One kind.Text)) (Ok (received.Text Utf8))
    ∷ row (flagged 2 (plain (One kind.Text))) (Err WrongMark)
    ∷ row (by_reference (plain (One kind.Text))) (Err Type0)
    ∷ row (plain ints) (Err WrongDescriptor)
    ∷ row (array_as None None (Some 3) None (plain ints)) (Ok (received.Copy 11 (shape.Int 4 true) (Some 3) None))
    ∷ row (array_as None (Some 0) None None (plain ints)) (Ok (received.Copy 11 (shape.Int 4 true) None (Some 0)))
    ∷ row (array_as None (Some 0) (Some 3) (Some 1) (plain ints)) (Ok (received.Copy 11 (shape.Int 4 true) (Some 3) (Some 0)))
    ∷ row (array_as None (Some 1) (Some 3) (Some 0) (plain ints)) (Ok (received.Copy 11 (shape.Int 4 true) (Some 3) None))
    ∷ row (array_as None (Some 1) (Some 3) (Some 1) (plain ints)) (Err WrongDescriptor)
    ∷ row (array_as None (Some 2) None None (plain ints)) (Err WrongDescriptor)
    ∷ row (array_as None (Some 3) None None (plain ints)) (Err WrongDescriptor)
    ∷ row (plain (Array 5 kind.Boolean)) (Err Type0)
    ∷ row (array_as None None (Some 3) None (plain (Array 6 kind.Character))) (Err WrongDescriptor)
    ∷ row (array_as (Some 0x06) None (Some 3) None (plain (Array 6 kind.Character)))
    (Ok (received.Copy 6 (shape.Char 2) (Some 3) None))
    ∷ row (plain (One (kind.Delegate 10))) (Err Type0)
    ∷ row (plain (One kind.Handle)) (Err Type0)
    ∷ []

-- value types as parameters of callbacks
abbrev pub struct_callback_rows : List (Row Received)
struct_callback_rows =
    row (plain (struct 2)) (Ok (received.Value (shape.Struct two_longs)))
    ∷ row (plain (struct 4)) (Ok (received.Value (shape.Struct with_text)))
    ∷ row (by_reference (plain (struct 2))) (Ok (received.Place (shape.Struct two_longs)))
    ∷ row (by_reference (plain (struct 4))) (Err Type0)
    ∷ row (array_as None None (Some 3) None (plain (Array 2 (kind.Struct 2))))
    (Ok (received.Copy 2 (shape.Struct two_longs) (Some 3) None))
    ∷ row (array_as None None (Some 3) None (plain (Array 4 (kind.Struct 4)))) (Err Type0)
    ∷ row (plain (struct 6)) (Err NoLayout)
    ∷ []

-- results of callbacks
abbrev pub callback_result_rows : List (Row Res)
callback_result_rows =
    row (plain int) (Ok (res.Word (shape.Int 4 true)))
    ∷ row (plain (One kind.Text)) (Err Type0)
    ∷ []

-- a field whose type's charset is Ansi
abbrev pub field : TypeKind → Descriptor → FieldFacts
field type descriptor = record { kind = type; unicode = false; descriptor = descriptor; offset = None }

abbrev pub fields : List FieldFacts
fields =
    field int Nothing ∷ field (One kind.Text) Nothing ∷ field (One kind.Text) (Is (ByValText 4))
    ∷ field (One kind.Text) (Is (ByValText 0)) ∷ field ints (Is (ByValArray 4 None)) ∷ field ints (Is (ByValArray 0 None))
    ∷ field ints Nothing ∷ field (Array 5 kind.Boolean) (Is (ByValArray 4 (Some 0x04)))
    ∷ field (Array 4 kind.Text) (Is (ByValArray 4 None))
    ∷ field (One (kind.Delegate 10)) Nothing
    ∷ field (One kind.Handle) Nothing ∷ []

abbrev pub field_shapes : List (Option Shape)
field_shapes =
    Some (shape.Int 4 true) ∷ Some (shape.Text Utf8) ∷ Some (shape.InlineText Utf8 4)
    ∷ None ∷ Some (shape.InlineArray 11 (shape.Int 4 true) 4) ∷ None
    ∷ None ∷ Some (shape.InlineArray 5 (shape.Bool 1) 4)
    ∷ None
    ∷ Some (shape.Thunk 10)
    ∷ None ∷ []

-- value types as fields, and fields of a type whose charset is Unicode
abbrev pub struct_fields : List FieldFacts
struct_fields =
    field (struct 2) Nothing ∷ field (struct 4) Nothing ∷ field (struct 5) Nothing
    ∷ field (Array 2 (kind.Struct 2)) (Is (ByValArray 4 None)) ∷ field (Array 4 (kind.Struct 4)) (Is (ByValArray 4 None))
    ∷ record (field (One kind.Text) Nothing) { unicode = true }
    ∷ record (field (One kind.Text) (Is (ByValText 4))) { unicode = true }
    ∷ record (field (One kind.Character) Nothing) { unicode = true } ∷ []

abbrev pub struct_field_shapes : List (Option Shape)
struct_field_shapes =
    Some (shape.Struct two_longs) ∷ Some (shape.Struct with_text) ∷ None
    ∷ Some (shape.InlineArray 2 (shape.Struct two_longs) 4) ∷ None
    ∷ Some (shape.Text Utf16)
    ∷ Some (shape.InlineText Utf16 4)
    ∷ Some (shape.Char 2) ∷ []

abbrev said : {A : Type 0} → List (Row A) → List (Result A Why)
said rows = map (λ r. r.says) rows

abbrev pub received_row : Passed → Result Received Why
received_row p = map_ok (λ r. r.received) (received_of some_types callback_params 0 p)

pub record RowsAreAnswered : Type 0 where
  pub imports : map (λ r. step_of some_types false 0 r.passed) import_rows ≡ said import_rows
  pub unicode : map (λ r. step_of some_types true 0 r.passed) unicode_rows ≡ said unicode_rows
  pub results : map (λ r. returned some_types false column.Returned (Some r.passed)) result_rows ≡ said result_rows
  pub callbacks : map (λ r. received_row r.passed) callback_rows ≡ said callback_rows
  pub callback_results :
      map (λ r. returned some_types false column.CallbackReturned (Some r.passed)) callback_result_rows
      ≡ said callback_result_rows
  pub in_structs : map (field_shape some_types) fields ≡ field_shapes
  pub structs : map (λ r. step_of some_types false 0 r.passed) struct_rows ≡ said struct_rows
  pub struct_results :
      map (λ r. returned some_types false column.Returned (Some r.passed)) struct_result_rows ≡ said struct_result_rows
  pub struct_callbacks : map (λ r. received_row r.passed) struct_callback_rows ≡ said struct_callback_rows
  pub struct_callback_results :
      map (λ r. returned some_types false column.CallbackReturned (Some r.passed)) struct_result_rows ≡ said struct_result_rows
  pub structs_in_structs : map (field_shape some_types) struct_fields ≡ struct_field_shapes
  pub stubs : map (λ r. stub_of some_types r.imported) stub_rows ≡ map (λ r. r.says) stub_rows
