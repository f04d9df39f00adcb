-- What can be printed: each shape of it is in order and laid out, and its size is a number of 64 bits.
use Rattle.std.specs.Prelude.{◌≡◌, ℕ, ◌^◌, ◌<◌, ◌≤◌, All, IsTrue, Some}
use Rattle.native_layout.specs.declared.shapes.Shape.{Shape}
use Rattle.native_layout.specs.declared.shapes.StructShape.{StructShape}
use Rattle.native_layout.specs.Shapes.{in_order, measure, nesting, parts_of, struct_in_order}
use Rattle.stub_maker.specs.Shapes.{Known}
use Rattle.stub_maker.specs.Extents.{deepest, most_parts, size}
use Rattle.stub_maker.specs.declared.stub.Step.{Step}
use Rattle.stub_maker.specs.declared.stub.Step.TheVariants as step
use Rattle.stub_maker.specs.declared.stub.Res.{Res}
use Rattle.stub_maker.specs.declared.stub.Res.TheVariants as res
use Rattle.stub_maker.specs.declared.stub.Stub.{Stub}
use Rattle.stub_maker.specs.declared.stub.Received.{Received}
use Rattle.stub_maker.specs.declared.stub.Received.TheVariants as received
use Rattle.stub_maker.specs.declared.stub.Back.{Back}

-- each value type that is known has fields of widths that their kinds have
abbrev pub IsInOrder : Known → Type 0
IsInOrder known = (t : ℕ) (s : StructShape) → known.struct_of t ≡ Some s → IsTrue (struct_in_order s)

-- a shape that is in order and laid out: each struct in it is, it isn't too deep, and it hasn't too many scalar parts; and whose
-- size is a number of 64 bits
pub record IsSized (shape : Shape) : Type 0 where
  pub order : IsTrue (in_order shape)
  pub stands : IsTrue (measure shape).stands
  pub shallow : nesting shape ≤ deepest
  pub few : parts_of shape ≤ most_parts
  pub narrow : size shape < 2 ^ 64

abbrev pub IsSizedStep : Step → Type 0
IsSizedStep (step.Hold k) = Unit {0}
IsSizedStep (step.Word k shape) = IsSized shape
IsSizedStep (step.Text k encoding) = Unit {0}
IsSizedStep (step.Value k shape) = IsSized shape
IsSizedStep (step.Place k mark shape) = IsSized shape
IsSizedStep (step.Lend k shape) = IsSized shape
IsSizedStep (step.Copy k mark shape) = IsSized shape
IsSizedStep (step.Thunk k) = Unit {0}

abbrev pub IsSizedResult : Res → Type 0
IsSizedResult res.Void = Unit {0}
IsSizedResult (res.Word shape) = IsSized shape
IsSizedResult (res.Text encoding) = Unit {0}
IsSizedResult (res.Value shape) = IsSized shape

pub record IsSizedStub (stub : Stub) : Type 0 where
  pub steps : All IsSizedStep stub.steps
  pub result_way : IsSizedResult stub.result

abbrev pub IsSizedReceived : Received → Type 0
IsSizedReceived (received.Word shape) = IsSized shape
IsSizedReceived (received.Text encoding) = Unit {0}
IsSizedReceived (received.Value shape) = IsSized shape
IsSizedReceived (received.Place shape) = IsSized shape
IsSizedReceived (received.Copy base shape count parameter) = IsSized shape

pub record IsSizedBack (back : Back) : Type 0 where
  pub params : All IsSizedReceived back.params
  pub result_way : IsSizedResult back.result
