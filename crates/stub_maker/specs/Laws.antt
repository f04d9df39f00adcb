-- Laws of stubs.
use Rattle.std.specs.Prelude.{◌≡◌, ◌≢◌, ◌↔◌, ◌⊎◌, ℕ, Bool, true, ◌+◌, ◌<◌, ◌≤◌, List, [], ◌∷◌, length, map, option_map, reverse, slice_get, Option, Some, Ok, IsSomeAnd, IsTrue, Contains}
use Rattle.std.specs.List.{range_with_len}
use Rattle.stub_maker.specs.declared.kinds.Passed.{Passed}
use Rattle.stub_maker.specs.declared.stub.Mark.TheVariants.{Give}
use Rattle.stub_maker.specs.declared.stub.Step.{Step}
use Rattle.stub_maker.specs.declared.stub.Step.TheVariants as step
use Rattle.stub_maker.specs.declared.stub.Stub.{Stub}
use Rattle.native_layout.specs.declared.shapes.Shape.{Shape}
use Rattle.native_layout.specs.Shapes.{texts_in}
use Rattle.sig_reader.specs.declared.signature.Sig.{Sig, out-Sig}
use Rattle.stub_maker.specs.declared.kinds.TypeKind.{TypeKind}
use Rattle.stub_maker.specs.declared.stub.Back.{Back}
use Rattle.stub_maker.specs.declared.table.Column.{Column}
use Rattle.stub_maker.specs.Shapes.{Crosses, Known, crosses}
use Rattle.stub_maker.specs.Callbacks.{back_of}
use Rattle.stub_maker.specs.Steps.{argument_of}
use Rattle.stub_maker.specs.declared.signature.Imported.{Imported}
use Rattle.stub_maker.specs.declared.signature.Signature.{Signature}
use Rattle.stub_maker.specs.Extents.{size}
use Rattle.stub_maker.specs.Rules.{greatest_in_words, stub_of}
use Rattle.type_model.specs.Module.{Module}
use Rattle.type_model.specs.Members.{Import, mark_of, marshalled, method, sig_of}
use Rattle.stub_maker.specs.Described.{bare_shape, known_of, stub_of_import}
use Rattle.stub_maker.specs.Sized.{IsInOrder, IsSized, IsSizedBack, IsSizedStub}

-- numbers that rise, the first from a bound on
abbrev pub RiseFrom : ℕ → List ℕ → Type 0
RiseFrom bound [] = Unit {0}
RiseFrom bound (n ∷ ns) = (bound ≤ n) × RiseFrom (n + 1) ns

-- native code may have written what is there: a place, or a copy, that isn't given to it alone
abbrev pub ComesBack : Step → Type 0
ComesBack (step.Place k mark shape) = mark ≢ Give
ComesBack (step.Copy k mark shape) = mark ≢ Give
ComesBack _ = ⊥

-- a step may lend native code something that ends with the call: a handle that is held, a text, a place, an array or its copy, and of
-- a struct its copy, where it isn't passed in words, and its texts
abbrev pub MayLend : Step → Type 0
MayLend (step.Hold k) = Unit {0}
MayLend (step.Word k shape) = ⊥
MayLend (step.Text k encoding) = Unit {0}
MayLend (step.Value k shape) = (greatest_in_words < size shape) ⊎ IsTrue (texts_in shape)
MayLend (step.Place k mark shape) = Unit {0}
MayLend (step.Lend k shape) = Unit {0}
MayLend (step.Copy k mark shape) = Unit {0}
MayLend (step.Thunk k) = ⊥

-- A stub of these parameters has one step for each, in order. It reads back just the arguments whose steps come back, from left to
-- right; and just those end whose steps may lend something, from right to left.
pub record IsOrderly (params : List Passed) (stub : Stub) : Type 0 where
  pub steps : map argument_of stub.steps ≡ range_with_len 0 (length params)
  pub back : (k : ℕ) → Contains stub.back k ↔ IsSomeAnd (slice_get stub.steps k) ComesBack
  pub back_rises : RiseFrom 0 stub.back
  pub ends : (k : ℕ) → Contains stub.ends k ↔ IsSomeAnd (slice_get stub.steps k) MayLend
  pub ends_fall : RiseFrom 0 (reverse stub.ends)

abbrev pub StubsAreOrderly : Type 0
StubsAreOrderly =
    (known : Known) (i : Imported) (s : Signature) (stub : Stub) → i.signature ≡ Some s → stub_of known i ≡ Ok stub
    → IsOrderly s.params stub

-- What is known of a file's types has only widths that their kinds have.
abbrev pub KnownIsInOrder : Type 0
KnownIsInOrder = (m : Module) → IsInOrder (known_of m)

-- a stub's shapes are in order and laid out, and have sizes of 64 bits
abbrev pub StubsAreSized : Type 0
StubsAreSized = (known : Known) (i : Imported) (stub : Stub) → IsInOrder known → stub_of known i ≡ Ok stub → IsSizedStub stub

-- the same of a callback
abbrev pub BacksAreSized : Type 0
BacksAreSized = (known : Known) (invoke : Option Signature) (back : Back) → IsInOrder known → back_of known invoke ≡ Ok back → IsSizedBack back

-- the shape of a type without a descriptor is in order and laid out, and has a size of 64 bits
abbrev pub BareShapesAreSized : Type 0
BareShapesAreSized = (known : Known) (k : TypeKind) (s : Shape) → IsInOrder known → bare_shape known k ≡ Ok s → IsSized s

-- Imports of a module that are alike but for their names and their methods' rows: in the flags of their rows of ImplMap
-- (ECMA-335 II.22.22), in the flags and the implementation flags of their methods (II.22.26), in those methods' signatures, and in the marks and
-- the descriptors of each place of these (II.22.33, II.22.17). Place 0 is the result, and the parameters count from 1.
pub record AreAlike (m : Module) (i j : Import) : Type 0 where
  pub flags : i.flags ≡ j.flags
  pub method_flags : option_map (λ of. of.flags) (method m i.method) ≡ option_map (λ of. of.flags) (method m j.method)
  pub impl_flags : option_map (λ of. of.impl_flags) (method m i.method) ≡ option_map (λ of. of.impl_flags) (method m j.method)
  pub sigs : sig_of m i.method ≡ sig_of m j.method
  pub marks : (sig : Sig) (place : ℕ) → sig_of m i.method ≡ Some sig → place ≤ length (out-Sig sig).params
      → mark_of m i.method place ≡ mark_of m j.method place
  pub descriptors : (sig : Sig) (place : ℕ) → sig_of m i.method ≡ Some sig → place ≤ length (out-Sig sig).params
      → marshalled m i.method place ≡ marshalled m j.method place

-- imports that are alike have one stub, or one refusal, whatever they and their libraries and methods are called
abbrev pub NamesDoNotMatter : Type 0
NamesDoNotMatter = (m : Module) (i j : Import) → AreAlike m i j → stub_of_import m i ≡ stub_of_import m j

-- the descriptors that are tried tell whether a type crosses in a column under any
pub record IsTold (known : Known) (unicode : Bool) (column : Column) (type : TypeKind) : Type 0 where
  pub there : crosses known unicode column type ≡ true → Crosses known unicode column type
  pub told : Crosses known unicode column type → crosses known unicode column type ≡ true

abbrev pub FiveDescriptorsTell : Type 0
FiveDescriptorsTell = (known : Known) (unicode : Bool) (column : Column) (type : TypeKind) → IsTold known unicode column type
