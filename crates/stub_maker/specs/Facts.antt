-- What the value types and the delegate types of a file are to the marshalling table. One may need others: a struct those of
-- its fields, a delegate type those of Invoke.
use Rattle.std.specs.Prelude.{ℕ, zero, suc, ◌+◌, false, List, [], ◌∷◌, map, Option, Some, None, is_ok}
use Rattle.std.specs.Option.{option_and_then, option_map}
use Rattle.native_layout.specs.declared.shapes.Shape.{Shape}
use Rattle.native_layout.specs.declared.shapes.StructShape.{StructShape}
use Rattle.stub_maker.specs.declared.table.Column.TheVariants as column
use Rattle.stub_maker.specs.Shapes.{Known, entry_by}
use Rattle.stub_maker.specs.declared.facts.FieldFacts.{FieldFacts}
use Rattle.stub_maker.specs.declared.facts.StructFacts.{StructFacts}
use Rattle.stub_maker.specs.declared.signature.Signature.{Signature}
use Rattle.stub_maker.specs.Callbacks.{back_of}

-- the types of a file, by their rows: how many there are; the value types that have a sequential or an explicit layout; the
-- signature of a delegate type's Invoke, None where it has none in the grammar
pub record TypeFacts : Type 0 where
  pub count : ℕ
  pub struct_of : ℕ → Option StructFacts
  pub invoke_of : ℕ → Option Signature

-- the shape of a field, None where it has no row in the table
abbrev pub field_shape : Known → FieldFacts → Option Shape
field_shape known f = option_map (λ e. e.shape) (entry_by known f.unicode column.Field f.kind f.descriptor)

-- the values of a list of which each is there
abbrev pub all_some : {A : Type 0} → List (Option A) → Option (List A)
all_some [] = Some []
all_some (None ∷ rest) = None
all_some (Some a ∷ rest) = option_map (λ values. a ∷ values) (all_some rest)

-- the shape of a value type, None where a field has no row
abbrev pub struct_shape : Known → StructFacts → Option StructShape
struct_shape known s =
    option_map
    (λ shapes. record {
      ty = s.ty;
      pack = s.pack;
      least = s.least;
      explicit = s.explicit;
      fields = shapes;
      offsets = map (λ f. f.offset) s.fields;
    })
    (all_some (map (field_shape known) s.fields))

-- What is known of the types when needs are followed so many times. A type that needs itself again is never known, and so it
-- has no row.
unfoldable pub known_after : TypeFacts → ℕ → Known
known_after facts zero = record { struct_of = λ t. None; is_callable = λ t. false }
known_after facts (suc n) =
    let known = known_after facts n in record {
      struct_of = λ t. option_and_then (struct_shape known) (facts.struct_of t);
      is_callable = λ t. is_ok (back_of known (facts.invoke_of t));
    }

-- What is known of the types. A row may be needed once as a value type and once as a delegate type, so that a chain of needs in
-- which none comes twice is at most twice as long as there are rows.
abbrev pub known : TypeFacts → Known
known facts = known_after facts (facts.count + facts.count)
