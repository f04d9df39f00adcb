-- What is known of a file's types while their needs are being met.
use Rattle.std.specs.Prelude.{◌≡◌, ℕ, ◌+◌, ◌-◌, ◌<◌, ◌^◌, Bool, ◌&&◌, true, false, nat_le, List, length, slice_index_or, slice_set, Option, Some, None, is_some, is_ok, if◌then◌else◌}
use Rattle.std.specs.List.{count_by}
use Rattle.std.specs.Option.{option_and_then, option_map}
use Rattle.native_layout.specs.declared.outlines.Outline.{Outline}
use Rattle.native_layout.specs.declared.shapes.Shape.{Struct}
use Rattle.native_layout.specs.declared.shapes.StructShape.{StructShape}
use Rattle.native_layout.specs.Outlines.{IsSound, outline}
use Rattle.type_model.specs.Module.{Module}
use Rattle.stub_maker.specs.declared.entries.Contents.{Contents}
use Rattle.stub_maker.specs.declared.finding.Finding.{Finding}
use Rattle.stub_maker.specs.declared.finding.Finding.TheVariants.{Callable, Outlined}
use Rattle.stub_maker.specs.Shapes.{Known}
use Rattle.stub_maker.specs.Facts.{TypeFacts, known_after, struct_shape}
use Rattle.stub_maker.specs.Callbacks.{back_of}
use Rattle.stub_maker.specs.Described.{facts_of}

-- what has been found of a file's types, by their rows of TypeDef: the outlines of value types, and whether delegate types have rows
-- in the table; place 0 is no row
pub record Learned : Type 0 where
  pub image : Module
  pub outlines : List (Option Outline)
  pub callable : List Bool

abbrev pub outline_at : Learned → ℕ → Option Outline
outline_at l t = slice_index_or l.outlines t None

abbrev pub callable_at : Learned → ℕ → Bool
callable_at l t = slice_index_or l.callable t false

-- how much has been found
abbrev pub met : Learned → ℕ
met l = count_by is_some l.outlines + count_by (λ b. b) l.callable

-- how much more may be found, at most
abbrev pub room : Learned → ℕ
room l = ((facts_of l.image).count + 1) + ((facts_of l.image).count + 1) - met l

-- what is known when needs are followed as many times
abbrev pub known_then : Learned → Known
known_then l = known_after (facts_of l.image) (met l)

-- what is known of the types of which something has been found
unfoldable pub known_so_far : Learned → Known
known_so_far l = record {
  struct_of = λ t. if is_some (outline_at l t) then (known_then l).struct_of t else None;
  is_callable = callable_at l;
}

-- needs followed once more
abbrev pub followed : TypeFacts → Known → Known
followed facts known = record {
  struct_of = λ t. option_and_then (struct_shape known) (facts.struct_of t);
  is_callable = λ t. is_ok (back_of known (facts.invoke_of t));
}

abbrev pub outline_of : Option StructShape → Option Outline
outline_of shape = option_map (λ s. outline (Struct s)) shape

-- what has been found is so
pub record IsRight (l : Learned) : Type 0 where
  pub many : length l.outlines ≡ (facts_of l.image).count + 1
  pub many_callable : length l.callable ≡ (facts_of l.image).count + 1
  pub outlines : (t : ℕ) (o : Outline) → outline_at l t ≡ Some o → outline_of ((known_then l).struct_of t) ≡ Some o
  pub callable : (t : ℕ) → callable_at l t ≡ true → (known_then l).is_callable t ≡ true
  pub sound : (t : ℕ) (o : Outline) → outline_at l t ≡ Some o → IsSound o

-- what is known of one state and of another is the same
pub record Agree (a b : Known) : Type 0 where
  pub structs : (t : ℕ) → a.struct_of t ≡ b.struct_of t
  pub callable : (t : ℕ) → a.is_callable t ≡ b.is_callable t

-- what may be found of a row by what is known so far
abbrev pub next : Learned → Known
next l = followed (facts_of l.image) (known_so_far l)

-- nothing more may be found of a row
pub record IsClosedAt (l : Learned) (t : ℕ) : Type 0 where
  pub outline : outline_at l t ≡ None → (next l).struct_of t ≡ None
  pub callable : callable_at l t ≡ false → (next l).is_callable t ≡ false

-- a finding is one of a row of which it hasn't been found
pub record IsNewOutline (l : Learned) (t : ℕ) (o : Outline) : Type 0 where
  pub within : t < (facts_of l.image).count + 1
  pub new : outline_at l t ≡ None
  pub found : outline_of ((next l).struct_of t) ≡ Some o
  pub sound : IsSound o

pub record IsNewCallable (l : Learned) (t : ℕ) : Type 0 where
  pub within : t < (facts_of l.image).count + 1
  pub new : callable_at l t ≡ false
  pub found : (next l).is_callable t ≡ true

abbrev pub IsNew : Learned → Finding → Type 0
IsNew l (Outlined t o) = IsNewOutline l t o
IsNew l (Callable t) = IsNewCallable l t

abbrev pub with_finding : Learned → Finding → Learned
with_finding l (Outlined t o) = record l { outlines = slice_set l.outlines t (Some o) }
with_finding l (Callable t) = record l { callable = slice_set l.callable t true }

abbrev pub contents_by : Outline → Contents
contents_by o = record {
  flat = o.flat;
  pointers = o.pointers;
  laid_out = o.stands && nat_le o.nesting 64 && nat_le o.parts (2 ^ 20);
}
