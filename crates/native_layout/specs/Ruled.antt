-- What the code says of a struct that it knows by its rules, its written offsets and the extents of its fields.
use Rattle.std.specs.Prelude.{◌≡◌, ℕ, not, ◌&&◌, List, map, Option, None, Result}
use Rattle.std.specs.List.{list_all, position}
use Rattle.native_layout.specs.declared.extent.Extent.{Extent}
use Rattle.native_layout.specs.declared.fields.LayoutRules.{LayoutRules}
use Rattle.native_layout.specs.declared.shapes.Layout.{Layout}
use Rattle.native_layout.specs.declared.shapes.StructShape.{StructShape}
use Rattle.native_layout.specs.declared.refused.LayoutBad.{LayoutBad}
use Rattle.native_layout.specs.Struct.{Measure, Struct}
use Rattle.native_layout.specs.Shapes.{measure}
use Rattle.native_layout.specs.Answer.{Answers, laid}
use Rattle.native_layout.specs.Placed.{cap}

-- what a struct's layout asks beside its fields
abbrev pub rules_by : StructShape → LayoutRules
rules_by s = record {
  pack = s.pack;
  least = s.least;
  explicit = s.explicit;
  overlap = s.explicit && list_all (λ m. m.integral) (map measure s.fields);
}

-- the struct of some measured fields under these rules
abbrev pub ruled : LayoutRules → List (Option ℕ) → List Measure → Struct
ruled rules offsets fields = record {
  pack = rules.pack;
  least = rules.least;
  explicit = rules.explicit;
  fields = fields;
  offsets = offsets;
}

-- fields that stand and have these extents, under rules that let them overlap where they may
pub record AreRuled (rules : LayoutRules) (es : List Extent) (fields : List Measure) : Type 0 where
  pub stand : position (λ m. not m.stands) fields ≡ None
  pub extents : es ≡ map cap (map (λ m. m.extent) fields)
  pub overlap : rules.overlap ≡ (rules.explicit && list_all (λ m. m.integral) fields)

-- a layout is that of whatever fields have these extents
abbrev pub AnswersRuled : LayoutRules → List (Option ℕ) → List Extent → Result Layout LayoutBad → Type 0
AnswersRuled rules offsets es result =
    (fields : List Measure) → AreRuled rules es fields → Answers result (laid (ruled rules offsets fields))

-- the same of fields in sequence, whatever offsets are written
abbrev pub AnswersInSequence : LayoutRules → List Extent → Result Layout LayoutBad → Type 0
AnswersInSequence rules es result = (offsets : List (Option ℕ)) → AnswersRuled rules offsets es result
