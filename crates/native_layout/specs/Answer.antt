-- The layout of a struct, or the field for which it has none.
use Rattle.std.specs.Prelude.{◌≡◌, ℕ, ◌-◌, ◌^◌, min, map, Option, Some, None, Result, Ok, Err, ⊤}
use Rattle.std.specs.Option.{option_map}
use Rattle.native_layout.specs.declared.shapes.Layout.{Layout}
use Rattle.native_layout.specs.declared.shapes.StructShape.{StructShape}
use Rattle.native_layout.specs.declared.refused.LayoutBad.{LayoutBad}
use Rattle.native_layout.specs.declared.refused.LayoutBad.TheVariants.{Outside, Memory}
use Rattle.native_layout.specs.Struct.{Struct, ranges, struct_size, struct_align, broken}
use Rattle.native_layout.specs.Shapes.{measured}

-- the number of a field, as 32 bits tell it
abbrev pub told : ℕ → ℕ
told field = min field (2 ^ 32 - 1)

abbrev pub laid_unless : Option ℕ → Layout → Result Layout ℕ
laid_unless (Some field) l = Err (told field)
laid_unless None l = Ok l

-- the layout of a struct whose fields are measured, or the number of the field for which it has none
abbrev pub laid : Struct → Result Layout ℕ
laid s =
    laid_unless (broken s) (record {
      offsets = map (λ r. Some r.start) (ranges s);
      size = struct_size s;
      align = struct_align s;
    })

abbrev pub layout_of : StructShape → Result Layout ℕ
layout_of s = laid (measured s)

-- A call answered what a definition says; want of memory says nothing, and is free.
abbrev pub Answers : {X : Type 0} → Result X LayoutBad → Result X ℕ → Type 0
Answers (Ok x) said = said ≡ Ok x
Answers (Err (Outside field)) said = said ≡ Err field
Answers (Err Memory) said = ⊤

-- A test answered whether a rule is broken, and at which field.
abbrev pub Passes : {X : Type 0} → Option ℕ → Result X LayoutBad → Type 0
Passes rule (Ok x) = rule ≡ None
Passes rule (Err (Outside field)) = option_map told rule ≡ Some field
Passes rule (Err Memory) = ⊤
