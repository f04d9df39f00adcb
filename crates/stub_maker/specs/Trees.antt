-- What is made, where it is made, is what is said; and it is made unless that is too deep.
use Rattle.std.specs.Prelude.{◌≡◌, ℕ, ◌<◌, List, map, Option, Some, None}
use Rattle.native_layout.specs.declared.shapes.Shape.{Shape}
use Rattle.native_layout.specs.Shapes.{nesting}
use Rattle.native_layout.specs.Struct.{greatest}

-- what is made of something that may be there, at most `left` levels deep
abbrev pub IsTree : {A : Type 0} → (A → ℕ) → ℕ → Option A → Option A → Type 0
IsTree {A} depth left None said = (a : A) → said ≡ Some a → left < depth a
IsTree depth left (Some a) said = said ≡ Some a

-- how deep the deepest of some shapes is
abbrev pub deepest_of : List Shape → ℕ
deepest_of shapes = greatest 0 (map nesting shapes)
