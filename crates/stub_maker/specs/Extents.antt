-- Which shapes are laid out, and how many bytes they take.
use Rattle.std.specs.Prelude.{ℕ, ◌^◌, Bool, ◌&&◌, nat_le}
use Rattle.native_layout.specs.declared.shapes.Shape.{Shape}
use Rattle.native_layout.specs.Shapes.{measure, nesting, parts_of}

-- how deep a shape may be
abbrev pub deepest : ℕ
deepest = 64

-- how many scalar parts a shape may have
abbrev pub most_parts : ℕ
most_parts = 2 ^ 20

-- each struct in a shape can be laid out, and the shape isn't too deep and hasn't too many parts
abbrev pub is_laid_out : Shape → Bool
is_laid_out shape = (measure shape).stands && nat_le (nesting shape) deepest && nat_le (parts_of shape) most_parts

-- the bytes of a shape
abbrev pub size : Shape → ℕ
size shape = (measure shape).extent.size
