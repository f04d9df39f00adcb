-- Why libraries aren't bound.
use Rattle.std.specs.Prelude.{ℕ}

-- the number of the first library that is broken, a part by its place in the reading order, and
-- a file offset
abbrev pub Unbound : Type 0
Unbound = ℕ × ℕ × ℕ
