-- The integer registers, x0 to x31.
use Rattle.std.specs.Prelude.{ℕ, List, ◌==◌, slice_index, slice_set, if◌then◌else◌}

-- the word in a register: x0 reads as 0
abbrev pub register : List ℕ → ℕ → ℕ
register x r = if r == 0 then 0 else slice_index x r

-- the registers with a word in one of them: x0 isn't written
abbrev pub with_register : List ℕ → ℕ → ℕ → List ℕ
with_register x r value = if r == 0 then x else slice_set x r value
