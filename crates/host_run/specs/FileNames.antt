-- The name of a file by its path.
use Rattle.std.specs.Prelude.{ℕ, Bool, not, ◌==◌, List}
use Rattle.std.specs.List.{after_last}

abbrev pub is_slash : ℕ → Bool
is_slash byte = byte == 47

abbrev pub is_no_slash : ℕ → Bool
is_no_slash byte = not (is_slash byte)

-- what stands after the last `/`, and all where there is none
unfoldable pub file_name : List ℕ → List ℕ
file_name path = after_last is_slash path
