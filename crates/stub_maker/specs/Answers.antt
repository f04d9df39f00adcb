-- Answers that may be refusals.
use Rattle.std.specs.Prelude.{Result, Ok, Err}

-- what follows an answer, or its refusal
abbrev pub and_then : {A B E : Type 0} → (A → Result B E) → Result A E → Result B E
and_then next (Ok value) = next value
and_then next (Err refusal) = Err refusal

abbrev pub map_ok : {A B E : Type 0} → (A → B) → Result A E → Result B E
map_ok f (Ok value) = Ok (f value)
map_ok f (Err refusal) = Err refusal
