-- What a sink got of a text, and what it counted, by how the put of the text ended.
use Rattle.std.specs.Prelude.{◌≡◌, ℕ, List, Option, Result, Ok, Err, ⊤}
use Rattle.bound_base.specs.Outside.{Rose, appended, AppendsFront}
use Rattle.bound_base.specs.declared.put.PutError.{PutError}
use Rattle.bound_base.specs.declared.put.PutError.TheVariants as put

-- a text was put, or a front of it where a put failed or there was no memory
abbrev pub Puts : List ℕ → Result ⊤ PutError → Option (List ℕ) → Option (List ℕ) → Type 0
Puts text (Ok _) old new = new ≡ appended old text
Puts text (Err e) old new = AppendsFront old new text

-- a failed put was counted, and nothing else
abbrev pub CountsPut : Result ⊤ PutError → ℕ → ℕ → Type 0
CountsPut (Ok _) before after = after ≡ before
CountsPut (Err put.Memory) before after = after ≡ before
CountsPut (Err put.SinkFailed) before after = Rose before after
