-- What holds of all descriptors.
use Rattle.std.specs.Prelude.{◌≡◌, ◌≤◌, ◌<◌, ◌+◌, ℕ, List, length, take, Some, Ok, Err, ◌↔◌}
use Rattle.marshal_spec.specs.declared.spec.Spec.{Spec}
use Rattle.marshal_spec.specs.Grammar.{Spells, IsRefusedAt}
use Rattle.marshal_spec.specs.Written.{IsSpec, written}
use Rattle.marshal_spec.specs.Reading.{spec_read, spec_of}

-- `spec_read` gives a descriptor exactly for its spellings, and refuses at a place exactly where the
-- grammar does.
pub record ReadingIsTheGrammar : Type 0 where
  pub spelled : (bytes : List ℕ) (spec : Spec) → (spec_read bytes ≡ Ok spec) ↔ Spells bytes spec
  pub refused : (bytes : List ℕ) (place : ℕ) → (spec_read bytes ≡ Err place) ↔ IsRefusedAt bytes place
  pub option : (bytes : List ℕ) (spec : Spec) → (spec_of bytes ≡ Some spec) ↔ Spells bytes spec

-- Bytes spell one descriptor at most.
abbrev pub BytesSpellOne : Type 0
BytesSpellOne = (bytes : List ℕ) (one two : Spec) → Spells bytes one → Spells bytes two → one ≡ two

-- What is written of a descriptor is read as that descriptor.
abbrev pub WrittenIsRead : Type 0
WrittenIsRead = (spec : Spec) → IsSpec spec → spec_read (written spec) ≡ Ok spec

-- A place of refusal is at most the length. Bytes that begin alike, up to the place and with the byte
-- there, are refused alike.
pub record RefusedByFront : Type 0 where
  pub within : (bytes : List ℕ) (place : ℕ) → IsRefusedAt bytes place → place ≤ length bytes
  pub alike : (bytes others : List ℕ) (place : ℕ) → IsRefusedAt bytes place → place < length bytes →
      take (place + 1) bytes ≡ take (place + 1) others → IsRefusedAt others place
