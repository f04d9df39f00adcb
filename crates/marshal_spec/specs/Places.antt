-- Where bytes are refused.
use Rattle.std.specs.Prelude.{ℕ, Option, Some}
use Rattle.marshal_spec.specs.declared.spec.SpecBad.{SpecBad}
use Rattle.marshal_spec.specs.declared.spec.SpecBad.TheVariants.{BadSpec}

abbrev pub place : SpecBad → ℕ
place (BadSpec at) = at

-- what an error says of the bytes
abbrev pub refusal : SpecBad → Option ℕ
refusal bad = Some (place bad)
