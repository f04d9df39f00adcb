-- What an error says.
use Rattle.std.specs.Prelude.{ℕ, Option, Some, None}
use Rattle.body_reader.specs.declared.bad.BodyBad.{BodyBad}
use Rattle.body_reader.specs.declared.bad.BodyBad.TheVariants.{BadBody, Memory}

-- where bytes are no body; nothing where there is no memory
abbrev pub refusal : BodyBad → Option ℕ
refusal (BadBody at) = Some at
refusal Memory = None
