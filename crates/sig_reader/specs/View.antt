-- What errors say.
use Rattle.std.specs.Prelude.{ℕ, Option, Some, None}
use Rattle.sig_reader.specs.declared.bad.SigBad.{SigBad}
use Rattle.sig_reader.specs.declared.bad.SigBad.TheVariants as bad
use Rattle.sig_reader.specs.declared.parts.Stop.{Stop}
use Rattle.sig_reader.specs.declared.parts.Stop.TheVariants as stops

-- how many bytes are left where reading stops; nothing for want of memory
abbrev pub left_at : Stop → Option ℕ
left_at (stops.Left left) = Some left
left_at stops.Memory = None

-- the refused place; nothing for want of memory
abbrev pub refused_at : SigBad → Option ℕ
refused_at (bad.BadSig at) = Some at
refused_at bad.Memory = None
