-- What the code's parts show.
use Rattle.managed_value.specs.declared.value.Value.{Value}
use Rattle.managed_value.specs.declared.parts.Part.{Part}
use Rattle.managed_value.specs.declared.parts.Part.TheVariants as parts

-- the value that a part is
abbrev pub shown : Part → Value
shown (parts.Whole v) = v.now
shown (parts.Bytes t bytes) = Value.Flat t bytes.now
