-- The places of code that isn't in memory. Host functions stand at those of `host_functions`.
use Rattle.std.specs.Prelude.{ℕ}

-- where native code returns to when it is done
abbrev pub return_place : ℕ
return_place = 0x100
