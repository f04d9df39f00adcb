-- The exit status of each ending of a run.
use Rattle.std.specs.Prelude.{ℕ, ℤ, pos, negsuc, nat_lt, if◌then◌else◌}
use Rattle.bound_base.specs.declared.ending.Ending.{Ending}
use Rattle.bound_base.specs.declared.ending.Ending.TheVariants.{Returned, Exited, Unhandled, Spent, Bad, Deep, SinkFailed, InitFault, Memory}

-- a program's own number is its status from 0 to 199
abbrev pub status_of_number : ℤ → ℕ
status_of_number (pos n) = if nat_lt n 200 then n else 200
status_of_number (negsuc n) = 200

abbrev pub status : Ending → ℕ
status (Returned number) = status_of_number number
status (Exited number) = status_of_number number
status (Unhandled _) = 207
status Spent = 208
status (Bad _ _) = 206
status Deep = 209
status SinkFailed = 210
status (InitFault _) = 213
status Memory = 211
