-- A small machine, of which the laws of runs hold: a number that counts down, and puts what it was.
use Rattle.std.specs.Prelude.{ℕ, ◌-◌, [], ◌∷◌, ◌==◌, if◌then◌else◌}
use Rattle.runs.specs.Machines.{Machine, Goes, Stops}
use Rattle.run_cases.specs.declared.countdown.Countdown.{Countdown}

abbrev pub counting : Machine Countdown ℕ ℕ ℕ
counting = record {
  step = λ c. if c.left == 0 then Stops 0 else Goes (record { left = c.left - 1 }) (c.left ∷ []) [];
  fuel = λ c. c.left;
}
