-- Calls that are to fail, and how many did.
use Rattle.std.specs.Prelude.{ℕ, ◌+◌, ◌-◌, ◌^◌, min, Bool, List, [], if◌then◌else◌}
use Rattle.outside_kit.specs.declared.calls.Calls.{Calls}

-- before the first call, where none is to fail
abbrev pub no_calls : Calls
no_calls = record { next = 0; failing = []; faults = 0 }

-- one more, up to 2^64 - 1
abbrev pub counted : ℕ → ℕ
counted n = min (n + 1) (2 ^ 64 - 1)

-- from here on just these calls are to fail
abbrev pub failing_at : Calls → List ℕ → Calls
failing_at calls failing = record calls { failing = failing }

-- after a call, which failed or not
abbrev pub after_call : Calls → Bool → Calls
after_call calls failed = record calls {
  next = counted calls.next;
  faults = if failed then counted calls.faults else calls.faults;
}
