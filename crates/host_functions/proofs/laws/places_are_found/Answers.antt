use Rattle.std.proofs.Common.{◌≡◌, ℕ, ◌<◌, length, Some, arith}
use Rattle.host_functions.specs.HostFunctions.{host_functions, host_place, number_at}
use Rattle.host_functions.proofs.laws.places_are_found.Goals as goal

found : (place number : ℕ) → number < length host_functions → place ≡ host_place number → number_at place ≡ Some number
found place number low is = grind arith

only : (place number : ℕ) → number_at place ≡ Some number → (number < length host_functions) × (place ≡ host_place number)
only place number is = grind arith

pub returns : goal.returns
returns c = λ place number. record { found = found place number; only = only place number }
