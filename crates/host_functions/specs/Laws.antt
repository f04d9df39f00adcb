-- Laws of the table of host functions.
use Rattle.std.specs.Prelude.{◌≡◌, ℕ, ◌<◌, length, map, Some}
use Rattle.std.specs.List.{range_with_len}
use Rattle.host_functions.specs.HostFunctions.{host_functions, host_names, host_place, number_named, number_at}

-- no two functions have one name: each name is found under its own number
abbrev pub NamesAreFound : Type 0
NamesAreFound = map number_named host_names ≡ map Some (range_with_len 0 (length host_names))

-- each function is found at its place, and at no other
pub record StandsAt (place number : ℕ) : Type 0 where
  pub found :
      number < length host_functions → place ≡ host_place number → number_at place ≡ Some number
  pub only :
      number_at place ≡ Some number → (number < length host_functions) × (place ≡ host_place number)

abbrev pub PlacesAreFound : Type 0
PlacesAreFound = (place number : ℕ) → StandsAt place number

-- each place is among the special ones, which lie below all memory
abbrev pub PlacesAreBelowMemory : Type 0
PlacesAreBelowMemory = (number : ℕ) → number < length host_functions → host_place number < 65536
