-- The functions of the C library that native code may call: the one table of their numbers, names and places.
use Rattle.std.specs.Prelude.{ℕ, ◌+◌, ◌-◌, ◌*◌, ◌/◌, nat_lt, ◌&&◌, ◌==◌, List, [], ◌∷◌, map, length, codes, position, bytes_eq, Option, Some, None, option_map, if◌then◌else◌}
use Rattle.host_functions.specs.declared.functions.HostFunction.{HostFunction}
use Rattle.host_functions.specs.declared.functions.HostFunction.TheVariants.{Malloc, Calloc, Realloc, Free, Memcpy, Memmove, Memset, Memcmp, Strlen, Strcmp, Strcpy, ErrnoLocation, Abort}

-- the functions in order of their numbers, which count from 0, with their names in C
abbrev pub host_table : List (HostFunction × List ℕ)
host_table =
    (Malloc, codes "malloc")
    ∷ (Calloc, codes "calloc")
    ∷ (Realloc, codes "realloc")
    ∷ (Free, codes "free")
    ∷ (Memcpy, codes "memcpy")
    ∷ (Memmove, codes "memmove")
    ∷ (Memset, codes "memset")
    ∷ (Memcmp, codes "memcmp")
    ∷ (Strlen, codes "strlen")
    ∷ (Strcmp, codes "strcmp")
    ∷ (Strcpy, codes "strcpy")
    ∷ (ErrnoLocation, codes "__errno_location")
    ∷ (Abort, codes "abort")
    ∷ []

-- the functions in order of their numbers
abbrev pub host_functions : List HostFunction
host_functions = map (λ row. row.0) host_table

-- their names in order of their numbers
abbrev pub host_names : List (List ℕ)
host_names = map (λ row. row.1) host_table

-- the place of a function, by its number: they stand 16 bytes apart
abbrev pub host_place : ℕ → ℕ
host_place number = 0x200 + 16 * number

-- the number of the function that has a name
abbrev pub number_named : List ℕ → Option ℕ
number_named name = position (λ known. bytes_eq known name) host_names

-- the place of the function that has a name
abbrev pub place_named : List ℕ → Option ℕ
place_named name = option_map host_place (number_named name)

-- the number of the function that stands at a place
abbrev pub number_at : ℕ → Option ℕ
number_at place =
    let number : ℕ = (place - host_place 0) / 16 in
    if nat_lt number (length host_functions) && place == host_place number
    then Some number
    else None
