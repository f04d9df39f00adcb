-- What a call of a host function comes to.
use Rattle.std.specs.Prelude.{ℕ, Bool, false, List, slice_get, slice_index, slice_set}
use Rattle.std.specs.Prelude.{Option, Some, None, is_some, option_map, unwrap_or}
use Rattle.host_functions.specs.declared.functions.HostFunction.{HostFunction}
use Rattle.host_functions.specs.declared.functions.HostFunction.TheVariants.{Malloc, Calloc}
use Rattle.host_functions.specs.declared.functions.HostFunction.TheVariants.{Realloc, Free, Memcpy}
use Rattle.host_functions.specs.declared.functions.HostFunction.TheVariants.{Memmove, Memset}
use Rattle.host_functions.specs.declared.functions.HostFunction.TheVariants.{Memcmp, Strlen, Strcmp}
use Rattle.host_functions.specs.declared.functions.HostFunction.TheVariants.{Strcpy, ErrnoLocation}
use Rattle.host_functions.specs.declared.functions.HostFunction.TheVariants.{Abort}
use Rattle.host_functions.specs.HostFunctions.{host_functions}
use Rattle.native_memory.specs.AddressSpace.{AddressSpace}
use Rattle.native_heap.specs.Outcome.{Outcome, ◌>>=◌}
use Rattle.native_heap.specs.Allocation.{malloc, calloc, realloc, free}
use Rattle.native_heap.specs.Allocation.{malloc_takes, calloc_takes, realloc_takes}
use Rattle.native_heap.specs.Bytes.{memmove, memset, memcmp}
use Rattle.native_heap.specs.Texts.{strlen, strcmp, strcpy}

-- what a host function comes to for its arguments, where `errno` is the address of the number of
-- the last error
abbrev pub outcome : HostFunction → ℕ → ℕ → ℕ → AddressSpace → ℕ → Outcome
outcome Malloc a b c space errno = malloc space a
outcome Calloc a b c space errno = calloc space a b
outcome Realloc a b c space errno = realloc space a b
outcome Free a b c space errno = free space a
outcome Memcpy a b c space errno = memmove space a b c
outcome Memmove a b c space errno = memmove space a b c
outcome Memset a b c space errno = memset space a b c
outcome Memcmp a b c space errno = memcmp space a b c
outcome Strlen a b c space errno = strlen space a
outcome Strcmp a b c space errno = strcmp space a b
outcome Strcpy a b c space errno = strcpy space a b
outcome ErrnoLocation a b c space errno = Some (errno, space)
outcome Abort a b c space errno = None

-- the registers with an answer in a0, which is x10, and memory after it
abbrev pub returned : List ℕ → (ℕ × AddressSpace) → (List ℕ × AddressSpace)
returned x done = (slice_set x 10 done.0, done.1)

-- what it comes to for the arguments in a0, a1 and a2, which are x10, x11 and x12
abbrev pub done_for : HostFunction → List ℕ → AddressSpace → ℕ → Outcome
done_for function x space errno =
    outcome function (slice_index x 10) (slice_index x 11) (slice_index x 12) space errno

-- A call of the host function of a number (RISC-V psABI, Integer Calling Convention): its arguments
-- stand in a0, a1 and a2, and its answer goes to a0. All other registers stay. None where it
-- faults.
unfoldable pub called : ℕ → List ℕ → AddressSpace → ℕ → Option (List ℕ × AddressSpace)
called k x space errno =
    slice_get host_functions k
    >>= λ function. option_map (returned x) (done_for function x space errno)

-- whether a host function may find memory wanting: one that places a block where there is room for
-- it, and one that copies where it doesn't fault; the others take no memory
abbrev pub takes_memory : HostFunction → ℕ → ℕ → ℕ → AddressSpace → Bool
takes_memory Malloc a b c space = malloc_takes space a
takes_memory Calloc a b c space = calloc_takes space a b
takes_memory Realloc a b c space = realloc_takes space a b
takes_memory Free a b c space = false
takes_memory Memcpy a b c space = is_some (memmove space a b c)
takes_memory Memmove a b c space = is_some (memmove space a b c)
takes_memory Memset a b c space = is_some (memset space a b c)
takes_memory Memcmp a b c space = false
takes_memory Strlen a b c space = false
takes_memory Strcmp a b c space = false
takes_memory Strcpy a b c space = is_some (strcpy space a b)
takes_memory ErrnoLocation a b c space = false
takes_memory Abort a b c space = false

abbrev pub takes_for : HostFunction → List ℕ → AddressSpace → Bool
takes_for function x space =
    takes_memory function (slice_index x 10) (slice_index x 11) (slice_index x 12) space

-- the same of a call
abbrev pub wants_memory : ℕ → List ℕ → AddressSpace → Bool
wants_memory k x space =
    let takes = option_map (λ function. takes_for function x space) (slice_get host_functions k) in
    unwrap_or takes false
