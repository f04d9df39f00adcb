-- What `native` answers: a library is bound alone, after the blocks that stand first in memory, and
-- one of its symbols is called.
use Rattle.std.specs.Prelude.{ℕ, ◌+◌, List, [], ◌∷◌, replicate, Option, Some, None, Result, Ok, Err}
use Rattle.bound_base.specs.declared.ending.Ending.{Ending}
use Rattle.bound_base.specs.Limits.{standard}
use Rattle.byte_view.specs.Reading.{Broken, ◌>>=◌}
use Rattle.byte_view.specs.Library as file
use Rattle.native_memory.specs.declared.kind.Kind.{Kind}
use Rattle.native_memory.specs.declared.kind.Kind.TheVariants.{Stack, Errno}
use Rattle.native_memory.specs.AddressSpace.{Block, AddressSpace, block_of, data_rights}
use Rattle.native_memory.specs.Placement.{up_to_16}
use Rattle.elf_binder.specs.Unbound.{Unbound}
use Rattle.elf_binder.specs.Modules.{symbol_in}
use Rattle.elf_binder.specs.Binding.{Bindings, sources_from, bindings}
use Rattle.host_bridge.specs.Places.{first_lane}
use Rattle.host_bridge.specs.SymbolRun.{symbol_run}
use Rattle.host_run.specs.Answer.{Answer, done, bad_library, no_symbol, ended}
use Rattle.host_run.specs.FileNames.{file_name}
use Rattle.host_run.specs.Texts.{number_line}

-- ---- memory before libraries are bound

-- a block of zeros that holds data
abbrev pub data_block : ℕ → ℕ → Kind → Block
data_block base size kind = block_of base size data_rights kind (Some (replicate size 0))

-- the number of the last error, of 4 bytes, and a stack of so many
unfoldable pub space_with_stack : ℕ → AddressSpace
space_with_stack stack = record {
  limit = standard.native;
  next = first_lane.stack + up_to_16 stack + 16;
  edge = first_lane.stack + stack;
  blocks = data_block first_lane.errno 4 Errno ∷ data_block first_lane.stack stack Stack ∷ [];
}

unfoldable pub start_space : AddressSpace
start_space = space_with_stack standard.stack

-- ---- the library

-- alone, a library has no number
abbrev pub alone : {X : Type 0} → Result X Unbound → Result X Broken
alone (Ok x) = Ok x
alone (Err broken) = Err (broken.1, broken.2)

-- a library under a name and memory with it, by the file's bytes; or its first broken part
unfoldable pub bound_alone :
    AddressSpace → List ℕ → List ℕ → Result (Bindings × AddressSpace) Broken
bound_alone space name bytes =
    file.library bytes >>= λ library.
    alone (bindings (sources_from 0 (library ∷ []) (bytes ∷ []) (name ∷ [])) space)

-- ---- the call

-- the most events of the call and of the initializers before it
abbrev pub native_fuel : ℕ
native_fuel = 10000000

-- what native code came to
abbrev pub run_answer : Result ℕ Ending → Answer
run_answer (Ok number) = done (number_line number)
run_answer (Err ending) = ended ending

-- the address of the symbol is called with the numbers
abbrev pub call_answer : List ℕ → List ℕ → (Bindings × AddressSpace) → Option ℕ → Answer
call_answer symbol numbers bound None = no_symbol symbol
call_answer symbol numbers bound (Some at) =
    run_answer
    (symbol_run first_lane standard.stack bound.0.inits at numbers native_fuel bound.1).answer

-- the symbol is looked for in the only library, number 0; a broken one is named as the line has it
abbrev pub bound_answer :
    List ℕ → List ℕ → List ℕ → Result (Bindings × AddressSpace) Broken → Answer
bound_answer lib symbol numbers (Ok bound) =
    call_answer symbol numbers bound (symbol_in bound.0.modules 0 symbol)
bound_answer lib symbol numbers (Err broken) = bad_library lib broken.0 broken.1

-- `native` of a library by its file's bytes, which is bound under the name that stands after the
-- last `/`
abbrev pub native_of : List ℕ → List ℕ → List ℕ → List ℕ → Answer
native_of lib symbol numbers bytes =
    bound_answer lib symbol numbers (bound_alone start_space (file_name lib) bytes)
