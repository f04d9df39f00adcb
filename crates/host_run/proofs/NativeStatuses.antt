-- The statuses of `native`.
use Rattle.std.proofs.Common.{refl, ℕ, List, Option, Some, None, Result, Ok, Err, arith}
use Rattle.std.specs.Prelude.{Contains}
use Rattle.bound_base.specs.declared.ending.Ending.{Ending}
use Rattle.bound_base.specs.declared.ending.Ending.TheVariants.{Returned, Exited, Unhandled, Spent, Bad, Deep, SinkFailed, InitFault, Memory}
use Rattle.bound_base.specs.Limits.{standard}
use Rattle.byte_view.specs.Reading.{Broken}
use Rattle.native_memory.specs.AddressSpace.{AddressSpace}
use Rattle.elf_binder.specs.Modules.{symbol_in}
use Rattle.elf_binder.specs.Binding.{Bindings}
use Rattle.host_bridge.specs.Places.{first_lane}
use Rattle.host_bridge.specs.SymbolRun.{symbol_run, IsSymbolEnding}
use Rattle.host_bridge.proofs.Endings.{symbol_runs_end}
use Rattle.host_run.specs.FileNames.{file_name}
use Rattle.host_run.specs.Native.{start_space, bound_alone, native_fuel, run_answer, call_answer, bound_answer, native_of}
use Rattle.host_run.specs.NativeLaws.{native_statuses, NativeHasFiveStatuses}

-- What holds of 0, of both endings of native code, of a broken library and of a missing symbol, holds of each answer's status.
module _ (P : ℕ → Type 0) (given : P 0) (broken : P 205) (spent : P 208) (faulted : P 213) (missing : P 214) where
  answer_status : (answer : Result ℕ Ending) → IsSymbolEnding answer → P (run_answer answer).status
  answer_status (Ok number) h = given
  answer_status (Err (Returned number)) h = absurd h
  answer_status (Err (Exited number)) h = absurd h
  answer_status (Err (Unhandled type)) h = absurd h
  answer_status (Err Spent) h = spent
  answer_status (Err (Bad token at)) h = absurd h
  answer_status (Err Deep) h = absurd h
  answer_status (Err SinkFailed) h = absurd h
  answer_status (Err (InitFault pc)) h = faulted
  answer_status (Err Memory) h = absurd h

  call_status : (symbol numbers : List ℕ) (bound : Bindings × AddressSpace) (found : Option ℕ) → P (call_answer symbol numbers bound found).status
  call_status symbol numbers bound None = missing
  call_status symbol numbers bound (Some at) = answer_status (symbol_run first_lane standard.stack bound.0.inits at numbers native_fuel bound.1).answer (symbol_runs_end first_lane standard.stack bound.0.inits at numbers native_fuel bound.1)

  bound_status : (lib symbol numbers : List ℕ) (bound : Result (Bindings × AddressSpace) Broken) → P (bound_answer lib symbol numbers bound).status
  bound_status lib symbol numbers (Ok bound) = call_status symbol numbers bound (symbol_in bound.0.modules 0 symbol)
  bound_status lib symbol numbers (Err broken_part) = broken

  pub native-status : (lib symbol numbers bytes : List ℕ) → P (native_of lib symbol numbers bytes).status
  native-status lib symbol numbers bytes = bound_status lib symbol numbers (bound_alone start_space (file_name lib) bytes)

pub native_has_five_statuses : NativeHasFiveStatuses
native_has_five_statuses lib symbol numbers bytes =
    native-status (Contains native_statuses) (0, omega arith, refl) (1, omega arith, refl) (2, omega arith, refl) (3, omega arith, refl) (4, omega arith, refl) lib symbol numbers bytes
