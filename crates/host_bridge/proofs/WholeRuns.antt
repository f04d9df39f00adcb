-- What is said of a whole run, from what is said of its calls.
use Rattle.std.proofs.Common.{◌≡◌, ℕ, ◌+◌, ◌<◌, ◌≤◌, List, [], ◌∷◌, ◌++◌, length, get_or, map, drop, add-one, ap, subst, Result, Ok, Err, IfOk, IfErr}
use Rattle.std.proofs.Math.Seq.{drop-cons}
use Rattle.std.proofs.lemmas.List.{drop_all}
use Rattle.bound_base.specs.declared.ending.Ending.{Ending}
use Rattle.bound_base.specs.declared.ending.Ending.TheVariants.{Returned, Exited, Unhandled, Spent, Bad, Deep, SinkFailed, InitFault, Memory}
use Rattle.bound_base.specs.declared.limits.Lane.{Lane}
use Rattle.native_memory.specs.AddressSpace.{AddressSpace}
use Rattle.host_bridge.specs.SymbolRun.{Call, SymbolState, outcome, initializer}
use Rattle.host_bridge.specs.SymbolParts.{waiting, SymbolRan, Comes, EndsBy}
use Rattle.host_bridge.proofs.Parts.{ends_after, outcome_of}
use Rattle.host_bridge.proofs.CallTurns.{comes_after, finished}

-- the calls that haven't begun: from an initializer on
pub initializers_from : (inits : List ℕ) (i : ℕ) (function : Call) → i < length inits
    → map initializer (drop i inits) ++ function ∷ [] ≡ initializer (get_or inits i 0) ∷ (map initializer (drop (i + 1) inits) ++ function ∷ [])
initializers_from inits i function in_range =
    let e : drop i inits ≡ get_or inits i 0 ∷ drop (i + 1) inits = rw (add-one, drop-cons inits i 0 in_range) in
    ap (λ (rest : List ℕ). map initializer rest ++ function ∷ []) e

-- and after the last one
pub initializers_end : (inits : List ℕ) (i : ℕ) (function : Call) → length inits ≤ i → map initializer (drop i inits) ++ function ∷ [] ≡ function ∷ []
initializers_end inits i function past = ap (λ (rest : List ℕ). map initializer rest ++ function ∷ []) (drop_all i inits past)

-- a state that others are the same as
pub waits_at : (lane : Lane) (stack : ℕ) (run : SymbolState) (calls calls' : List Call) (before : ℕ) (space : AddressSpace) (fuel : ℕ) → calls ≡ calls'
    → SymbolRan lane stack run (waiting calls before space fuel) → SymbolRan lane stack run (waiting calls' before space fuel)
waits_at lane stack run calls calls' before space fuel e ran = subst (λ (rest : List Call). SymbolRan lane stack run (waiting rest before space fuel)) e ran

comes_ends : (lane : Lane) (stack : ℕ) (ending : Ending) (run : SymbolState) (new : ℕ → SymbolState) → Comes lane stack (Err ending) run new
    → EndsBy ending lane stack run (new 0).space
comes_ends lane stack Memory run new comes = comes
comes_ends lane stack Spent run new comes = outcome_of lane stack run (Err Spent) (new 0).space comes
comes_ends lane stack (InitFault pc) run new comes = outcome_of lane stack run (Err (InitFault pc)) (new 0).space comes
comes_ends lane stack (Returned number) run new comes = absurd comes
comes_ends lane stack (Exited number) run new comes = absurd comes
comes_ends lane stack (Unhandled type) run new comes = absurd comes
comes_ends lane stack (Bad token at) run new comes = absurd comes
comes_ends lane stack Deep run new comes = absurd comes
comes_ends lane stack SinkFailed run new comes = absurd comes

-- a call that ends a run, or doesn't come to its end
pub ends_in : (lane : Lane) (stack : ℕ) (ending : Ending) (run mid : SymbolState) (new : ℕ → SymbolState) → SymbolRan lane stack run mid
    → Comes lane stack (Err ending) mid new → EndsBy ending lane stack run (new 0).space
ends_in lane stack ending run mid new ran comes = comes_ends lane stack ending run new (comes_after lane stack (Err ending) run mid new ran comes)

pub last_ok : (lane : Lane) (stack : ℕ) (answer : Result ℕ Ending) (run mid : SymbolState) (space : AddressSpace) (fuel : ℕ) → SymbolRan lane stack run mid
    → Comes lane stack answer mid (λ value. waiting [] value space fuel)
    → IfOk answer (λ value. outcome lane stack run ≡ record { answer = Ok value; space = space })
last_ok lane stack (Ok value) run mid space fuel ran comes =
    outcome_of lane stack run (Ok value) space
    (ends_after lane stack run (waiting [] value space fuel) (Ok value) space
    (comes_after lane stack (Ok value) run mid (λ v. waiting [] v space fuel) ran comes) (finished lane stack value space fuel))
last_ok lane stack (Err ending) run mid space fuel ran comes = tt

pub last_err : (lane : Lane) (stack : ℕ) (answer : Result ℕ Ending) (run mid : SymbolState) (new : ℕ → SymbolState) → SymbolRan lane stack run mid
    → Comes lane stack answer mid new → IfErr answer (λ ending. EndsBy ending lane stack run (new 0).space)
last_err lane stack (Ok value) run mid new ran comes = tt
last_err lane stack (Err ending) run mid new ran comes = ends_in lane stack ending run mid new ran comes
