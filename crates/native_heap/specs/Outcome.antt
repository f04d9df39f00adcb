-- What a host function comes to.
use Rattle.std.specs.Prelude.{◌≡◌, ℕ, Bool, true, Option, None, option_map, option_and_then}
use Rattle.native_memory.specs.AddressSpace.{AddressSpace}
use Rattle.native_heap.specs.declared.refusal.HeapBad.{HeapBad}
use Rattle.native_heap.specs.declared.refusal.HeapBad.TheVariants.{Fault, Memory}

-- its answer, and memory after it; None where it faults
abbrev pub Outcome : Type 0
Outcome = Option (ℕ × AddressSpace)

infixl 10 ◌>>=◌
abbrev pub ◌>>=◌ : {A B : Type 0} → Option A → (A → Option B) → Option B
step >>= next = option_and_then next step

-- a function that reads memory and leaves it as it was
abbrev pub reading : AddressSpace → Option ℕ → Outcome
reading space answer = option_map (λ value. (value, space)) answer

-- a function that changes memory, and answers what it was handed
abbrev pub answering : ℕ → Option AddressSpace → Outcome
answering answer change = option_map (λ new. (answer, new)) change

-- why nothing came of it: its outcome is a fault; or memory for it is wanting, which can be only
-- where the test says that it takes memory
abbrev pub FailsBy : {T : Type 0} → HeapBad → Option T → Bool → Type 0
FailsBy Fault outcome takes = outcome ≡ None
FailsBy Memory outcome takes = takes ≡ true
