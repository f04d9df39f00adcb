-- Calls for which memory is wanting.
use Rattle.std.proofs.Common.{◌≡◌, ap, Bool, true, Option, Some, None, Result, Ok, Err, IfErr, refl}
use Rattle.std.specs.Prelude.{ℕ, IsSome, IsErrAnd}
use Rattle.native_memory.specs.AddressSpace.{AddressSpace}
use Rattle.native_heap.specs.declared.refusal.HeapBad.{HeapBad}
use Rattle.native_heap.specs.declared.refusal.HeapBad.TheVariants.{Memory}
use Rattle.native_heap.specs.Outcome.{FailsBy, answering}

fails_memory : {T : Type 0} (bad : HeapBad) (outcome : Option T) (takes : Bool) → bad ≡ Memory → takes ≡ true → FailsBy bad outcome takes
fails_memory bad outcome takes memory some = rw memory some

-- what a `?` answers where memory is wanting
pub refused : {T X : Type 0} (r : Result X HeapBad) (outcome : Option T) (takes : Bool) → IsErrAnd r (λ bad. bad ≡ Memory) → takes ≡ true → IfErr r (λ bad. FailsBy bad outcome takes)
refused (Ok x) outcome takes memory some = absurd memory
refused (Err bad) outcome takes memory some = fails_memory bad outcome takes memory some

pub answering_done : (answer : ℕ) (change : Option AddressSpace) → IsSome change → IsSome (answering answer change)
answering_done answer None some = some
answering_done answer (Some new) some = refl

pub some_pair : {A B : Type 0} (p q : A × B) → Some p ≡ Some q → p ≡ q
some_pair p q is = cc

-- of a change that was answered
pub answered_is : (to answer : ℕ) (change : Option AddressSpace) (new : AddressSpace) → answering to change ≡ Some (answer, new) → (to ≡ answer) × (change ≡ Some new)
answered_is to answer None new is = cc
answered_is to answer (Some made) new is =
    let same : (to, made) ≡ (answer, new) = some_pair (to, made) (answer, new) is in
    (ap (λ done. done.0) same, ap (λ done. Some done.1) same)

pub answered_new : (to answer : ℕ) (change : Option AddressSpace) (new : AddressSpace) → answering to change ≡ Some (answer, new) → change ≡ Some new
answered_new to answer change new is = (answered_is to answer change new is).1
