-- Answers for the parameters of a signature in order, one more at a time.
use Rattle.std.proofs.Common.{◌≡◌, ℕ, ◌+◌, ◌<◌, ◌≤◌, List, [], ◌∷◌, ◌++◌, length, take, get_or, Result, Ok, Err, ap, sym, subst, arith, ◌∙◌}
use Rattle.std.proofs.lemmas.List.{take_all}
use Rattle.sig_reader.specs.declared.signature.TypeSig.{TypeSig}
use Rattle.type_model.specs.Module.{Module}
use Rattle.stub_maker.specs.declared.kinds.Passed.{Passed}
use Rattle.stub_maker.specs.declared.refused.Param.TheVariants.{Arg}
use Rattle.stub_maker.specs.declared.refused.StubBad.{StubBad}
use Rattle.stub_maker.specs.declared.refused.Why.{Why}
use Rattle.stub_maker.specs.Crossing.{IsReturned, IsStep}
use Rattle.stub_maker.specs.Described.{passed_at, passed_params}
use Rattle.stub_maker.specs.Rules.{each_from}
use Rattle.stub_maker.proofs.Numbered.{numbered_at, numbered_length}
use Rattle.stub_maker.proofs.Stepping.{step_fails, step_taken}

module _ {A : Type 0} (f : ℕ → Passed → Result A Why) (m : Module) (n : ℕ) (sigs : List TypeSig) where
  abbrev passed_by : ℕ × TypeSig → Passed
  passed_by numbered = passed_at m n numbered.0 numbered.1

  within_params : (i : ℕ) → i < length sigs → i < length (passed_params m n sigs)
  within_params i within = omega (arith, numbered_length passed_by 1 sigs)

  param_at : (i : ℕ) (sig : TypeSig) → i < length sigs → sig ≡ get_or sigs i sig → passed_at m n (i + 1) sig ≡ get_or (passed_params m n sigs) i (passed_at m n (i + 1) sig)
  param_at i sig within is =
      sym (numbered_at passed_by 1 sigs i sig (passed_at m n (i + 1) sig) within is ∙ ap (λ (k : ℕ). passed_at m n k sig) (omega arith))

  pub sig_fails : (i : ℕ) (sig : TypeSig) (all : List A) (bad : StubBad)
      → i < length sigs → sig ≡ get_or sigs i sig → each_from f 0 (take i (passed_params m n sigs)) ≡ Ok all
      → IsStep {A = A} (Arg i) (Err bad) (f i (passed_at m n (i + 1) sig)) → IsReturned {A = List A} (Err bad) (each_from f 0 (passed_params m n sigs))
  sig_fails i sig all bad within is e h =
      step_fails f (passed_params m n sigs) i (passed_at m n (i + 1) sig) all bad (within_params i within) e
      (subst (λ (p : Passed). IsStep {A = A} (Arg i) (Err bad) (f i p)) (param_at i sig within is) h)

  pub sig_taken : (i : ℕ) (sig : TypeSig) (all : List A) (a : A)
      → i < length sigs → sig ≡ get_or sigs i sig → each_from f 0 (take i (passed_params m n sigs)) ≡ Ok all
      → f i (passed_at m n (i + 1) sig) ≡ Ok a → each_from f 0 (take (i + 1) (passed_params m n sigs)) ≡ Ok (all ++ a ∷ [])
  sig_taken i sig all a within is e h =
      step_taken f (passed_params m n sigs) i (passed_at m n (i + 1) sig) all a (within_params i within) e
      (subst (λ (p : Passed). f i p ≡ Ok a) (param_at i sig within is) h)

  pub sigs_ended : (i : ℕ) (all : List A) → length sigs ≤ i → each_from f 0 (take i (passed_params m n sigs)) ≡ Ok all → each_from f 0 (passed_params m n sigs) ≡ Ok all
  sigs_ended i all past e =
      ap (each_from f 0) (sym (take_all i (passed_params m n sigs) (omega (arith, past, numbered_length passed_by 1 sigs)))) ∙ e
