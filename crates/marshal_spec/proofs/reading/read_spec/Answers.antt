use Rattle.std.proofs.Common.{List, ℕ, Result, Ok, Err, IfOk, IfErr}
use Rattle.byte_view.specs.Reading.{Reads}
use Rattle.marshal_spec.specs.declared.spec.Spec.{Spec}
use Rattle.marshal_spec.specs.declared.spec.SpecBad.{SpecBad}
use Rattle.marshal_spec.specs.Grammar.{Spells, IsRefusedAt}
use Rattle.marshal_spec.specs.Places.{place, refusal}
use Rattle.marshal_spec.specs.Reading.{spec_read}
use Rattle.marshal_spec.proofs.Grammar.{read_is_spelled, refused_is_refused}
use Rattle.marshal_spec.proofs.reading.read_spec.Goals as goal

value : (bytes : List ℕ) (r : Result Spec SpecBad) → Reads refusal (λ spec. spec) r (spec_read bytes) → IfOk r (λ spec. Spells bytes spec)
value bytes (Ok spec) e = read_is_spelled bytes spec e
value bytes (Err bad) e = tt

refused : (bytes : List ℕ) (r : Result Spec SpecBad) → Reads refusal (λ spec. spec) r (spec_read bytes) → IfErr r (λ bad. IsRefusedAt bytes (place bad))
refused bytes (Ok spec) e = tt
refused bytes (Err bad) e = refused_is_refused bytes (place bad) e

pub returns-clause-value : goal.returns-clause-value
returns-clause-value c = value _ _ c.spec_in.ensures

pub returns-clause-refused : goal.returns-clause-refused
returns-clause-refused c = refused _ _ c.spec_in.ensures
