-- Following needs from more gives more.
use Rattle.stub_maker.specs.Facts.{TypeFacts}
use Rattle.stub_maker.proofs.Findings.{Rises}
use Rattle.stub_maker.proofs.Monotone.{callable_kept, follow_structs}

pub rises : (facts : TypeFacts) → Rises facts
rises facts a b within = record {
  structs = λ t s is. follow_structs a b within.structs within.callable facts t s is;
  callable = λ t is. callable_kept a b within.structs within.callable (facts.invoke_of t) is;
}
