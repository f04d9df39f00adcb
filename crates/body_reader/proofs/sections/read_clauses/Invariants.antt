use Rattle.std.proofs.Common.{◌≡◌, ◌+◌, ◌*◌, Ok}
use Rattle.byte_view.specs.Reading.{listed}
use Rattle.body_reader.specs.Clauses.{clause_at, clause_size}
use Rattle.body_reader.proofs.sections.read_clauses.Given as goal

abbrev pub invariant-loop-k : goal.invariant-loop-k
invariant-loop-k l = listed (λ k. clause_at l.section.is_fat l.b l.starts (l.at + 4 + clause_size l.section.is_fat * k)) l.k ≡ Ok l.clauses
