use Rattle.std.proofs.Common.{◌≡◌, ◌+◌, ◌^◌, ◌<◌, length}
use Rattle.body_reader.specs.Clauses.{sections_from}
use Rattle.body_reader.proofs.SectionSteps.{joined}
use Rattle.body_reader.proofs.sections.read_sections.Given as goal

abbrev pub invariant-loop-most : goal.invariant-loop-most
invariant-loop-most l = record {
  read : sections_from (length l.b) l.b l.starts l.fn.at ≡ joined l.clauses (sections_from l.most l.b l.starts l.at);
  place : l.at < 2 ^ 63 + 2 ^ 25;
}

abbrev pub decreases-loop-most : goal.decreases-loop-most
decreases-loop-most l = l.most
