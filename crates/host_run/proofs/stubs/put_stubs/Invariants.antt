-- the lines of the rows so far are put
use Rattle.std.proofs.Common.{◌≡◌}
use Rattle.bound_base.specs.Outside.{appended}
use Rattle.host_run.specs.Stubs.{row_lines}
use Rattle.host_run.proofs.ImportRows.{first_texts}
use Rattle.host_run.proofs.stubs.put_stubs.Given as goal

abbrev pub invariant-loop-n : goal.invariant-loop-n
invariant-loop-n g l = record {
  lines : g.O.Sink.contents l.out ≡ appended (g.O.Sink.contents l.initial.out) (first_texts (row_lines l.known) l.known l.n);
  count : g.O.Sink.faults l.out ≡ g.O.Sink.faults l.initial.out;
}
