-- the texts so far are put
use Rattle.std.proofs.Common.{◌≡◌, take}
use Rattle.bound_base.specs.Outside.{appended}
use Rattle.host_run.specs.Settled.{joined}
use Rattle.host_run.proofs.closing.put_texts.Given as goal

abbrev pub invariant-loop-text : goal.invariant-loop-text
invariant-loop-text g l = record {
  put : g.E.Sink.contents l.err ≡ appended (g.E.Sink.contents l.initial.err) (joined (take l.text-index l.texts));
  count : g.E.Sink.faults l.err ≡ g.E.Sink.faults l.initial.err;
}
