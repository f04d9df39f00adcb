use Rattle.std.proofs.Common.{refl}
use Rattle.std.proofs.lemmas.Result.{err_from_is_err_and}
use Rattle.byte_view.specs.Streams.{streams_after}
use Rattle.meta_tables.specs.View.{view_streams, view_stream}
use Rattle.meta_tables.proofs.Headers.{streams_next, streams_refused, with_stream_within}
use Rattle.meta_tables.proofs.streams.streams_of.Goals as goal

pub loop-init : goal.loop-init
unfolding streams_after
loop-init c = record { read = refl; within = record { tables = tt; strings = tt; user_strings = tt; guids = tt; blobs = tt } }

pub returns-in_err-stream-clause-reads : goal.returns-in_err-stream-clause-reads
returns-in_err-stream-clause-reads c =
    let p = err_from_is_err_and c.from_residual.result c.from_residual.ensures.1 in
    rw (p.1, p.2) (streams_refused c.in_err-stream.field-0.0 c.args.image.now c.args.at c.args.first c.loop.counter c.args.count (view_streams c.loop.all) c.loop.place c.loop.invariant.read c.loop-test.true c.in_err-stream.ensures.reads)

pub loop-preserved : goal.loop-preserved
loop-preserved c = record {
  read = rw c.added-all.ensures
      (streams_next c.args.image.now c.args.at c.args.first c.loop.counter (view_streams c.loop.all) c.loop.place (view_stream c.in_ok-stream.stream) c.loop.invariant.read c.in_ok-stream.ensures.reads);
  within = rw c.added-all.ensures (with_stream_within c.args.image.now (view_streams c.loop.all) (view_stream c.in_ok-stream.stream) c.loop.invariant.within c.in_ok-stream.ensures.within);
}
