use Rattle.std.proofs.Common.{◌≡◌, Ok}
use Rattle.byte_view.specs.Streams.{streams_after}
use Rattle.meta_tables.specs.View.{view_streams, AreWithin}
use Rattle.meta_tables.proofs.streams.streams_of.Given as goal

abbrev pub invariant-loop : goal.invariant-loop
invariant-loop l = record {
  read : streams_after l.image l.at l.first l.counter ≡ Ok (view_streams l.all, l.place);
  within : AreWithin l.image (view_streams l.all);
}
