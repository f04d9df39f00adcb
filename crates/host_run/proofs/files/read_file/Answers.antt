use Rattle.std.proofs.Common.{rules, ◌≡◌, ◌<◌, drop, length, arith}
use Rattle.std.proofs.lemmas.List.{take_at}
use Rattle.std.proofs.lemmas.List.Elements.{All-append}
use Rattle.host_run.proofs.Fronts.{front-more}
use Rattle.host_run.proofs.files.read_file.Goals as goal

pub loop-file-preserved : goal.loop-file-preserved
loop-file-preserved g c = record {
  kept = search rules;
  front = front-more _ c.loop-file.file c.read.new.into _ c.in_ok-n.n (omega (arith, c.in_ok-n.ensures.within)) c.loop-file.invariant.front (rw (c.loop-file.invariant.kept, c.len.ensures) at c.in_ok-n.ensures.answer) (let whole : length c.read.new.into ≡ c.loop-file.piece.len = omega arith in
      rw (take_at c.read.new.into (drop (length c.read.new.into) c.loop-file.piece.items) c.loop-file.piece.len whole) at (rw c.deref.ensures.value at c.in_ok-append.ensures.ok));
  count = omega (arith, c.in_ok-n.ensures.uncounted);
  small = omega arith;
  bytes = rw c.in_ok-append.ensures.ok (All-append (λ byte. byte < 256) c.loop-file.file _ c.loop-file.invariant.bytes c.in_ok-append.ensures.of_bytes);
  room = search rules;
}
