use Rattle.std.proofs.Common.{length, ◌≤◌}
use Rattle.outside_kit.proofs.file_store.read_from.Given as goal

abbrev pub invariant-reads : goal.invariant-reads
invariant-reads g l = l.filled ≤ length l.into
