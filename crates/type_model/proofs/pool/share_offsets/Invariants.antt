use Rattle.std.proofs.Common.{◌≤◌, length, take}
use Rattle.type_model.specs.Pool.{IsShared, Knows}
use Rattle.type_model.proofs.pool.share_offsets.Given as goal

abbrev pub invariant-loop-row : goal.invariant-loop-row
invariant-loop-row l = record {
  knows : Knows l.known.items l.offsets;
  few : length l.offsets ≤ l.row-index;
  shared : IsShared (take l.row-index l.rows) l.column l.places l.offsets;
}
