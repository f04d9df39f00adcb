-- a front of the contents is read, and it isn't too large yet
use Rattle.std.proofs.Common.{◌≡◌, ◌≤◌, ◌-◌, length, vec_len}
use Rattle.bound_base.specs.Outside.{contents_under}
use Rattle.bound_base.specs.Names.{IsBytes}
use Rattle.host_run.specs.Files.{IsFront, file_limit}
use Rattle.host_run.proofs.files.read_file.Given as goal

abbrev pub invariant-loop-file : goal.invariant-loop-file
invariant-loop-file g l = record {
  kept : g.S.Store.held l.store ≡ g.S.Store.held l.initial.store;
  front : IsFront (contents_under (g.S.Store.held l.initial.store) l.name) l.file;
  count : g.S.Store.faults l.store ≡ g.S.Store.faults l.initial.store;
  small : length l.file ≤ file_limit;
  bytes : IsBytes l.file;
  room : vec_len l.piece ≡ 65536;
}

abbrev pub decreases-loop-file : goal.decreases-loop-file
decreases-loop-file g l = 67108865 - length l.file
