-- The limits of a run of plhost.
use Rattle.bound_base.specs.declared.limits.Limits.{Limits}

abbrev pub standard : Limits
standard = record {
  native = 268435456;
  managed = 268435456;
  stack = 1048576;
  frames = 10000;
  depth = 64;
  blocks = 4096;
  thunks = 2048;
}
