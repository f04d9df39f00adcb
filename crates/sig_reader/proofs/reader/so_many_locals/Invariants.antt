use Rattle.std.proofs.Common.{◌≡◌, ◌-◌}
use Rattle.sig_reader.specs.Reading.{many, local_in}
use Rattle.sig_reader.proofs.Lists.{behind}
use Rattle.sig_reader.proofs.reader.so_many_locals.Given as goal

abbrev pub invariant-loop : goal.invariant-loop
invariant-loop l = behind l.all (many local_in (l.count - l.counter) l.rest) ≡ many local_in l.count l.b
