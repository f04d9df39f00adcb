use Rattle.std.proofs.Common.{◌≡◌, ◌-◌}
use Rattle.sig_reader.specs.Reading.{many, signed_in}
use Rattle.sig_reader.proofs.Lists.{behind}
use Rattle.sig_reader.proofs.types.lows.Given as goal

abbrev pub invariant-loop : goal.invariant-loop
invariant-loop l = behind l.all (many signed_in (l.count - l.counter) l.rest) ≡ many signed_in l.count l.b
