use Rattle.std.proofs.Common.{◌≡◌, ◌-◌}
use Rattle.sig_reader.specs.Numbers.{any_number}
use Rattle.sig_reader.specs.Reading.{many, unsigned_in}
use Rattle.sig_reader.proofs.Lists.{behind}
use Rattle.sig_reader.proofs.types.sizes.Given as goal

abbrev pub invariant-loop : goal.invariant-loop
invariant-loop l = behind l.all (many (unsigned_in any_number) (l.count - l.counter) l.rest) ≡ many (unsigned_in any_number) l.count l.b
