-- what is written so far are the lines of the numbers so far
use Rattle.std.proofs.Common.{◌≡◌, ◌++◌, take}
use Rattle.stub_maker.specs.Printed.{number_lines}
use Rattle.stub_maker.proofs.printing.push_numbers.Given as goal

abbrev pub invariant-loop-number : goal.invariant-loop-number
invariant-loop-number l = l.text ≡ l.initial.text ++ number_lines l.word (take l.number-index l.numbers)
