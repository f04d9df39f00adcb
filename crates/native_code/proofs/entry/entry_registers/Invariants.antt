use Rattle.std.proofs.Common.{◌≡◌, drop}
use Rattle.native_code.specs.Entry.{with_words, bare_registers}
use Rattle.native_code.proofs.entry.entry_registers.Given as goal

abbrev pub invariant-loop-k : goal.invariant-loop-k
invariant-loop-k l = with_words l.k l.x (drop l.k l.words) ≡ with_words 0 (bare_registers l.fn.sp) l.fn.words
