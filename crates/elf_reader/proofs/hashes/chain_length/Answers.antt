use Rattle.std.proofs.Common.{◌≡◌, ◌*◌, ◌%◌, sym, arith}
use Rattle.byte_view.specs.Numbers.{le}
use Rattle.elf_reader.proofs.Words.{odd_first, none_odd}
use Rattle.elf_reader.proofs.hashes.chain_length.Goals as goal

pub returns-then-number32-eq-CHAIN_END-clause-length : goal.returns-then-number32-eq-CHAIN_END-clause-length
returns-then-number32-eq-CHAIN_END-clause-length c =
    let odd : le c.args.chain.now (4 * c.loop-k.k) 4 % 2 ≡ 1 = rw c.number32.ensures at c.if-number32-eq-CHAIN_END.true in
    sym (odd_first c.args.chain.now c.loop-k.k c.loop-k-test.true odd c.loop-k.invariant)

pub returns-clause-length : goal.returns-clause-length
returns-clause-length c = sym (none_odd c.args.chain.now (λ j h. c.loop-k.invariant j (omega arith)))
