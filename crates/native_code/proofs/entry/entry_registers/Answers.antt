use Rattle.std.proofs.Common.{◌≡◌, ◌∙◌, ℕ, List, [], drop, sym, ap}
use Rattle.std.proofs.lemmas.List.{drop_all}
use Rattle.rv_machine.specs.declared.registers.Regs.{Regs}
use Rattle.native_code.specs.Entry.{with_words, bare_registers, entry_registers}
use Rattle.native_code.proofs.entry.entry_registers.Goals as goal

pub returns : goal.returns
unfolding entry_registers
returns c =
    let none : drop c.loop-k.k c.args.words.now ≡ [] = drop_all c.loop-k.k c.args.words.now c.loop-k-test.false in
    let last : with_words c.loop-k.k c.loop-k.x [] ≡ with_words 0 (bare_registers c.args.sp) c.args.words.now =
    ap (λ (rest : List ℕ). with_words c.loop-k.k c.loop-k.x rest) (sym none) ∙ c.loop-k.invariant in
    ap (λ (x : List ℕ). let r : Regs = record { pc = c.args.at; x = x } in r) last
