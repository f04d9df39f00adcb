use Rattle.std.proofs.Common.{◌≡◌, true, false, refl, sym, ◌∙◌, rules}
use Rattle.body_reader.specs.Code.{is_start, is_marked}
use Rattle.body_reader.proofs.Marks.{marked_start}
use Rattle.body_reader.proofs.Whole.{instruction_there}
use Rattle.body_reader.proofs.body.instr.Goals as goal

pub returns-then-not-is_start-clause-instruction : goal.returns-then-not-is_start-clause-instruction
returns-then-not-is_start-clause-instruction c =
    let mark : is_marked c.body.inside.starts c.args.at ≡ false = rw c.as_slice.ensures at (sym c.is_start.ensures ∙ c.if-not-is_start.true) in
    let other : is_start c.body.inside.code c.args.at ≡ false = sym (marked_start c.body.inside.code c.body.inside.starts c.args.at c.body.invariant.0.marked) ∙ mark in
    rw (← c.body.view_is) (rw other refl)

pub returns-then-not-is_start-clause-start : goal.returns-then-not-is_start-clause-start
returns-then-not-is_start-clause-start c =
    let mark : is_marked c.body.inside.starts c.args.at ≡ false = rw c.as_slice.ensures at (sym c.is_start.ensures ∙ c.if-not-is_start.true) in
    let other : is_start c.body.inside.code c.args.at ≡ false = sym (marked_start c.body.inside.code c.body.inside.starts c.args.at c.body.invariant.0.marked) ∙ mark in
    rw (← c.body.view_is) (rw other (search rules))

pub returns-clause-instruction : goal.returns-clause-instruction
returns-clause-instruction c =
    let mark : is_marked c.body.inside.starts c.args.at ≡ true = rw c.as_slice.ensures at (sym c.is_start.ensures ∙ c.if-not-is_start.false) in
    let start : is_start c.body.inside.code c.args.at ≡ true = sym (marked_start c.body.inside.code c.body.inside.starts c.args.at c.body.invariant.0.marked) ∙ mark in
    rw (c.instruction_at.ensures, c.as_slice-2.ensures, ← c.body.view_is) (rw start refl)

pub returns-clause-start : goal.returns-clause-start
returns-clause-start c =
    let mark : is_marked c.body.inside.starts c.args.at ≡ true = rw c.as_slice.ensures at (sym c.is_start.ensures ∙ c.if-not-is_start.false) in
    let start : is_start c.body.inside.code c.args.at ≡ true = sym (marked_start c.body.inside.code c.body.inside.starts c.args.at c.body.invariant.0.marked) ∙ mark in
    let there = instruction_there c.body.inside.code c.body.inside.starts c.args.at 0 c.body.invariant.0.marked c.body.invariant.0.targets start in
    rw (c.instruction_at.ensures, c.as_slice-2.ensures, ← c.body.view_is) (rw (start, there.1) (search rules))
