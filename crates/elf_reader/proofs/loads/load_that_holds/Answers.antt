use Rattle.std.proofs.Common.{◌≤◌, length, sym, ◌∙◌, arith}
use Rattle.std.proofs.lemmas.Bool.{ltb-false}
use Rattle.elf_reader.proofs.Bisected.{ends_rise, holds_from, holds_to, found, refused}
use Rattle.elf_reader.proofs.loads.load_that_holds.Goals as goal

pub count_ending_by-before-requires : goal.count_ending_by-before-requires
count_ending_by-before-requires c = ends_rise c.args.size c.args.loads.now c.requires.sound

pub returns-in_err-load-clause-first : goal.returns-in_err-load-clause-first
returns-in_err-load-clause-first c =
    let past : length c.args.loads.now ≤ c.count_ending_by-before.result = ltb-false _ _ (sym c.in_err-load.ensures.lookup.0) in
    rw c.from_residual.ensures (sym (refused c.args.addr c.args.len c.args.size c.args.loads.now c.count_ending_by-before.result c.requires.sound c.requires.some c.count_ending_by-before.ensures (λ d h. absurd (omega arith))))

pub returns-then-holds-clause-first : goal.returns-then-holds-clause-first
returns-then-holds-clause-first c =
    let load = c.in_ok-load.field-0.now in
    let here = c.in_ok-load.ensures.lookup.1 in
    let within = c.in_ok-load.ensures.lookup.3.0 in
    let holds = rw here at (sym c.holds.ensures ∙ c.if-holds.true) in
    rw here (sym (found c.args.addr c.args.len c.args.size c.args.loads.now c.count_ending_by-before.result load c.requires.some c.count_ending_by-before.ensures within holds))

pub returns-then-holds-clause-from : goal.returns-then-holds-clause-from
returns-then-holds-clause-from c = holds_from c.args.addr c.args.len c.in_ok-load.field-0.now (sym c.holds.ensures ∙ c.if-holds.true)

pub returns-then-holds-clause-to : goal.returns-then-holds-clause-to
returns-then-holds-clause-to c = holds_to c.args.addr c.args.len c.in_ok-load.field-0.now (sym c.holds.ensures ∙ c.if-holds.true)

pub returns-else-holds-clause-first : goal.returns-else-holds-clause-first
returns-else-holds-clause-first c =
    let missing = sym c.holds.ensures ∙ c.if-holds.false in
    sym (refused c.args.addr c.args.len c.args.size c.args.loads.now c.count_ending_by-before.result c.requires.sound c.requires.some c.count_ending_by-before.ensures (λ d h. rw (← c.in_ok-load.ensures.lookup.3.1 d) missing))
