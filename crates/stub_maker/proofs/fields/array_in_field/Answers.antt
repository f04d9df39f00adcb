use Rattle.std.proofs.Common.{rules, ◌∙◌}
use Rattle.std.proofs.lemmas.Bool.{le-leb}
use Rattle.stub_maker.proofs.InField.{inline_there, inline_when}
use Rattle.stub_maker.proofs.fields.array_in_field.Goals as goal

pub returns-then-count-ge1-clause-form : goal.returns-then-count-ge1-clause-form
returns-then-count-ge1-clause-form g c =
    let h =
    c.inline_array.ensures.form
    ∙ inline_when (g.K.KnownTypes.known c.args.known.now) c.args.unicode c.args.base c.args.element c.in-Is-ByValArray.count c.in-Is-ByValArray.code
    (le-leb 1 c.in-Is-ByValArray.count c.if-count-ge1.true) in
    search rules

pub returns-then-count-ge1-clause-row : goal.returns-then-count-ge1-clause-row
returns-then-count-ge1-clause-row g c =
    let h =
    c.inline_array.ensures.row
    ∙ inline_there (g.K.KnownTypes.known c.args.known.now) c.args.unicode c.args.base c.args.element c.in-Is-ByValArray.count c.in-Is-ByValArray.code
    (le-leb 1 c.in-Is-ByValArray.count c.if-count-ge1.true) in
    search rules
