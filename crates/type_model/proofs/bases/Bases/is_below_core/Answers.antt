use Rattle.std.proofs.Common.{◌∙◌}
use Rattle.type_model.proofs.Told.{told}
use Rattle.type_model.proofs.bases.Bases.is_below_core.Goals as goal

pub returns-then-id-lt-FIRST_CORE : goal.returns-then-id-lt-FIRST_CORE
returns-then-id-lt-FIRST_CORE c =
    c.is_told.ensures ∙ told c.args.self.now c.args.place c.args.below.now c.args.id c.requires c.if-id-eq0.true c.if-id-lt-FIRST_CORE.true
