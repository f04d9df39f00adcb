use Rattle.std.proofs.Common.{subst}
use Rattle.flat_types.specs.Answers.{TypeAnswers}
use Rattle.flat_types.proofs.OutlinesFound.{outline_found, outline_missed}
use Rattle.flat_types.proofs.flat.FlatTypes.outline.Goals as goal

pub returns-in-Some-clause-value : goal.returns-in-Some-clause-value
returns-in-Some-clause-value c =
    outline_found c.args.types.now c.args.t c.in-Some.f (subst (TypeAnswers c.args.types.now 63 c.args.t) c.in-Some.is c.in_ok-f.ensures.value)

pub returns-in-None-clause-value : goal.returns-in-None-clause-value
returns-in-None-clause-value c =
    outline_missed c.args.types.now c.args.t (subst (TypeAnswers c.args.types.now 63 c.args.t) c.in-None.is c.in_ok-f.ensures.value)
