use Rattle.std.proofs.Common.{◌∙◌}
use Rattle.std.proofs.lemmas.Bool.Decides.{Decides-eqb}
use Rattle.std.proofs.lemmas.Option.{MatchOption-at_none, MatchOption-at_some}
use Rattle.std.proofs.lemmas.Slice.Eq.{strip_prefix_is, strip_suffix_is}
use Rattle.elf_binder.proofs.Spelling.{no_front, no_back, between}
use Rattle.elf_binder.proofs.library_names.is_spelled.Goals as goal

pub returns-in_default : goal.returns-in_default
returns-in_default c =
    no_front c.args.text.now c.args.front.now c.args.name.now c.args.back.now
    (MatchOption-at_none _ _ c.in_default.is (strip_prefix_is Decides-eqb c.args.text.now c.args.front.now _ c.strip_prefix.ensures.cases))

pub returns-in_default-strip_suffix : goal.returns-in_default-strip_suffix
returns-in_default-strip_suffix c =
    no_back c.args.text.now c.args.front.now c.args.name.now c.args.back.now c.in-Some.rest.now
    (MatchOption-at_some _ _ c.in-Some.rest c.in-Some.is (strip_prefix_is Decides-eqb c.args.text.now c.args.front.now _ c.strip_prefix.ensures.cases))
    (MatchOption-at_none _ _ c.in_default-strip_suffix.is (strip_suffix_is Decides-eqb c.in-Some.rest.now c.args.back.now _ c.strip_suffix.ensures.cases))

pub returns : goal.returns
returns c =
    c.eq.ensures
    ∙ between c.args.text.now c.args.front.now c.args.name.now c.args.back.now c.in-Some.rest.now
    (MatchOption-at_some _ _ c.in-Some.rest c.in-Some.is (strip_prefix_is Decides-eqb c.args.text.now c.args.front.now _ c.strip_prefix.ensures.cases))
    c.in-Some-strip_suffix.middle.now
    (MatchOption-at_some _ _ c.in-Some-strip_suffix.middle c.in-Some-strip_suffix.is (strip_suffix_is Decides-eqb c.in-Some.rest.now c.args.back.now _ c.strip_suffix.ensures.cases))
