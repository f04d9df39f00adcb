use Rattle.std.proofs.Common.{sym, arith, lit<}
use Rattle.std.proofs.lemmas.Str.Pattern.{starts_char}
use Rattle.std.proofs.lemmas.Bool.Decides.{not_from_Decides}
use Rattle.host_run.proofs.Numerals.{number_none, number_plus, number_read, number_above, number_unread}
use Rattle.host_run.proofs.numbers.number.Goals as goal

pub returns-then-digits-most-clause-value : goal.returns-then-digits-most-clause-value
returns-then-digits-most-clause-value c = sym (number_none _ _ _ _ (λ _ short _. absurd (omega arith)))

pub returns-then-starts_with-clause-value : goal.returns-then-starts_with-clause-value
returns-then-starts_with-clause-value c =
    sym (number_plus _ _ _ _ c.requires.greatest_base ((starts_char 43 _ _ c.starts_with.ensures.cases (lit< tt) (lit< tt)).0 c.if-starts_with.true))

pub returns-in-Ok-clause-value : goal.returns-in-Ok-clause-value
returns-in-Ok-clause-value c =
    let plain = not_from_Decides _ (starts_char 43 _ _ c.starts_with.ensures.cases (lit< tt) (lit< tt)) c.if-starts_with.false in
    sym (number_read _ _ _ _ plain _ _ c.from_str_radix.ensures.value c.in-Ok.is (omega arith) (omega arith))

pub returns-in_default-clause-value : goal.returns-in_default-clause-value
returns-in_default-clause-value c =
    let plain = not_from_Decides _ (starts_char 43 _ _ c.starts_with.ensures.cases (lit< tt) (lit< tt)) c.if-starts_with.false in
    sym (number_above _ _ _ _ plain _ _ c.from_str_radix.ensures.value c.in-Ok.is (omega arith))

pub returns-in_default-2-clause-value : goal.returns-in_default-2-clause-value
returns-in_default-2-clause-value c =
    let plain = not_from_Decides _ (starts_char 43 _ _ c.starts_with.ensures.cases (lit< tt) (lit< tt)) c.if-starts_with.false in
    sym (number_unread _ _ _ _ plain _ _ c.from_str_radix.ensures.value c.in_default.is (omega arith))
