use Rattle.std.proofs.Common.{sym, ◌∙◌, ap, arith}
use Rattle.std.specs.Prelude.{option_and_then}
use Rattle.byte_view.specs.Heaps.{text_at}
use Rattle.elf_reader.proofs.Texts.{text_there, no_text}
use Rattle.elf_reader.proofs.names.name_at.Goals as goal

pub returns-then-end-range : goal.returns-then-end-range
returns-then-end-range c =
    let range = c.in_ok-range.range in
    sym (ap (option_and_then (λ rest. text_at rest 0)) (sym c.in_ok-range.ensures.bytes) ∙ text_there c.args.bytes.now range.start range.end c.first_from-end.result c.first_from-end.ensures c.if-end-range.true c.in_ok-range.ensures.within)

pub returns-else-end-range : goal.returns-else-end-range
returns-else-end-range c =
    let range = c.in_ok-range.range in
    sym (ap (option_and_then (λ rest. text_at rest 0)) (sym c.in_ok-range.ensures.bytes) ∙ no_text c.args.bytes.now range.start range.end c.first_from-end.result c.first_from-end.ensures (omega (arith, c.in_ok-range.ensures.some)) c.in_ok-range.ensures.within c.if-end-range.false)
