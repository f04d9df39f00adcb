use Rattle.std.proofs.Common.{◌≡◌, ◌+◌, ◌*◌, ◌++◌, ◌∷◌, [], map, rules}
use Rattle.std.proofs.lemmas.List.{map_push}
use Rattle.std.proofs.lemmas.Result.{err_from_is_err_and}
use Rattle.bound_base.specs.Image.{refusal}
use Rattle.byte_view.specs.Headers as definition
use Rattle.byte_view.specs.Reading.{listed}
use Rattle.byte_view.proofs.Reading.{listed_more}
use Rattle.byte_view.proofs.Refusals.{listed_refused}
use Rattle.pe_reader.specs.Pe.{section_of}
use Rattle.pe_reader.proofs.sections.section_headers.Goals as goal

pub loop-k-init : goal.loop-k-init
unfolding listed
loop-k-init c = search rules

pub returns-in_err-section-clause-sections : goal.returns-in_err-section-clause-sections
returns-in_err-section-clause-sections c =
    let p = err_from_is_err_and c.from_residual.result c.from_residual.ensures.1 in
    rw (p.1, p.2) (listed_refused refusal c.in_err-section.field-0.0 (λ k. definition.section_at c.args.bytes.now (c.args.at + 40 * k)) c.loop-k.k c.args.count (map section_of c.loop-k.sections) c.loop-k.invariant c.loop-k-test.true c.in_err-section.ensures.section)

pub loop-k-preserved : goal.loop-k-preserved
loop-k-preserved c =
    let e : map section_of c.push.new.self ≡ map section_of c.loop-k.sections ++ section_of c.in_ok-section.section ∷ [] = rw c.in_ok-push.ensures.ok (map_push section_of c.loop-k.sections c.in_ok-section.section) in
    rw e (listed_more (λ k. definition.section_at c.args.bytes.now (c.args.at + 40 * k)) c.loop-k.k (map section_of c.loop-k.sections) (section_of c.in_ok-section.section) c.loop-k.invariant c.in_ok-section.ensures.section)
