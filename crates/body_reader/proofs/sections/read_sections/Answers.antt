use Rattle.std.proofs.Common.{◌≡◌, ◌-◌, ◌++◌, Ok, ap, sym, ◌∙◌, rules}
use Rattle.std.proofs.lemmas.Result.{err_from_is_err_and}
use Rattle.body_reader.specs.Refusals.{refusal}
use Rattle.body_reader.specs.View.{section_of}
use Rattle.body_reader.proofs.SectionSteps.{header_refused, clauses_refused, section_last, section_more, sections_over, one_before}
use Rattle.body_reader.proofs.sections.read_sections.Goals as goal

pub returns-in_err-section : goal.returns-in_err-section
returns-in_err-section c =
    let p = err_from_is_err_and c.from_residual.result c.from_residual.ensures.1 in
    rw (p.1, p.2, c.loop-most.invariant.read) (header_refused (refusal c.in_err-section.field-0.0) (c.loop-most.most - 1) c.loop-most.most c.args.b.now c.args.starts.now c.loop-most.at c.loop-most.clauses (one_before c.loop-most.most c.loop-most-test.true) c.in_err-section.ensures.section)

pub returns-in_err-more : goal.returns-in_err-more
returns-in_err-more c =
    let p = err_from_is_err_and c.from_residual-in_err-more.result c.from_residual-in_err-more.ensures.1 in
    rw (p.1, p.2, c.loop-most.invariant.read) (clauses_refused (refusal c.in_err-more.field-0.0) (c.loop-most.most - 1) c.loop-most.most c.args.b.now c.args.starts.now c.loop-most.at c.loop-most.clauses (section_of c.in_ok-section.section) (one_before c.loop-most.most c.loop-most-test.true) c.in_ok-section.ensures.section c.in_err-more.ensures)

pub returns-then-section : goal.returns-then-section
returns-then-section c =
    let extended : c.extend_from_slice.new.self ≡ c.loop-most.clauses ++ c.in_ok-more.more = rw c.as_slice.ensures at c.in_ok-extend_from_slice.ensures.ok in
    c.loop-most.invariant.read
    ∙ section_last (c.loop-most.most - 1) c.loop-most.most c.args.b.now c.args.starts.now c.loop-most.at c.loop-most.clauses c.in_ok-more.more (section_of c.in_ok-section.section) (one_before c.loop-most.most c.loop-most-test.true) c.in_ok-section.ensures.section c.in_ok-more.ensures c.if-section.true
    ∙ ap Ok (sym extended)

pub loop-most-preserved : goal.loop-most-preserved
loop-most-preserved c =
    let extended : c.extend_from_slice.new.self ≡ c.loop-most.clauses ++ c.in_ok-more.more = rw c.as_slice.ensures at c.in_ok-extend_from_slice.ensures.ok in
    record {
      read = rw extended (c.loop-most.invariant.read
          ∙ section_more (c.loop-most.most - 1) c.loop-most.most c.args.b.now c.args.starts.now c.loop-most.at c.loop-most.clauses c.in_ok-more.more (section_of c.in_ok-section.section) (one_before c.loop-most.most c.loop-most-test.true) c.in_ok-section.ensures.section c.in_ok-more.ensures c.if-section.false);
      place = search rules;
    }

pub returns : goal.returns
returns c =
    rw (c.bad.ensures, c.loop-most.invariant.read) (sections_over c.loop-most.most c.args.b.now c.args.starts.now c.loop-most.at c.loop-most.clauses c.loop-most-test.false)
