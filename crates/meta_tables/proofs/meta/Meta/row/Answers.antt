use Rattle.std.proofs.Common.{◌≡◌, ℕ, List, Some, get_or, sym, ap, ◌∙◌, arith}
use Rattle.byte_view.specs.Metadata.{Metadata, row_of}
use Rattle.meta_tables.proofs.Whole.{row_zero, row_past, row_there}
use Rattle.meta_tables.proofs.meta.Meta.row.Goals as goal

pub returns-then-n-eq0 : goal.returns-then-n-eq0
returns-then-n-eq0 c = sym (row_zero c.args.self.now c.args.table c.args.n c.if-n-eq0.true)

pub returns-then-n-rows_at : goal.returns-then-n-rows_at
returns-then-n-rows_at c =
    let count : c.rows_at.result ≡ get_or c.self.inside.layout.rows.items c.args.table 0 = c.rows_at.ensures ∙ ap (λ (rs : List ℕ). get_or rs c.args.table 0) c.as_slice.ensures.value in
    let past = row_past c.self.inside.heaps c.self.inside.stream.now c.self.inside.layout c.args.table c.args.n c.self.invariant.rows (omega (arith, count)) in
    sym past ∙ ap (λ (m : Metadata). row_of m c.args.table c.args.n) c.self.view_is

pub returns : goal.returns
returns c =
    let count : c.rows_at.result ≡ get_or c.self.inside.layout.rows.items c.args.table 0 = c.rows_at.ensures ∙ ap (λ (rs : List ℕ). get_or rs c.args.table 0) c.as_slice.ensures.value in
    let there = row_there c.self.inside.heaps c.self.inside.stream.now c.self.inside.layout c.args.table c.args.n c.self.invariant.rows (omega arith) (omega (arith, count)) in
    ap Some c.row_in.ensures ∙ sym there ∙ ap (λ (m : Metadata). row_of m c.args.table c.args.n) c.self.view_is
