use Rattle.std.proofs.Common.{◌≡◌, ℕ, List, Some, get_or, sym, ap, ◌∙◌, inl, inr, arith}
use Rattle.byte_view.specs.Metadata.{Metadata, row_place}
use Rattle.meta_tables.proofs.Whole.{no_place, place_there}
use Rattle.meta_tables.proofs.meta.Meta.row_place.Goals as goal
use Rattle.meta_tables.proofs.meta.Meta.row_place.Goals.{then-n-lt1-via-then-n-lt1, then-n-lt1-via-else-n-lt1+then-rows_at-n}

pub returns-then-n-lt1 : goal.returns-then-n-lt1
returns-then-n-lt1 c =
    let len = c.self.invariant.rows in
    elim c.then-n-lt1.branch [
      | then-n-lt1-via-then-n-lt1 w ↦
          (sym (no_place c.self.inside.heaps c.self.inside.stream.now c.self.inside.layout c.args.table c.args.n len (inl w.if-n-lt1.true))
          ∙ ap (λ (m : Metadata). row_place m c.args.table c.args.n) c.self.view_is)
      | then-n-lt1-via-else-n-lt1+then-rows_at-n w ↦
          (let count : w.rows_at.result ≡ get_or c.self.inside.layout.rows.items c.args.table 0 = w.rows_at.ensures ∙ ap (λ (rs : List ℕ). get_or rs c.args.table 0) w.as_slice.ensures.value in
          sym (no_place c.self.inside.heaps c.self.inside.stream.now c.self.inside.layout c.args.table c.args.n len (inr (omega (arith, count, w.if-rows_at-n.true))))
          ∙ ap (λ (m : Metadata). row_place m c.args.table c.args.n) c.self.view_is)
    ]

pub returns : goal.returns
returns c =
    let count : c.rows_at.result ≡ get_or c.self.inside.layout.rows.items c.args.table 0 = c.rows_at.ensures ∙ ap (λ (rs : List ℕ). get_or rs c.args.table 0) c.as_slice.ensures.value in
    let there = place_there c.self.inside.heaps c.self.inside.stream.now c.self.inside.layout c.args.table c.args.n c.self.invariant.rows (omega arith) (omega (arith, count)) in
    ap Some c.row_start.ensures.place ∙ sym there ∙ ap (λ (m : Metadata). row_place m c.args.table c.args.n) c.self.view_is
