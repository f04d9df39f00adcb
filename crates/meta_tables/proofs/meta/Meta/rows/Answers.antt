use Rattle.std.proofs.Common.{ℕ, List, get_or, sym, ap, ◌∙◌}
use Rattle.byte_view.specs.Metadata.{Metadata}
use Rattle.byte_view.specs.Cells.{rows_in}
use Rattle.meta_tables.proofs.Checks.{rows_in_is}
use Rattle.meta_tables.proofs.meta.Meta.rows.Goals as goal

pub returns : goal.returns
returns c =
    c.rows_at.ensures ∙ ap (λ (rs : List ℕ). get_or rs c.args.table 0) c.as_slice.ensures.value
    ∙ sym (rows_in_is c.self.inside.heaps c.self.inside.stream.now c.self.inside.layout c.args.table c.self.invariant.rows)
    ∙ ap (λ (m : Metadata). rows_in m c.args.table) c.self.view_is
