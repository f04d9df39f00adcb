use Rattle.std.proofs.Common.{◌≡◌, [], length, map, sym, ◌∙◌, arith}
use Rattle.std.specs.Prelude.{slice_index_or}
use Rattle.meta_tables.specs.View.{view_column}
use Rattle.meta_tables.specs.Cells.{sizes_of}
use Rattle.image_kit.specs.AssemblyReads.{row_before, is_sound_row}
use Rattle.image_kit.proofs.PieceLists.{all_below_none, all_below_more, all_below_fails}
use Rattle.image_kit.proofs.PlanPieces.{rows_test}
use Rattle.image_kit.proofs.assembly_fits.rows_are_sound.Goals as goal

pub loop-at-init : goal.loop-at-init
loop-at-init c = all_below_none (λ row. is_sound_row (sizes_of c.args.heaps.now c.args.counts.now) (map view_column c.args.columns.now) (row_before c.args.rows.now row) (slice_index_or c.args.rows.now row []))

pub returns-then-not-row_is_sound : goal.returns-then-not-row_is_sound
returns-then-not-row_is_sound c =
    let test = rows_test (sizes_of c.args.heaps.now c.args.counts.now) (map view_column c.args.columns.now) c.args.rows.now c.loop-at.at c.row_before-before.result c.row_of-row.result c.row_is_sound.result c.row_is_sound.ensures c.row_before-before.ensures c.row_of-row.ensures in
    sym (all_below_fails (λ row. is_sound_row (sizes_of c.args.heaps.now c.args.counts.now) (map view_column c.args.columns.now) (row_before c.args.rows.now row) (slice_index_or c.args.rows.now row [])) (length c.args.rows.now) c.loop-at.at c.loop-at-test.true (test ∙ c.if-not-row_is_sound.true))

pub loop-at-preserved : goal.loop-at-preserved
loop-at-preserved c =
    let test = rows_test (sizes_of c.args.heaps.now c.args.counts.now) (map view_column c.args.columns.now) c.args.rows.now c.loop-at.at c.row_before-before.result c.row_of-row.result c.row_is_sound.result c.row_is_sound.ensures c.row_before-before.ensures c.row_of-row.ensures in
    all_below_more (λ row. is_sound_row (sizes_of c.args.heaps.now c.args.counts.now) (map view_column c.args.columns.now) (row_before c.args.rows.now row) (slice_index_or c.args.rows.now row [])) c.loop-at.at c.loop-at.invariant (test ∙ c.if-not-row_is_sound.false)

pub returns : goal.returns
returns c =
    let done : c.loop-at.at ≡ length c.args.rows.now = omega arith in
    sym (rw done at c.loop-at.invariant)
