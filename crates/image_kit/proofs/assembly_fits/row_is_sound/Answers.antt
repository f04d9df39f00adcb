use Rattle.std.proofs.Common.{◌≡◌, length, map, slice_get, sym, ap, ◌∙◌, arith}
use Rattle.std.specs.Prelude.{slice_index}
use Rattle.meta_tables.specs.declared.columns.Width.TheVariants as widths
use Rattle.meta_tables.specs.declared.columns.Column.TheVariants as cols
use Rattle.meta_tables.specs.View.{view_column}
use Rattle.meta_tables.specs.Cells.{sizes_of, sound_in}
use Rattle.std.proofs.lemmas.List.{length-map}
use Rattle.image_kit.specs.AssemblyReads.{all_below}
use Rattle.image_kit.proofs.PieceLists.{all_below_none, all_below_more, all_below_fails}
use Rattle.image_kit.proofs.PlanPieces.{sound_test}
use Rattle.image_kit.proofs.assembly_fits.row_is_sound.Goals as goal

pub loop-column-init : goal.loop-column-init
loop-column-init c = all_below_none (λ column. sound_in (sizes_of c.args.heaps.now c.args.counts.now) (slice_get (map view_column c.args.columns.now) column) (slice_index c.args.before.now column) (slice_index c.args.row.now column))

pub returns-then-not-is_sound : goal.returns-then-not-is_sound
returns-then-not-is_sound c =
    let test = sound_test (sizes_of c.args.heaps.now c.args.counts.now) c.args.columns.now c.args.before.now c.args.row.now c.loop-column.column (cols.Number widths.None) c.is_sound.result c.loop-column-test.true c.is_sound.ensures in
    let count = length-map c.args.columns.now view_column in
    sym (ap (λ n. all_below (λ column. sound_in (sizes_of c.args.heaps.now c.args.counts.now) (slice_get (map view_column c.args.columns.now) column) (slice_index c.args.before.now column) (slice_index c.args.row.now column)) n) count
    ∙ all_below_fails (λ column. sound_in (sizes_of c.args.heaps.now c.args.counts.now) (slice_get (map view_column c.args.columns.now) column) (slice_index c.args.before.now column) (slice_index c.args.row.now column)) (length c.args.columns.now) c.loop-column.column c.loop-column-test.true (test ∙ c.if-not-is_sound.true))

pub loop-column-preserved : goal.loop-column-preserved
loop-column-preserved c =
    let test = sound_test (sizes_of c.args.heaps.now c.args.counts.now) c.args.columns.now c.args.before.now c.args.row.now c.loop-column.column (cols.Number widths.None) c.is_sound.result c.loop-column-test.true c.is_sound.ensures in
    all_below_more (λ column. sound_in (sizes_of c.args.heaps.now c.args.counts.now) (slice_get (map view_column c.args.columns.now) column) (slice_index c.args.before.now column) (slice_index c.args.row.now column)) c.loop-column.column c.loop-column.invariant (test ∙ c.if-not-is_sound.false)

pub returns : goal.returns
returns c =
    let count = length-map c.args.columns.now view_column in
    let done : c.loop-column.column ≡ length (map view_column c.args.columns.now) = omega (arith, count) in
    sym (rw done at c.loop-column.invariant)
