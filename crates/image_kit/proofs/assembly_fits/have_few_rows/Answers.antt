use Rattle.std.proofs.Common.{◌≡◌, length, sym, ap, ◌∙◌, arith}
use Rattle.std.proofs.lemmas.Bool.{le-leb, lt-leb}
use Rattle.image_kit.specs.AssemblyFile.{rows_among}
use Rattle.image_kit.specs.AssemblyReads.{has_few_rows}
use Rattle.image_kit.proofs.PieceLists.{all_below_none, all_below_more, all_below_fails}
use Rattle.image_kit.proofs.assembly_fits.have_few_rows.Goals as goal

pub loop-table-init : goal.loop-table-init
loop-table-init c = all_below_none (has_few_rows c.args.p.now.tables)

pub returns-then-rows_of-gt-FILE_LIMIT : goal.returns-then-rows_of-gt-FILE_LIMIT
returns-then-rows_of-gt-FILE_LIMIT c =
    let same : length c.rows_of.result.now ≡ length (rows_among c.args.p.now.tables c.loop-table.table) = ap length c.rows_of.ensures ∙ ap (λ ts. length (rows_among ts c.loop-table.table)) c.as_slice.ensures in
    sym (all_below_fails (has_few_rows c.args.p.now.tables) 45 c.loop-table.table c.loop-table-test.true (lt-leb (length (rows_among c.args.p.now.tables c.loop-table.table)) 67108864 (omega arith)))

pub loop-table-preserved : goal.loop-table-preserved
loop-table-preserved c =
    let same : length c.rows_of.result.now ≡ length (rows_among c.args.p.now.tables c.loop-table.table) = ap length c.rows_of.ensures ∙ ap (λ ts. length (rows_among ts c.loop-table.table)) c.as_slice.ensures in
    all_below_more (has_few_rows c.args.p.now.tables) c.loop-table.table c.loop-table.invariant (le-leb (length (rows_among c.args.p.now.tables c.loop-table.table)) 67108864 (omega arith))
