use Rattle.std.proofs.Common.{◌≡◌, ◌||◌, not, true, false}
use Rattle.byte_view.specs.Columns.{is_table}
use Rattle.byte_view.specs.Layout.{is_present}
use Rattle.byte_view.proofs.Reading.{each_fails}
use Rattle.meta_tables.specs.Shapes.{tests_valid}
use Rattle.byte_view.proofs.Reading.{must_fail, must_pass, each_none, each_more}
use Rattle.meta_tables.proofs.layout.check_valid.Goals as goal

pub loop-table-init : goal.loop-table-init
loop-table-init c = each_none (tests_valid c.args.valid c.args.at)

pub returns-then-not-is_valid-clause-reads : goal.returns-then-not-is_valid-clause-reads
returns-then-not-is_valid-clause-reads c =
    let e : (is_table c.loop-table.table || not (is_present c.args.valid c.loop-table.table)) ≡ false = cc in
    rw c.bad.ensures (each_fails (tests_valid c.args.valid c.args.at) c.loop-table.table 64 0 (11, c.args.at) c.loop-table.invariant (must_fail _ (11, c.args.at) e) c.loop-table-test.true)

pub loop-table-preserved : goal.loop-table-preserved
loop-table-preserved c =
    let e : (is_table c.loop-table.table || not (is_present c.args.valid c.loop-table.table)) ≡ true = cc in
    each_more (tests_valid c.args.valid c.args.at) c.loop-table.table 0 0 c.loop-table.invariant (must_pass _ (11, c.args.at) e)
