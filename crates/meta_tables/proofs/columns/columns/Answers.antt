use Rattle.std.proofs.Common.{sym, arith}
use Rattle.meta_tables.proofs.Tables.{no_columns}
use Rattle.meta_tables.proofs.columns.columns.Goals as goal

pub returns-in-45-to-255 : goal.returns-in-45-to-255
returns-in-45-to-255 c = sym (no_columns c.args.table (omega arith))
