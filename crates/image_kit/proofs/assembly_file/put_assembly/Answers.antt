use Rattle.std.proofs.Common.{arith}
use Rattle.image_kit.proofs.PlanPieces.{few_at}
use Rattle.image_kit.proofs.assembly_file.put_assembly.Goals as goal

pub put_metadata-requires-clause-methods : goal.put_metadata-requires-clause-methods
put_metadata-requires-clause-methods c = few_at c.args.p.now.tables 6 c.requires.few (omega arith)
