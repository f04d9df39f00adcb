use Rattle.native_layout.proofs.Ascending.{fields_ascend}
use Rattle.native_layout.proofs.laws.fields_ascend.Goals as goal

pub returns : goal.returns
returns c = fields_ascend
