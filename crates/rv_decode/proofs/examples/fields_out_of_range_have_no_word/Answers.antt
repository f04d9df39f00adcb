use Rattle.rv_decode.proofs.Worked.{fields_out_of_range}
use Rattle.rv_decode.proofs.examples.fields_out_of_range_have_no_word.Goals as goal

pub returns : goal.returns
returns c = fields_out_of_range
