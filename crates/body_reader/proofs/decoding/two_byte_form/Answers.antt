use Rattle.std.proofs.Common.{refl}
use Rattle.body_reader.specs.declared.opcodes.TheConstants.{TWO_BYTES}
use Rattle.body_reader.specs.Opcodes.{two_bytes, form_among}
use Rattle.body_reader.proofs.Rows.{table_agrees}
use Rattle.body_reader.proofs.decoding.two_byte_form.Goals as goal

pub returns : goal.returns
returns c =
    rw c.form_in.ensures (table_agrees TWO_BYTES two_bytes 31 c.args.byte (unfold two_bytes form_among in refl) (unfold two_bytes in refl))
