use Rattle.std.proofs.Common.{refl}
use Rattle.body_reader.specs.declared.opcodes.TheConstants.{ONE_BYTE}
use Rattle.body_reader.specs.Opcodes.{one_byte, form_among}
use Rattle.body_reader.proofs.Rows.{table_agrees}
use Rattle.body_reader.proofs.decoding.one_byte_form.Goals as goal

pub returns : goal.returns
returns c =
    rw c.form_in.ensures (table_agrees ONE_BYTE one_byte 225 c.args.byte (unfold one_byte form_among in refl) (unfold one_byte in refl))
