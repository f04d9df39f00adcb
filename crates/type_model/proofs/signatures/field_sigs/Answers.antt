use Rattle.std.proofs.Common.{◌∙◌, ℕ}
use Rattle.sig_reader.specs.Reading.{field_sig}
use Rattle.type_model.specs.Module.{blob}
use Rattle.type_model.proofs.SharedSigs.{all_read, fields_shared}
use Rattle.type_model.proofs.signatures.field_sigs.Goals as goal

pub returns : goal.returns
returns c =
    c.of.ensures
    ∙ fields_shared c.args.image.now c.in_ok-shared.shared.places c.in_ok-shared.shared.offsets c.loop-at.values c.rows.result.now
    c.rows.ensures.rows c.in_ok-shared.ensures
    (all_read (λ (at : ℕ). field_sig (blob c.args.image.now at)) c.loop-at.values c.as_slice-at-items.result.now c.in_ok-shared.shared.offsets c.loop-at.at-index
    c.loop-at.invariant c.loop-at-test.false c.as_slice-at-items.ensures)
