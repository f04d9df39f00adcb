use Rattle.std.proofs.Common.{◌≡◌, ℕ, map, take}
use Rattle.sig_reader.specs.Reading.{field_sig}
use Rattle.type_model.specs.Module.{blob}
use Rattle.type_model.proofs.signatures.field_sigs.Given as goal

abbrev pub invariant-loop-at : goal.invariant-loop-at
invariant-loop-at l = l.values ≡ map (λ (at : ℕ). field_sig (blob l.image at)) (take l.at-index l.at-items)
