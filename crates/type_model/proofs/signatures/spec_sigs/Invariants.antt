use Rattle.std.proofs.Common.{◌≡◌, ℕ, map, take}
use Rattle.sig_reader.specs.Reading.{type_spec_sig}
use Rattle.type_model.specs.Module.{blob}
use Rattle.type_model.proofs.signatures.spec_sigs.Given as goal

abbrev pub invariant-loop-at : goal.invariant-loop-at
invariant-loop-at l = l.values ≡ map (λ (at : ℕ). type_spec_sig (blob l.image at)) (take l.at-index l.at-items)
