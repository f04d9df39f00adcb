-- The signatures of rows, by the offsets of blobs that they share.
use Rattle.std.proofs.Common.{◌≡◌, ℕ, ◌≤◌, List, map, length, take, get_or, Option, ap, ◌∙◌}
use Rattle.std.proofs.lemmas.List.{take_all}
use Rattle.sig_reader.specs.declared.signature.TypeSig.{TypeSig}
use Rattle.sig_reader.specs.declared.signature.Sig.{Sig}
use Rattle.sig_reader.specs.Reading.{type_spec_sig, field_sig, method_sig}
use Rattle.type_model.specs.Module.{Module, rows, blob}
use Rattle.type_model.specs.Rows.{type_specs, fields, method_defs}
use Rattle.type_model.specs.TypeIds.{spec_sig_in}
use Rattle.type_model.specs.Types.{field_sig_in}
use Rattle.type_model.specs.Members.{sig_in}
use Rattle.type_model.specs.Pool.{pooled, IsShared}
use Rattle.type_model.proofs.Pooling.{values_shared}

-- when no offset is left, all have their values
pub all_read : {A : Type 0} (f : ℕ → Option A) (values : List (Option A)) (items offsets : List ℕ) (k : ℕ) → values ≡ map f (take k items) → length items ≤ k
    → items ≡ offsets → values ≡ map f offsets
all_read f values items offsets k are none same =
    are ∙ ap (map f) (take_all k items none ∙ same)

module _ (m : Module) (places offsets : List ℕ) where
  pub specs_shared : (values : List (Option TypeSig)) (named : List (List ℕ)) → named ≡ rows m type_specs → IsShared named 0 places offsets
      → values ≡ map (λ (at : ℕ). type_spec_sig (blob m at)) offsets → pooled places values ≡ map (spec_sig_in m) (rows m type_specs)
  specs_shared values named same shared are =
      ap (pooled places) are
      ∙ values_shared (λ (at : ℕ). type_spec_sig (blob m at)) (λ (numbers : List ℕ). get_or numbers 0 0) offsets places named shared
      ∙ ap (map (spec_sig_in m)) same

  pub fields_shared : (values : List (Option TypeSig)) (named : List (List ℕ)) → named ≡ rows m fields → IsShared named 2 places offsets
      → values ≡ map (λ (at : ℕ). field_sig (blob m at)) offsets → pooled places values ≡ map (field_sig_in m) (rows m fields)
  fields_shared values named same shared are =
      ap (pooled places) are
      ∙ values_shared (λ (at : ℕ). field_sig (blob m at)) (λ (numbers : List ℕ). get_or numbers 2 0) offsets places named shared
      ∙ ap (map (field_sig_in m)) same

  pub methods_shared : (values : List (Option Sig)) (named : List (List ℕ)) → named ≡ rows m method_defs → IsShared named 4 places offsets
      → values ≡ map (λ (at : ℕ). method_sig (blob m at)) offsets → pooled places values ≡ map (sig_in m) (rows m method_defs)
  methods_shared values named same shared are =
      ap (pooled places) are
      ∙ values_shared (λ (at : ℕ). method_sig (blob m at)) (λ (numbers : List ℕ). get_or numbers 4 0) offsets places named shared
      ∙ ap (map (sig_in m)) same
