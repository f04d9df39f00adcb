-- Bytes with zeros up to a multiple of four.
use Rattle.std.proofs.Common.{◌≡◌, ℕ, ◌+◌, List, length, ap, ◌∙◌}
use Rattle.std.proofs.lemmas.List.{length-append, length-replicate}
use Rattle.image_kit.specs.AssemblyFile.{zeros, padding, padded, padded_size}

pub length-padded : (bytes : List ℕ) → length (padded bytes) ≡ padded_size bytes
length-padded bytes = length-append bytes (zeros (padding 4 (length bytes))) ∙ ap (λ n. length bytes + n) (length-replicate (padding 4 (length bytes)) 0)
