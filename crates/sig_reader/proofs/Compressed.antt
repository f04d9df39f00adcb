-- The compressed numbers of the grammar are those of blobs' lengths.
use Rattle.std.proofs.Common.{◌≡◌, ℕ, ◌≤◌, false, List, [], ◌∷◌, length, Some, refl, ap, arith}
use Rattle.std.specs.Prelude.{nat_lt}
use Rattle.std.proofs.lemmas.Bool.Decides.{nat_tests}
use Rattle.byte_view.specs.Numbers.{compressed_at}
use Rattle.sig_reader.specs.Numbers.{IsCompressed}

at_least : (a : ℕ) → nat_lt a 0x80 ≡ false → 0x80 ≤ a
at_least a h = grind (arith, nat_tests)

at_least_four : (a : ℕ) → nat_lt a 0xC0 ≡ false → 0xC0 ≤ a
at_least_four a h = grind (arith, nat_tests)

pub to_blob : (bytes : List ℕ) (x : ℕ × ℕ) → IsCompressed bytes x → (compressed_at bytes 0 ≡ Some x) × (length bytes ≡ x.1)
to_blob [] x s = absurd s
to_blob (a ∷ []) x s =
    rw (s.0, s.1) (ap (λ v. Some (v, 1)) (omega arith), refl)
to_blob (a ∷ b ∷ []) x s =
    let low = at_least a s.0 in
    rw (s.0, s.1, s.2) (ap (λ v. Some (v, 2)) (omega arith), refl)
to_blob (a ∷ b ∷ c ∷ []) x s = absurd s
to_blob (a ∷ b ∷ c ∷ d ∷ []) x s =
    let low = at_least_four a s.1 in
    rw (s.0, s.1, s.2, s.3) (ap (λ v. Some (v, 4)) (omega arith), refl)
to_blob (a ∷ b ∷ c ∷ d ∷ e ∷ bytes) x s = absurd s
