-- Numbers in sixteen digits.
use Rattle.std.proofs.Common.{◌≡◌, sym, ap, ◌∙◌, subst, ℕ, ◌-◌, ◌^◌, false, List, [], ◌∷◌, ◌++◌, length, Option, Some, append_assoc, arith}
use Rattle.std.specs.Prelude.{IfSome, replicate}
use Rattle.std.specs.Fmt.{digits, padded_integral, format_spec, char_count, ◌++?◌}
use Rattle.host_run.specs.Texts.{line, sixteen_digits}
use Rattle.host_run.proofs.Puts.{append-nil}

-- what `{:016x}` writes of a number
abbrev pub in_sixteen : ℕ → List ℕ
in_sixteen n = padded_integral (format_spec 32 0 4 16 (2 ^ 64 - 1)) false [] (digits 16 false n)

written-digits : (ds : List ℕ) → padded_integral (format_spec 32 0 4 16 (2 ^ 64 - 1)) false [] ds ≡ replicate (16 - length ds) 48 ++ ds
unfolding padded_integral char_count
written-digits ds =
    let same : 16 - length ds - 0 - 0 ≡ 16 - length ds = omega arith in
    ap (λ (k : ℕ). replicate k 48 ++ (ds ++ [])) same ∙ ap (λ (x : List ℕ). replicate (16 - length ds) 48 ++ x) (append-nil ds)

-- a number between the front of a line and its end
pub digits-line : (front text : List ℕ) (n : ℕ) (written : Option (List ℕ)) → written ≡ Some (in_sixteen n) → IfSome (Some front ++? written ++? Some (10 ∷ [])) (λ bs. text ≡ bs)
    → text ≡ line (front ++ sixteen_digits n)
unfolding sixteen_digits
digits-line front text n written e is =
    let P : Option (List ℕ) → Type 0 = λ o. IfSome (Some front ++? o ++? Some (10 ∷ [])) (λ bs. text ≡ bs) in
    let whole : text ≡ front ++ (in_sixteen n ++ 10 ∷ []) = subst P e is in
    whole ∙ sym (append_assoc front (in_sixteen n) (10 ∷ [])) ∙ ap (λ x. (front ++ x) ++ 10 ∷ []) (written-digits (digits 16 false n))
