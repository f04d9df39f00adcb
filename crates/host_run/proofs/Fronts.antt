-- What was read of a file so far.
use Rattle.std.proofs.Common.{◌≡◌, sym, ap, ◌∙◌, ℕ, ◌+◌, ◌≤◌, List, ◌++◌, take, length, Option, Some, None, Ok, length-append}
use Rattle.std.proofs.lemmas.List.{length-take-le}
use Rattle.std.proofs.Math.Seq.{take-add}
use Rattle.bound_base.specs.Outside.{IsReadOf}
use Rattle.host_run.specs.Files.{IsFront}

-- a piece read behind a front makes a longer front
pub front-more : (told : Option (Option (List ℕ))) (file into more : List ℕ) (n : ℕ) → n ≤ length into → IsFront told file
    → IsReadOf told (length file) into (Ok n) → more ≡ file ++ take n into → IsFront told more
front-more None file into more n le f r e = tt
front-more (Some None) file into more n le f r e = absurd r
front-more (Some (Some c)) file into more n le f r e =
    let len : length more ≡ length file + n = ap length e ∙ length-append file (take n into) ∙ ap (λ k. length file + k) (length-take-le n into le) in
    e ∙ ap (λ x. x ++ take n into) f ∙ ap (λ y. take (length file) c ++ y) r.0 ∙ sym (take-add (length file) n c) ∙ ap (λ k. take k c) (sym len)
