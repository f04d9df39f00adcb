-- What each step keeps is kept by all of them.
use Rattle.std.proofs.Common.{◌≡◌, List, [], ◌∷◌, Result, Ok, subst}
use Rattle.byte_view.specs.Reading.{steps}
use Rattle.byte_view.proofs.Reading.{bind_then, same_read}
use Rattle.elf_binder.proofs.InFile.{Each}

pub kept : {S A R : Type 0} (I : S → Type 0) (Q : A → Type 0) (step : S → A → Result S R) → ((s : S) (x : A) (new : S) → Q x → I s → step s x ≡ Ok new → I new)
    → (first : S) (all : List A) (last : S) → Each Q all → I first → steps step first all ≡ Ok last → I last
unfolding steps
kept I Q step keeps first [] last each here e = subst I (same_read first last e) here
kept I Q step keeps first (x ∷ xs) last each here e =
    bind_then (step first x) (λ next. steps step next xs) last e (λ next is more. kept I Q step keeps next xs last each.1 (keeps first x next each.0 here is) more)
