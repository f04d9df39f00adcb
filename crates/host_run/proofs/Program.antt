-- The words after the first `--` are the program's alone.
use Rattle.std.proofs.Common.{◌≡◌, ℕ, suc, ◌+◌, true, not, List, [], ◌∷◌, ◌++◌, length, take, drop, None, sym, ◌∙◌, ap, refl, arith, min, codes, length-append}
use Rattle.std.proofs.Math.Seq.{take-append_seam, drop-append-add}
use Rattle.std.proofs.lemmas.Bool.{cond-true, and_parts}
use Rattle.std.specs.Prelude.{option_and_then, if◌then◌else◌}
use Rattle.std.specs.List.{list_all, position_or_len}
use Rattle.host_run.specs.Grammar.{is_end, fits_program, no_words, said_by, said_whole, run}
use Rattle.host_run.specs.GrammarLaws.{ProgramWordsAreFree}

end_stands : (own rest : List (List ℕ)) → list_all (λ word. not (is_end word)) own ≡ true → position_or_len is_end (own ++ codes "--" ∷ rest) ≡ length own
end_stands [] rest none = refl
end_stands (word ∷ own) rest none =
    let p = and_parts (not (is_end word)) (list_all (λ (w : List ℕ). not (is_end w)) own) none in
    let later = end_stands own rest p.1 in
    let more : 1 + length own ≡ suc (length own) = omega arith in
    cond-true _ _ _ p.0 ∙ ap (λ n. 1 + n) later ∙ more

pub run_split : (own rest : List (List ℕ)) → list_all (λ word. not (is_end word)) own ≡ true → run (own ++ codes "--" ∷ rest) ≡ if fits_program rest then option_and_then (said_whole (1 + (length own + 1))) (said_by no_words own) else None
unfolding run
run_split own rest none =
    let at = end_stands own rest none in
    let front : take (length own) (own ++ codes "--" ∷ rest) ≡ own = take-append_seam own (codes "--" ∷ rest) in
    let program : drop (length own + 1) (own ++ codes "--" ∷ rest) ≡ rest = drop-append-add own (codes "--" ∷ rest) 1 in
    let counted : min (length own + 1) (length (own ++ codes "--" ∷ rest)) ≡ length own + 1 =
    omega (arith, length-append own (codes "--" ∷ rest))
    in
    rw (at, front, program, counted)

pub program_words_are_free : ProgramWordsAreFree
program_words_are_free own first second none fits fits_too =
    let one = run_split own first none ∙ cond-true _ _ _ fits in
    let other = run_split own second none ∙ cond-true _ _ _ fits_too in
    one ∙ sym other
