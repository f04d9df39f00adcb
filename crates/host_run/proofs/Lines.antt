-- Loops over the words of a line: what is left at each word, and what the rest then says.
use Rattle.std.proofs.Common.{◌≡◌, ℕ, suc, min, ◌+◌, ◌<◌, ◌≤◌, true, false, List, [], ◌∷◌, ◌++◌, length, take, drop, get_or, Option, Some, None, String, string_bytes, sym, ◌∙◌, ap, refl, arith, append_assoc}
use Rattle.std.proofs.Math.Seq.{drop-cons}
use Rattle.std.proofs.lemmas.List.{length-map, get_or-map}
use Rattle.std.proofs.lemmas.List.Sums.{position_or_len_is, sum_by-drop_more}
use Rattle.std.proofs.lemmas.Bool.{cond-true, cond-false}
use Rattle.std.specs.Prelude.{if◌then◌else◌, sum_by, option_map, option_and_then}
use Rattle.std.specs.List.{after_first, position_or_len, take-map, drop-map}
use Rattle.std.specs.declared.alloc.Global.{Global}
use Rattle.host_run.specs.Grammar.{texts, with_word, no_words, said_by, said_whole, word_value, values, is_end, fits_program, run}
use Rattle.host_run.specs.declared.options.Options.{Options}

-- the word at i, and those after it
pub texts_left : (words : List (String Global)) (i : ℕ) (word : String Global) → i < length words → word ≡ get_or words i word → drop i (texts words) ≡ string_bytes word ∷ drop (i + 1) (texts words)
texts_left words i word within is =
    let same : length (texts words) ≡ length words = length-map words string_bytes in
    let head : get_or (texts words) i (string_bytes word) ≡ string_bytes word =
    get_or-map string_bytes words i word (string_bytes word) within ∙ ap string_bytes (sym is) in
    let next : suc i ≡ i + 1 = omega arith in
    drop-cons (texts words) i (string_bytes word) (omega arith)
    ∙ ap (λ (h : List ℕ). h ∷ drop (suc i) (texts words)) head
    ∙ ap (λ n. string_bytes word ∷ drop n (texts words)) next

pub text_at : (words : List (String Global)) (i : ℕ) (word : String Global) → i < length words → word ≡ get_or words i word → get_or (texts words) i [] ≡ string_bytes word
text_at words i word within is = get_or-map string_bytes words i word [] within ∙ ap string_bytes (sym is)

pub bytes_left : (words : List (String Global)) (i : ℕ) (word : String Global) → i < length words → word ≡ get_or words i word → sum_by length (drop i (texts words)) ≡ length (string_bytes word) + sum_by length (drop (i + 1) (texts words))
bytes_left words i word within is =
    let many : length (texts words) ≡ length words = length-map words string_bytes in
    sum_by-drop_more length (texts words) i [] (omega arith)
    ∙ ap (λ (t : List ℕ). length t + sum_by length (drop (i + 1) (texts words))) (text_at words i word within is)

-- ---- what the words of `run` say

pub said_more : (whole : Option Options) (said next : Options) (left after : List (List ℕ)) (word : List ℕ) → said_by said left ≡ whole → left ≡ word ∷ after → Some next ≡ with_word said word → said_by next after ≡ whole
said_more whole said next left after word so_far at stands =
    ap (λ o. option_and_then (λ (n : Options). said_by n after) o) stands ∙ sym (ap (said_by said) at) ∙ so_far

pub said_stops : (whole : Option Options) (said : Options) (left after : List (List ℕ)) (word : List ℕ) → said_by said left ≡ whole → left ≡ word ∷ after → None ≡ with_word said word → None ≡ whole
said_stops whole said left after word so_far at stops =
    ap (λ o. option_and_then (λ (n : Options). said_by n after) o) stops ∙ sym (ap (said_by said) at) ∙ so_far

-- ---- the numbers of `native`

append_values : (front : List ℕ) (value : ℕ) (others : Option (List ℕ)) → option_map (λ rest. (front ++ value ∷ []) ++ rest) others ≡ option_map (λ rest. front ++ rest) (option_map (λ rest. value ∷ rest) others)
append_values front value None = refl
append_values front value (Some rest) = ap Some (append_assoc front (value ∷ []) rest)

pub values_more : (whole : Option (List ℕ)) (front : List ℕ) (value : ℕ) (left after : List (List ℕ)) (word : List ℕ) → option_map (λ rest. front ++ rest) (values left) ≡ whole → left ≡ word ∷ after → Some value ≡ word_value word → option_map (λ rest. (front ++ value ∷ []) ++ rest) (values after) ≡ whole
values_more whole front value left after word so_far at is =
    append_values front value (values after)
    ∙ ap (λ o. option_map (λ (rest : List ℕ). front ++ rest) (option_and_then (λ v. option_map (λ (rest : List ℕ). v ∷ rest) (values after)) o)) is
    ∙ sym (ap (λ ws. option_map (λ (rest : List ℕ). front ++ rest) (values ws)) at) ∙ so_far

pub values_stop : (whole : Option (List ℕ)) (front : List ℕ) (left after : List (List ℕ)) (word : List ℕ) → option_map (λ rest. front ++ rest) (values left) ≡ whole → left ≡ word ∷ after → None ≡ word_value word → None ≡ whole
values_stop whole front left after word so_far at stops =
    ap (λ o. option_map (λ (rest : List ℕ). front ++ rest) (option_and_then (λ v. option_map (λ (rest : List ℕ). v ∷ rest) (values after)) o)) stops
    ∙ sym (ap (λ ws. option_map (λ (rest : List ℕ). front ++ rest) (values ws)) at) ∙ so_far

-- ---- the first `--`

pub end_at : (words : List (String Global)) (i : ℕ) → i ≤ length words → ((k : ℕ) → k < i → is_end (get_or (texts words) k []) ≡ false) → (i < length words → is_end (get_or (texts words) i []) ≡ true) → i ≡ position_or_len is_end (texts words)
end_at words i within before here =
    let many : length (texts words) ≡ length words = length-map words string_bytes in
    sym (position_or_len_is is_end (texts words) i [] (omega arith) before (λ short. here (omega arith)))

pub whole_line : (words : List (String Global)) (i : ℕ) → i ≡ length words → ((k : ℕ) → k < i → is_end (get_or (texts words) k []) ≡ false) → length words ≡ position_or_len is_end (texts words)
whole_line words i whole before =
    sym whole ∙ end_at words i (omega arith) before (λ short. absurd (omega arith))

-- ---- `run`, by its words before the first `--` and those after it

pub run_is : (words : List (String Global)) (end : ℕ) → end ≡ position_or_len is_end (texts words) → run (texts words) ≡ if fits_program (texts (drop (end + 1) words)) then option_and_then (said_whole (1 + min (end + 1) (length words))) (said_by no_words (texts (take end words))) else None
unfolding run
run_is words end at =
    let own : take end (texts words) ≡ texts (take end words) = take-map string_bytes end words in
    let program : drop (end + 1) (texts words) ≡ texts (drop (end + 1) words) = drop-map string_bytes (end + 1) words in
    let many : length (texts words) ≡ length words = length-map words string_bytes in
    rw (← at, own, program, many)

pub run_unfit : (words : List (String Global)) (end : ℕ) (program : List (String Global)) → end ≡ position_or_len is_end (texts words) → program ≡ drop (end + 1) words → fits_program (texts program) ≡ false → None ≡ run (texts words)
run_unfit words end program at is unfit =
    sym (run_is words end at ∙ cond-false _ _ _ (ap (λ (p : List (String Global)). fits_program (texts p)) (sym is) ∙ unfit))

pub run_said : (words : List (String Global)) (end before : ℕ) (program : List (String Global)) (said : Option Options) → end ≡ position_or_len is_end (texts words) → program ≡ drop (end + 1) words → fits_program (texts program) ≡ true → before ≡ 1 + min (end + 1) (length words) → said ≡ said_by no_words (texts (take end words)) → option_and_then (said_whole before) said ≡ run (texts words)
run_said words end before program said at is fit counted says =
    ap (λ n. option_and_then (said_whole n) said) counted
    ∙ ap (option_and_then (said_whole (1 + min (end + 1) (length words)))) says
    ∙ sym (run_is words end at ∙ cond-true _ _ _ (ap (λ (p : List (String Global)). fits_program (texts p)) (sym is) ∙ fit))

-- the program's words fit
pub program_fits : (words : List (String Global)) (end : ℕ) (program : List (String Global)) → end ≡ position_or_len is_end (texts words) → program ≡ drop (end + 1) words → fits_program (texts program) ≡ true → fits_program (after_first is_end (texts words)) ≡ true
program_fits words end program at is fit =
    ap (λ n. fits_program (drop (n + 1) (texts words))) (sym at)
    ∙ ap fits_program (drop-map string_bytes (end + 1) words)
    ∙ ap (λ (p : List (String Global)). fits_program (texts p)) (sym is) ∙ fit
