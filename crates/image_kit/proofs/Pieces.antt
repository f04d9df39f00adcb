-- Tables of names and instructions, one element longer.
use Rattle.std.proofs.Common.{◌≡◌, ℕ, suc, ◌+◌, ◌-◌, ◌%◌, ◌^◌, ◌<◌, ◌≤◌, List, [], ◌∷◌, ◌++◌, length, get_or, take, replicate, sym, ap, ◌∙◌, append_assoc, arith}
use Rattle.std.specs.List.{flat_map, range_with_len}
use Rattle.std.proofs.lemmas.List.{append-nil, length-append, map-id, get_or_default, take_more}
use Rattle.std.proofs.lemmas.List.Folds.{length-flat_map-take}
use Rattle.std.proofs.lemmas.Grind.{flat_map-append}
use Rattle.std.proofs.lemmas.List.FromFn.{map-range_with_len_more}
use Rattle.rv_decode.specs.declared.instr.Instr.{Instr}
use Rattle.image_kit.specs.declared.library_plan.NamedPlace.{NamedPlace}
use Rattle.image_kit.specs.LibraryFile.{u32, symbol_entry, symbol_entries, symbol_table, text, string_table, word_of, code_bytes}

flat_map_one : {X : Type 0} (f : X → List ℕ) (xs : List X) (i : ℕ) (x : X) → i < length xs → x ≡ get_or xs i x → flat_map f (take (i + 1) xs) ≡ flat_map f (take i xs) ++ f x
flat_map_one f xs i x h e =
    ap (flat_map f) (take_more xs i x h) ∙ flat_map-append f (take i xs) (get_or xs i x ∷ []) ∙ ap (λ ys. flat_map f (take i xs) ++ ys) (append-nil (f (get_or xs i x))) ∙ ap (λ y. flat_map f (take i xs) ++ f y) (sym e)

pub code_more : (code : List Instr) (i : ℕ) (instr : Instr) → i < length code → instr ≡ get_or code i instr → code_bytes (take (i + 1) code) ≡ code_bytes (take i code) ++ u32 (word_of instr)
unfolding code_bytes
code_more code i instr h e = flat_map_one (λ instr. u32 (word_of instr)) code i instr h e

pub strings_more : (names : List NamedPlace) (i : ℕ) (place : NamedPlace) → i < length names → place ≡ get_or names i place → string_table (take (i + 1) names) ≡ string_table (take i names) ++ (place.name ++ 0 ∷ [])
unfolding string_table
strings_more names i place h e = ap (λ xs. 0 ∷ xs) (flat_map_one text names i place h e)

pub size_more : (names : List NamedPlace) (i : ℕ) (place : NamedPlace) → i < length names → place ≡ get_or names i place → length (string_table (take (i + 1) names)) ≡ length (string_table (take i names)) + (length place.name + 1)
size_more names i place h e =
    ap length (strings_more names i place h e) ∙ length-append (string_table (take i names)) (place.name ++ 0 ∷ []) ∙ ap (λ n. length (string_table (take i names)) + n) (length-append place.name (0 ∷ []))

-- the strings of the first names are no longer than all of them
pub size_within : (names : List NamedPlace) (i : ℕ) (place : NamedPlace) → i < length names → place ≡ get_or names i place → length (string_table (take i names)) + (length place.name + 1) ≤ length (string_table names)
unfolding string_table
size_within names i place h e =
    let all = length-flat_map-take text names i place h in
    let here : length (text (get_or names i place)) ≡ length place.name + 1 = ap (λ p. length (text p)) (sym e) ∙ length-append place.name (0 ∷ []) in
    omega arith

entries_more_from : (code at : ℕ) (names : List NamedPlace) (place : NamedPlace) → symbol_entries code at (names ++ place ∷ []) ≡ symbol_entries code at names ++ symbol_entry (at + length (flat_map text names)) ((code + place.offset) % 2 ^ 64)
unfolding symbol_entries
entries_more_from code at [] place =
    append-nil (symbol_entry at ((code + place.offset) % 2 ^ 64)) ∙ ap (λ n. symbol_entry n ((code + place.offset) % 2 ^ 64)) (let e : at ≡ at + 0 = omega arith in e)
entries_more_from code at (first ∷ names) place =
    let long : length (text first ++ flat_map text names) ≡ length first.name + 1 + length (flat_map text names) = length-append (text first) (flat_map text names) ∙ ap (λ n. n + length (flat_map text names)) (length-append first.name (0 ∷ [])) in
    let place_is : at + length first.name + 1 + length (flat_map text names) ≡ at + length (text first ++ flat_map text names) = omega arith in
    ap (λ xs. symbol_entry at ((code + first.offset) % 2 ^ 64) ++ xs) (entries_more_from code (at + length first.name + 1) names place ∙ ap (λ n. symbol_entries code (at + length first.name + 1) names ++ symbol_entry n ((code + place.offset) % 2 ^ 64)) place_is)
    ∙ sym (append_assoc (symbol_entry at ((code + first.offset) % 2 ^ 64)) (symbol_entries code (at + length first.name + 1) names) (symbol_entry (at + length (text first ++ flat_map text names)) ((code + place.offset) % 2 ^ 64)))

pub entries_more : (code : ℕ) (names : List NamedPlace) (i : ℕ) (place : NamedPlace) → i < length names → place ≡ get_or names i place → symbol_entries code 1 (take (i + 1) names) ≡ symbol_entries code 1 (take i names) ++ symbol_entry (length (string_table (take i names))) ((code + place.offset) % 2 ^ 64)
unfolding string_table
entries_more code names i place h e =
    ap (symbol_entries code 1) (take_more names i place h) ∙ ap (λ p. symbol_entries code 1 (take i names ++ p ∷ [])) (sym e) ∙ entries_more_from code 1 (take i names) place
    ∙ ap (λ n. symbol_entries code 1 (take i names) ++ symbol_entry n ((code + place.offset) % 2 ^ 64)) (let e : 1 + length (flat_map text (take i names)) ≡ suc (length (flat_map text (take i names))) = omega arith in e)

pub table_more : (code : ℕ) (names : List NamedPlace) (i : ℕ) (place : NamedPlace) → i < length names → place ≡ get_or names i place → symbol_table code (take (i + 1) names) ≡ symbol_table code (take i names) ++ symbol_entry (length (string_table (take i names))) ((code + place.offset) % 2 ^ 64)
unfolding symbol_table
table_more code names i place h e =
    ap (λ xs. replicate 24 0 ++ xs) (entries_more code names i place h e)
    ∙ sym (append_assoc (replicate 24 0) (symbol_entries code 1 (take i names)) (symbol_entry (length (string_table (take i names))) ((code + place.offset) % 2 ^ 64)))

abbrev pub chain_words : ℕ → List ℕ
chain_words n = flat_map (λ k. u32 (k - 1)) (range_with_len 0 n)

range_more : (n : ℕ) → range_with_len 0 (n + 1) ≡ range_with_len 0 n ++ n ∷ []
range_more n = sym (map-id (range_with_len 0 (n + 1))) ∙ map-range_with_len_more (λ k. k) 0 n n (omega arith) ∙ ap (λ xs. xs ++ n ∷ []) (map-id (range_with_len 0 n))

pub chain_more : (n : ℕ) → chain_words (n + 1) ≡ chain_words n ++ u32 (n - 1)
chain_more n =
    ap (flat_map (λ k. u32 (k - 1))) (range_more n) ∙ flat_map-append (λ k. u32 (k - 1)) (range_with_len 0 n) (n ∷ []) ∙ ap (λ xs. chain_words n ++ xs) (append-nil (u32 (n - 1)))

-- what was put behind some bytes, with one more piece
pub grown : (old xs ys piece before after : List ℕ) → before ≡ old ++ xs → after ≡ before ++ piece → ys ≡ xs ++ piece → after ≡ old ++ ys
grown old xs ys piece before after b a more = a ∙ ap (λ zs. zs ++ piece) b ∙ append_assoc old xs piece ∙ ap (λ zs. old ++ zs) (sym more)

-- the same behind a front that stays
pub grown_behind : (old front xs ys piece before after : List ℕ) → before ≡ old ++ (front ++ xs) → after ≡ before ++ piece → ys ≡ xs ++ piece → after ≡ old ++ (front ++ ys)
grown_behind old front xs ys piece before after b a more =
    grown old (front ++ xs) (front ++ ys) piece before after b a (ap (λ zs. front ++ zs) more ∙ sym (append_assoc front xs piece))

pub table_grown : (old before after : List ℕ) (code name : ℕ) (names : List NamedPlace) (i : ℕ) (place : NamedPlace) → i < length names → place ≡ get_or names i place → before ≡ old ++ symbol_table code (take i names) → name ≡ length (string_table (take i names)) → after ≡ before ++ symbol_entry name ((code + place.offset) % 2 ^ 64) → after ≡ old ++ symbol_table code (take (i + 1) names)
table_grown old before after code name names i place h e b n a =
    let value : ℕ = (code + place.offset) % 2 ^ 64 in
    grown old (symbol_table code (take i names)) (symbol_table code (take (i + 1) names)) (symbol_entry (length (string_table (take i names))) value) before after b
    (a ∙ ap (λ m. before ++ symbol_entry m value) n)
    (table_more code names i place h e)

pub code_grown : (old before after : List ℕ) (word : ℕ) (code : List Instr) (i : ℕ) (default : Instr) → i < length code → before ≡ old ++ code_bytes (take i code) → word ≡ word_of (get_or code i default) → after ≡ before ++ u32 word → after ≡ old ++ code_bytes (take (i + 1) code)
code_grown old before after word code i default h b w a =
    let instr : Instr = get_or code i default in
    grown old (code_bytes (take i code)) (code_bytes (take (i + 1) code)) (u32 (word_of instr)) before after b
    (a ∙ ap (λ n. before ++ u32 n) w)
    (code_more code i instr h (get_or_default code i default instr h))

pub strings_grown : (old before name_put after : List ℕ) (names : List NamedPlace) (i : ℕ) (place : NamedPlace) → i < length names → place ≡ get_or names i place → before ≡ old ++ string_table (take i names) → name_put ≡ before ++ place.name → after ≡ name_put ++ 0 ∷ [] → after ≡ old ++ string_table (take (i + 1) names)
strings_grown old before name_put after names i place h e b n a =
    grown old (string_table (take i names)) (string_table (take (i + 1) names)) (place.name ++ 0 ∷ []) before after b
    (a ∙ ap (λ xs. xs ++ 0 ∷ []) n ∙ append_assoc before place.name (0 ∷ []))
    (strings_more names i place h e)

pub chain_grown : (old front before after : List ℕ) (n word : ℕ) → before ≡ old ++ (front ++ chain_words n) → word ≡ n - 1 → after ≡ before ++ u32 word → after ≡ old ++ (front ++ chain_words (n + 1))
chain_grown old front before after n word b w a =
    grown_behind old front (chain_words n) (chain_words (n + 1)) (u32 (n - 1)) before after b (a ∙ ap (λ m. before ++ u32 m) w) (chain_more n)
