-- The entries of the dynamic section, one after another.
use Rattle.std.proofs.Common.{◌≡◌, ℕ, suc, ◌+◌, ◌*◌, ◌<◌, ◌≤◌, Bool, true, false, List, [], ◌∷◌, ◌++◌, length, take, drop, get_or, Result, Ok, Err, refl, ap, ◌∙◌, inl, inr, arith}
use Rattle.std.specs.Prelude.{All, nat_lt}
use Rattle.std.specs.List.{before_first, position_or_len}
use Rattle.std.proofs.lemmas.Bool.{cases_lt, lt-ltb, le-ltb, both_ways}
use Rattle.std.proofs.lemmas.List.{take_more, length-take, get_or-take, take_all, take-take, take-append-drop}
use Rattle.std.proofs.Math.Seq.{drop-cons}
use Rattle.std.proofs.lemmas.List.Elements.{All-push}
use Rattle.std.proofs.lemmas.List.FromFn.{length-map-range_with_len, get_or-map-range_with_len}
use Rattle.std.proofs.lemmas.List.Sums.{position_or_len_is, passes_at_first}
use Rattle.byte_view.specs.Numbers.{le}
use Rattle.byte_view.specs.Reading.{Broken, ◌>>=◌, must}
use Rattle.byte_view.specs.ElfDynamic as definition
use Rattle.byte_view.specs.ElfParts as parts
use Rattle.byte_view.proofs.Reading.{bind_ok, bind_err, bind_read}

abbrev pub Entry : Type 0
Entry = definition.Entry

-- entries that pass are followed by the rest
checks_append : (xs ys : List Entry) → definition.check_entries xs ≡ Ok 0 → definition.check_entries (xs ++ ys) ≡ definition.check_entries ys
unfolding definition.check_entries
checks_append [] ys e = refl
checks_append (x ∷ xs) ys e =
    let parts = bind_ok (definition.check_entry x) (λ _. definition.check_entries xs) 0 e in
    bind_read (definition.check_entry x) (λ _. definition.check_entries (xs ++ ys)) parts.0 parts.1 ∙ checks_append xs ys parts.2

pub no_checks : definition.check_entries [] ≡ Ok 0
unfolding definition.check_entries
no_checks = refl

checks_one : (x : Entry) (ys : List Entry) (y : ℕ) → definition.check_entry x ≡ Ok y → definition.check_entries (x ∷ ys) ≡ definition.check_entries ys
unfolding definition.check_entries
checks_one x ys y e = bind_read (definition.check_entry x) (λ _. definition.check_entries ys) y e

checks_fail : (x : Entry) (ys : List Entry) (d : Broken) → definition.check_entry x ≡ Err d → definition.check_entries (x ∷ ys) ≡ Err d
unfolding definition.check_entries
checks_fail x ys d e = bind_err (definition.check_entry x) (λ _. definition.check_entries ys) d e

checks_push : (xs : List Entry) (x : Entry) (y : ℕ) → definition.check_entries xs ≡ Ok 0 → definition.check_entry x ≡ Ok y → definition.check_entries (xs ++ x ∷ []) ≡ Ok 0
checks_push xs x y before e = checks_append xs (x ∷ []) before ∙ checks_one x [] y e ∙ no_checks

module _ (bytes : List ℕ) (header : ℕ) where
  abbrev pub all : List Entry
  all = definition.entries bytes header

  abbrev pub start : ℕ
  start = le bytes (header + 8) 8

  pub entries_count : length all ≡ definition.entry_count bytes header
  unfolding definition.entries
  entries_count = length-map-range_with_len (λ k. definition.entry_at bytes (start + 16 * k)) 0 (definition.entry_count bytes header)

  pub entry_there : (k : ℕ) (d : Entry) → k < definition.entry_count bytes header → get_or all k d ≡ definition.entry_at bytes (start + 16 * k)
  unfolding definition.entries
  entry_there k d h = get_or-map-range_with_len (λ k. definition.entry_at bytes (start + 16 * k)) 0 (definition.entry_count bytes header) k k d h (omega arith)

  pub one_more : (k : ℕ) → k < definition.entry_count bytes header → take (k + 1) all ≡ take k all ++ definition.entry_at bytes (start + 16 * k) ∷ []
  one_more k h =
      let d : Entry = definition.entry_at bytes 0 in
      rw (← entry_there k d h) (take_more all k d (omega (arith, entries_count)))

  -- none of the first entries ends the table
  abbrev pub Going : ℕ → Type 0
  Going k = All (λ (entry : Entry). definition.is_end entry ≡ false) (take k all)

  pub goes_more : (k : ℕ) → k < definition.entry_count bytes header → Going k → definition.is_end (definition.entry_at bytes (start + 16 * k)) ≡ false → Going (k + 1)
  goes_more k h going e = rw (one_more k h) (All-push (λ (entry : Entry). definition.is_end entry ≡ false) (take k all) (definition.entry_at bytes (start + 16 * k)) going e)

  pub checked_more : (k y : ℕ) → k < definition.entry_count bytes header → definition.check_entries (take k all) ≡ Ok 0 → definition.check_entry (definition.entry_at bytes (start + 16 * k)) ≡ Ok y → definition.check_entries (take (k + 1) all) ≡ Ok 0
  checked_more k y h checked e = rw (one_more k h) (checks_push (take k all) (definition.entry_at bytes (start + 16 * k)) y checked e)

  goes : (k j : ℕ) (d : Entry) → k ≤ definition.entry_count bytes header → Going k → j < k → definition.is_end (get_or all j d) ≡ false
  goes k j d h going l =
      let within : j < length (take k all) = omega (arith, length-take k all, entries_count) in
      rw (← get_or-take k all j d l) (going j d within)

  -- what is left to ask of a table
  abbrev finish : List Entry → Result (List Entry) Broken
  finish table = definition.check_entries table >>= λ _. must (nat_lt (length table) (length all)) (parts.dynamic, header + 8) >>= λ _. Ok table

  by_table : (table : List Entry) → before_first definition.is_end all ≡ table → definition.dynamic_table bytes header ≡ finish table
  unfolding definition.dynamic_table
  by_table table e = ap finish e

  by_place : (k : ℕ) → position_or_len definition.is_end all ≡ k → definition.dynamic_table bytes header ≡ finish (take k all)
  by_place k e = by_table (take k all) (ap (λ n. take n all) e)

  tested : (table : List Entry) (b : Bool) → nat_lt (length table) (length all) ≡ b → definition.check_entries table ≡ Ok 0 → finish table ≡ (must b (parts.dynamic, header + 8) >>= λ _. Ok table)
  tested table b e checked = rw (checked, e) refl

  -- the entry at a place ends the table
  pub ended : (k : ℕ) → k < definition.entry_count bytes header → Going k → definition.check_entries (take k all) ≡ Ok 0 → definition.is_end (definition.entry_at bytes (start + 16 * k)) ≡ true → definition.dynamic_table bytes header ≡ Ok (take k all)
  ended k h going checked e =
      let d : Entry = definition.entry_at bytes 0 in
      let within : k < length all = omega (arith, entries_count) in
      let last : definition.is_end (get_or all k d) ≡ true = rw (entry_there k d h) e in
      let here : position_or_len definition.is_end all ≡ k = position_or_len_is definition.is_end all k d (omega arith) (λ j l. goes k j d (omega arith) going l) (λ _. last) in
      let below : nat_lt (length (take k all)) (length all) ≡ true = lt-ltb _ _ (omega (arith, length-take k all)) in
      by_place k here ∙ tested (take k all) true below checked

  -- no entry ends the table
  pub unended : (k : ℕ) → definition.entry_count bytes header ≤ k → Going k → definition.check_entries (take k all) ≡ Ok 0 → definition.dynamic_table bytes header ≡ Err (parts.dynamic, header + 8)
  unended k h going checked =
      let d : Entry = definition.entry_at bytes 0 in
      let whole : take k all ≡ all = take_all k all (omega (arith, entries_count)) in
      let all_go : All (λ (entry : Entry). definition.is_end entry ≡ false) all = rw whole at going in
      let here : position_or_len definition.is_end all ≡ length all = position_or_len_is definition.is_end all (length all) d (omega arith) (λ j l. all_go j d l) (λ l. absurd (omega arith)) in
      let past : nat_lt (length all) (length all) ≡ false = le-ltb _ _ (omega arith) in
      let all_checked : definition.check_entries all ≡ Ok 0 = rw whole at checked in
      by_place (length all) here ∙ ap finish (take_all (length all) all (omega arith)) ∙ tested all false past all_checked

  -- the table goes on past an entry that ends it not
  goes_on : (k : ℕ) (d : Entry) → k < definition.entry_count bytes header → Going k → definition.is_end (get_or all k d) ≡ false → k < position_or_len definition.is_end all
  goes_on k d h going e =
      elim (cases_lt k (position_or_len definition.is_end all)) [
        | inl l ↦ l
        | inr g ↦ (let passes = passes_at_first definition.is_end all d (omega (arith, entries_count)) in
            elim (cases_lt (position_or_len definition.is_end all) k) [
              | inl m ↦ absurd (both_ways _ (goes k (position_or_len definition.is_end all) d (omega arith) going m) passes)
              | inr n ↦ (let same : position_or_len definition.is_end all ≡ k = omega arith in
                  absurd (both_ways _ e (rw same at passes)))
            ])
      ]

  cut_at : (table : List Entry) (k : ℕ) (d : Entry) (f : Broken) → k < length table → definition.check_entries (take k table) ≡ Ok 0 → definition.check_entry (get_or table k d) ≡ Err f → definition.check_entries table ≡ Err f
  cut_at table k d f h checked e =
      let split : take k table ++ (get_or table k d ∷ drop (suc k) table) ≡ table = rw (← drop-cons table k d h) (take-append-drop k table) in
      rw (← split) (checks_append (take k table) (get_or table k d ∷ drop (suc k) table) checked ∙ checks_fail (get_or table k d) (drop (suc k) table) f e)

  -- an entry of the table is refused
  pub refused : (f : Broken) (k : ℕ) → k < definition.entry_count bytes header → Going k
      → definition.check_entries (take k all) ≡ Ok 0
      → definition.is_end (definition.entry_at bytes (start + 16 * k)) ≡ false
      → definition.check_entry (definition.entry_at bytes (start + 16 * k)) ≡ Err f
      → definition.dynamic_table bytes header ≡ Err f
  refused f k h going checked more it =
      let d : Entry = definition.entry_at bytes 0 in
      let there = entry_there k d h in
      let on : k < position_or_len definition.is_end all = goes_on k d h going (rw there more) in
      let n : ℕ = position_or_len definition.is_end all in
      let within : k < length (take (position_or_len definition.is_end all) all) =
      omega (arith, length-take (position_or_len definition.is_end all) all, entries_count) in
      let front : take k (take (position_or_len definition.is_end all) all) ≡ take k all =
      take-take k (position_or_len definition.is_end all) all (omega arith) in
      let here : get_or (take (position_or_len definition.is_end all) all) k d ≡ definition.entry_at bytes (start + 16 * k) =
      get_or-take (position_or_len definition.is_end all) all k d on ∙ there in
      let cut = cut_at (take (position_or_len definition.is_end all) all) k d f within (rw front checked) (rw here it) in
      by_place (position_or_len definition.is_end all) refl
      ∙ bind_err _ (λ _. must (nat_lt (length (take (position_or_len definition.is_end all) all)) (length all)) (parts.dynamic, header + 8)
      >>= λ _. Ok (take (position_or_len definition.is_end all) all)) f cut
