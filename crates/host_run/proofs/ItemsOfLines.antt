-- The items of the lines of `run` that ask for a command.
use Rattle.std.proofs.Common.{◌≡◌, ◌<◌, ◌⊎◌, ◌&&◌, ℕ, ◌+◌, Bool, true, false, cond, eqb, List, [], ◌∷◌, ◌++◌, length, take, drop, min, Option, None, Some, sym, ◌∙◌, ap, refl, subst, inl, inr, arith, codes, get_or}
use Rattle.std.proofs.lemmas.Bool.{eqb-false, not-true, false≢true, ltb-true, ltb-false, and_parts}
use Rattle.std.proofs.lemmas.Option.{cond_some, none-some, option_and_then_some}
use Rattle.std.proofs.lemmas.Slice.Eq.{bytes_eq-Decides}
use Rattle.std.proofs.Math.ListN.{drop_of_length-le}
use Rattle.std.proofs.lemmas.List.{append-nil, take-append-drop}
use Rattle.std.proofs.lemmas.List.Elements.{All-nil, All-cons}
use Rattle.std.proofs.lemmas.List.Sums.{split_at_first, passes_at_first}
use Rattle.std.specs.Prelude.{nat_lt, bytes_eq, if◌then◌else◌, flat_map, is_none, unwrap_or, option_map, option_and_then, All}
use Rattle.std.specs.List.{position_or_len, before_first, after_first}
use Rattle.host_run.specs.Grammar.{names_file, number, is_end, no_words, fits_program, run, said_whole, after, with_word, with_option, with_lib, with_fuel, with_file, with_report, with_log, said_by}
use Rattle.host_run.specs.GrammarLaws.{IsFileName}
use Rattle.host_run.specs.RunItems.{Item, File, LibApart, LibJoined, FuelApart, FuelJoined, Report, Log, Writes, MayStand, spelled, AreItems, RunLinesAreItems}
use Rattle.host_run.specs.declared.command.Command.{Command}
use Rattle.host_run.specs.declared.command.Command.TheVariants.{Run}
use Rattle.host_run.specs.declared.options.Options.{Options}
use Rattle.host_run.specs.declared.options.Awaits.{Awaits}
use Rattle.host_run.specs.declared.options.Awaits.TheVariants.{Nothing, Lib, Fuel}

-- ---- what an answer shows

either : {X : Type 0} (b : Bool) (o r : Option X) (y : X) → cond b o r ≡ Some y → ((b ≡ true) × (o ≡ Some y)) ⊎ ((b ≡ false) × (r ≡ Some y))
either true o r y e = inl (refl, e)
either false o r y e = inr (refl, e)

where_true : {X : Type 0} (b : Bool) (o : Option X) (y : X) → cond b o None ≡ Some y → (b ≡ true) × (o ≡ Some y)
where_true true o y e = (refl, e)
where_true false o y e = absurd (none-some y e)

where_false : {X : Type 0} (b : Bool) (o : Option X) (y : X) → cond b None o ≡ Some y → o ≡ Some y
where_false true o y e = absurd (none-some y e)
where_false false o y e = e

one_value : {X : Type 0} (x y : X) → Some x ≡ Some y → x ≡ y
one_value x y e = (cond_some true x y e).1

mapped : {X Y : Type 0} (f : X → Y) (o : Option X) (y : Y) → option_map f o ≡ Some y → (x : X) × (o ≡ Some x) × (f x ≡ y)
mapped f None y e = absurd (none-some y e)
mapped f (Some x) y e = (x, refl, one_value (f x) y e)

is_named : (word : List ℕ) → names_file word ≡ true → IsFileName word
is_named [] e = absurd (false≢true e)
is_named (first ∷ rest) e = (omega arith, eqb-false first 45 (not-true (eqb first 45) e))

follows : (start word rest : List ℕ) → after start word ≡ Some rest → word ≡ start ++ rest
unfolding after
follows start word rest e =
    let p = cond_some (bytes_eq start (take (length start) word)) (drop (length start) word) rest e in
    let front : start ≡ take (length start) word = (bytes_eq-Decides start (take (length start) word)).0 p.0 in
    sym (take-append-drop (length start) word) ∙ ap (λ l. l ++ drop (length start) word) (sym front) ∙ ap (λ l. start ++ l) p.1

-- ---- words of items

-- words that are those of items
record ItemsOf (words : List (List ℕ)) : Type 0 where
  items : List Item
  stand : All MayStand items
  spell : words ≡ flat_map spelled items

no_items : ItemsOf []
no_items = record { items = []; stand = All-nil MayStand; spell = refl }

one_more : (item : Item) (words : List (List ℕ)) → MayStand item → ItemsOf words → ItemsOf (spelled item ++ words)
one_more item words stands more = record {
  items = item ∷ more.items;
  stand = All-cons MayStand item more.items stands more.stand;
  spell = ap (λ l. spelled item ++ l) more.spell;
}

-- words of items behind the word that an option awaits
abbrev Spells : Awaits → List (List ℕ) → Type 0
Spells Nothing words = ItemsOf words
Spells Lib words = (lib : List ℕ) × (rest : List (List ℕ)) × (words ≡ lib ∷ rest) × IsFileName lib × ItemsOf rest
Spells Fuel words = (digits : List ℕ) × (fuel : ℕ) × (rest : List (List ℕ)) × (words ≡ digits ∷ rest) × Writes digits fuel × ItemsOf rest

lib_taken : (said : Options) (lib : List ℕ) (next : Options) → with_lib said lib ≡ Some next → (0 < length lib) × (next.awaits ≡ Nothing)
unfolding with_lib
lib_taken said lib next e =
    let p = cond_some (nat_lt 0 (length lib)) (record said { libs = said.libs ++ lib ∷ []; awaits = Nothing }) next e in
    (ltb-true 0 (length lib) p.0, sym (ap (λ (o : Options). o.awaits) p.1))

fuel_taken : (said : Options) (digits : List ℕ) (next : Options) → with_fuel said digits ≡ Some next → (fuel : ℕ) × Writes digits fuel × (next.awaits ≡ Nothing)
unfolding with_fuel
fuel_taken said digits next e =
    let spends = λ (fuel : ℕ). record said { fuel = Some fuel; awaits = Nothing } in
    let p = where_true (is_none said.fuel) (option_map spends (number 10 20 100000000 digits)) next e in
    let q = mapped spends (number 10 20 100000000 digits) next p.1 in
    (q.0, q.1, sym (ap (λ (o : Options). o.awaits) q.2))

free_again : (said next : Options) → said.awaits ≡ Nothing → Some said ≡ Some next → next.awaits ≡ Nothing
free_again said next free e = sym (ap (λ (o : Options). o.awaits) (one_value said next e)) ∙ free

more_items : (awaits : Awaits) (words : List (List ℕ)) → awaits ≡ Nothing → Spells awaits words → ItemsOf words
more_items awaits words free spells = subst (λ a. Spells a words) free spells

-- a word that begins with `--lib=` or `--fuel=`, or else a FILE
abbrev by_fuel : Options → List ℕ → Option (List ℕ) → Option Options
by_fuel said word o = elim o as (λ _. Option Options) [ Some digits ↦ with_fuel said digits | None ↦ with_file said word ]

abbrev by_lib : Options → List ℕ → Option (List ℕ) → Option Options
by_lib said word o = elim o as (λ _. Option Options) [ Some lib ↦ with_lib said lib | None ↦ by_fuel said word (after (codes "--fuel=") word) ]

file_taken : (said : Options) (word : List ℕ) (next : Options) (words : List (List ℕ)) → said.awaits ≡ Nothing → with_file said word ≡ Some next → Spells next.awaits words → ItemsOf (word ∷ words)
unfolding with_file
file_taken said word next words free e spells =
    let p = where_true (is_none said.file && names_file word) (Some (record said { file = Some word })) next e in
    let q = and_parts (is_none said.file) (names_file word) p.0 in
    one_more (File word) words (is_named word q.1) (more_items next.awaits words (free_again (record said { file = Some word }) next free p.1) spells)

fuel_joined : (said : Options) (word : List ℕ) (next : Options) (words : List (List ℕ)) (o : Option (List ℕ)) → after (codes "--fuel=") word ≡ o → said.awaits ≡ Nothing → by_fuel said word o ≡ Some next → Spells next.awaits words → ItemsOf (word ∷ words)
fuel_joined said word next words (Some digits) is free e spells =
    let p = fuel_taken said digits next e in
    let whole : word ≡ codes "--fuel=" ++ digits = follows (codes "--fuel=") word digits is in
    subst (λ w. ItemsOf (w ∷ words)) (sym whole) (one_more (FuelJoined digits p.0) words p.1 (more_items next.awaits words p.2 spells))
fuel_joined said word next words None is free e spells = file_taken said word next words free e spells

lib_joined : (said : Options) (word : List ℕ) (next : Options) (words : List (List ℕ)) (o : Option (List ℕ)) → after (codes "--lib=") word ≡ o → said.awaits ≡ Nothing → by_lib said word o ≡ Some next → Spells next.awaits words → ItemsOf (word ∷ words)
lib_joined said word next words (Some lib) is free e spells =
    let p = lib_taken said lib next e in
    let whole : word ≡ codes "--lib=" ++ lib = follows (codes "--lib=") word lib is in
    subst (λ w. ItemsOf (w ∷ words)) (sym whole) (one_more (LibJoined lib) words p.0 (more_items next.awaits words p.1 spells))
lib_joined said word next words None is free e spells =
    fuel_joined said word next words (after (codes "--fuel=") word) refl free e spells

-- a word that may be one of the options
abbrev from_log : Options → List ℕ → Option Options
from_log said word = if bytes_eq word (codes "--log") then with_log said else by_lib said word (after (codes "--lib=") word)

abbrev from_report : Options → List ℕ → Option Options
from_report said word = if bytes_eq word (codes "--report") then with_report said else from_log said word

abbrev from_fuel : Options → List ℕ → Option Options
from_fuel said word = if bytes_eq word (codes "--fuel") then Some (record said { awaits = Fuel }) else from_report said word

abbrev from_lib : Options → List ℕ → Option Options
from_lib said word = if bytes_eq word (codes "--lib") then Some (record said { awaits = Lib }) else from_fuel said word

log_or_joined : (said : Options) (word : List ℕ) (next : Options) (words : List (List ℕ)) → said.awaits ≡ Nothing → from_log said word ≡ Some next → Spells next.awaits words → ItemsOf (word ∷ words)
unfolding with_log
log_or_joined said word next words free e spells =
    by (either (bytes_eq word (codes "--log")) (with_log said) (by_lib said word (after (codes "--lib=") word)) next e)
  where
    by : ((bytes_eq word (codes "--log") ≡ true) × (with_log said ≡ Some next)) ⊎ ((bytes_eq word (codes "--log") ≡ false) × (by_lib said word (after (codes "--lib=") word) ≡ Some next)) → ItemsOf (word ∷ words)
    by (inl here) =
        let same : word ≡ codes "--log" = (bytes_eq-Decides word (codes "--log")).0 here.0 in
        let once = where_false said.log (Some (record said { log = true })) next here.1 in
        subst (λ w. ItemsOf (w ∷ words)) (sym same) (one_more Log words tt (more_items next.awaits words (free_again (record said { log = true }) next free once) spells))
    by (inr there) = lib_joined said word next words (after (codes "--lib=") word) refl free there.1 spells

report_or_other : (said : Options) (word : List ℕ) (next : Options) (words : List (List ℕ)) → said.awaits ≡ Nothing → from_report said word ≡ Some next → Spells next.awaits words → ItemsOf (word ∷ words)
unfolding with_report
report_or_other said word next words free e spells =
    by (either (bytes_eq word (codes "--report")) (with_report said) (from_log said word) next e)
  where
    by : ((bytes_eq word (codes "--report") ≡ true) × (with_report said ≡ Some next)) ⊎ ((bytes_eq word (codes "--report") ≡ false) × (from_log said word ≡ Some next)) → ItemsOf (word ∷ words)
    by (inl here) =
        let same : word ≡ codes "--report" = (bytes_eq-Decides word (codes "--report")).0 here.0 in
        let once = where_false said.report (Some (record said { report = true })) next here.1 in
        subst (λ w. ItemsOf (w ∷ words)) (sym same) (one_more Report words tt (more_items next.awaits words (free_again (record said { report = true }) next free once) spells))
    by (inr there) = log_or_joined said word next words free there.1 spells

fuel_or_other : (said : Options) (word : List ℕ) (next : Options) (words : List (List ℕ)) → said.awaits ≡ Nothing → from_fuel said word ≡ Some next → Spells next.awaits words → ItemsOf (word ∷ words)
fuel_or_other said word next words free e spells =
    by (either (bytes_eq word (codes "--fuel")) (Some (record said { awaits = Fuel })) (from_report said word) next e)
  where
    by : ((bytes_eq word (codes "--fuel") ≡ true) × (Some (record said { awaits = Fuel }) ≡ Some next)) ⊎ ((bytes_eq word (codes "--fuel") ≡ false) × (from_report said word ≡ Some next)) → ItemsOf (word ∷ words)
    by (inl here) =
        let same : word ≡ codes "--fuel" = (bytes_eq-Decides word (codes "--fuel")).0 here.0 in
        let waits : next.awaits ≡ Fuel = sym (ap (λ (o : Options). o.awaits) (one_value (record said { awaits = Fuel }) next here.1)) in
        let awaited : Spells Fuel words = subst (λ a. Spells a words) waits spells in
        let both : word ∷ words ≡ codes "--fuel" ∷ awaited.0 ∷ awaited.2 = ap (λ w. w ∷ words) same ∙ ap (λ l. codes "--fuel" ∷ l) awaited.3 in
        subst ItemsOf (sym both) (one_more (FuelApart awaited.0 awaited.1) awaited.2 awaited.4 awaited.5)
    by (inr there) = report_or_other said word next words free there.1 spells

option_taken : (said : Options) (word : List ℕ) (next : Options) (words : List (List ℕ)) → said.awaits ≡ Nothing → with_option said word ≡ Some next → Spells next.awaits words → ItemsOf (word ∷ words)
unfolding with_option
option_taken said word next words free e spells =
    by (either (bytes_eq word (codes "--lib")) (Some (record said { awaits = Lib })) (from_fuel said word) next e)
  where
    by : ((bytes_eq word (codes "--lib") ≡ true) × (Some (record said { awaits = Lib }) ≡ Some next)) ⊎ ((bytes_eq word (codes "--lib") ≡ false) × (from_fuel said word ≡ Some next)) → ItemsOf (word ∷ words)
    by (inl here) =
        let same : word ≡ codes "--lib" = (bytes_eq-Decides word (codes "--lib")).0 here.0 in
        let waits : next.awaits ≡ Lib = sym (ap (λ (o : Options). o.awaits) (one_value (record said { awaits = Lib }) next here.1)) in
        let awaited : Spells Lib words = subst (λ a. Spells a words) waits spells in
        let both : word ∷ words ≡ codes "--lib" ∷ awaited.0 ∷ awaited.1 = ap (λ w. w ∷ words) same ∙ ap (λ l. codes "--lib" ∷ l) awaited.2 in
        subst ItemsOf (sym both) (one_more (LibApart awaited.0) awaited.1 awaited.3 awaited.4)
    by (inr there) = fuel_or_other said word next words free there.1 spells

-- ---- lines

-- by the option that awaits this word
word_taken : (said : Options) (word : List ℕ) (next : Options) (words : List (List ℕ)) (a : Awaits) → said.awaits ≡ a
    → (elim a as (λ _. Option Options) [ Nothing ↦ with_option said word | Lib ↦ cond (names_file word) (with_lib said word) None | Fuel ↦ with_fuel said word ]) ≡ Some next
    → Spells next.awaits words → Spells a (word ∷ words)
word_taken said word next words Nothing is e spells = option_taken said word next words is e spells
word_taken said word next words Lib is e spells =
    let p = where_true (names_file word) (with_lib said word) next e in
    let q = lib_taken said word next p.1 in
    (word, words, refl, is_named word p.0, more_items next.awaits words q.1 spells)
word_taken said word next words Fuel is e spells =
    let p = fuel_taken said word next e in
    (word, p.0, words, refl, p.1, more_items next.awaits words p.2 spells)

words_taken : (words : List (List ℕ)) (said last : Options) → said_by said words ≡ Some last → last.awaits ≡ Nothing → Spells said.awaits words
unfolding with_word
words_taken [] said last e done =
    let free : said.awaits ≡ Nothing = ap (λ (o : Options). o.awaits) (one_value said last e) ∙ done in
    subst (λ a. Spells a []) (sym free) no_items
words_taken (word ∷ words) said last e done =
    option_and_then_some (λ (next : Options). said_by next words) (with_word said word) last e (λ next here rest. word_taken said word next words said.awaits refl here (words_taken words next last rest done))

-- where a command is asked for, no option awaits its word
all_said : (before : ℕ) (said : Options) (asked : Command) → said_whole before said ≡ Some asked → said.awaits ≡ Nothing
unfolding said_whole
all_said before said asked e = by said.awaits refl e
  where
    command : List ℕ → Command
    command file = Run (record { file = file; libs = said.libs; fuel = unwrap_or said.fuel 10000000; report = said.report; log = said.log; before = before })

    by : (a : Awaits) → said.awaits ≡ a → (elim a as (λ _. Option Command) [ Nothing ↦ option_map command said.file | Lib ↦ None | Fuel ↦ None ]) ≡ Some asked → said.awaits ≡ Nothing
    by Nothing is e = is
    by Lib is e = absurd (none-some asked e)
    by Fuel is e = absurd (none-some asked e)

-- the words up to the first `--`, and the program's
ended_items : (words : List (List ℕ)) → fits_program (after_first is_end words) ≡ true → ItemsOf (before_first is_end words) → (b : Bool) → nat_lt (position_or_len is_end words) (length words) ≡ b → AreItems words
ended_items words fits own true ends =
    let place : position_or_len is_end words < length words = ltb-true (position_or_len is_end words) (length words) ends in
    let found : get_or words (position_or_len is_end words) [] ≡ codes "--" = (bytes_eq-Decides _ (codes "--")).0 (passes_at_first is_end words [] place) in
    let program = after_first is_end words in
    record {
      items = own.items;
      program = Some program;
      stand = own.stand;
      fits = fits;
      spell = split_at_first is_end words [] place ∙ ap (λ l. l ++ get_or words (position_or_len is_end words) [] ∷ program) own.spell ∙ ap (λ w. flat_map spelled own.items ++ w ∷ program) found;
    }
ended_items words fits own false lacks =
    let at = position_or_len is_end words in
    let behind : drop at words ≡ [] = drop_of_length-le words (ltb-false at (length words) lacks) in
    let whole : before_first is_end words ≡ words = sym (append-nil (take at words)) ∙ ap (λ l. take at words ++ l) (sym behind) ∙ take-append-drop at words in
    record {
      items = own.items;
      program = None;
      stand = own.stand;
      fits = tt;
      spell = sym whole ∙ own.spell ∙ sym (append-nil (flat_map spelled own.items));
    }

pub run_lines_are_items : RunLinesAreItems
unfolding run
run_lines_are_items words asked e =
    let before = 1 + min (position_or_len is_end words + 1) (length words) in
    let own = before_first is_end words in
    let p = where_true (fits_program (after_first is_end words)) (option_and_then (said_whole before) (said_by no_words own)) asked e in
    option_and_then_some (said_whole before) (said_by no_words own) asked p.1 (λ said heard whole. ended_items words p.0 (words_taken own no_words said heard (all_said before said asked whole)) (nat_lt (position_or_len is_end words) (length words)) refl)
