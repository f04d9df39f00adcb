-- Lines of `run` by their items.
use Rattle.std.proofs.Common.{◌≡◌, ◌<◌, ℕ, suc, ◌+◌, Bool, true, false, cond, eqb, not, List, [], ◌∷◌, ◌++◌, length, take, drop, min, Option, None, Some, sym, ◌∙◌, ap, refl, arith, codes}
use Rattle.std.proofs.lemmas.Bool.{ne_eqb, lt-leb, lt-ltb, cond-true, cond-false, and_parts, and_from}
use Rattle.std.proofs.lemmas.Option.{none-some}
use Rattle.std.proofs.lemmas.Slice.Eq.{bytes_eq-Decides}
use Rattle.std.proofs.Math.Seq.{take-length}
use Rattle.std.proofs.Math.ListN.{drop_of_length-le}
use Rattle.std.proofs.Math.Bool.{and-false}
use Rattle.std.proofs.lemmas.List.{append-nil, append_assoc}
use Rattle.std.proofs.lemmas.List.Elements.{All-head, All-tail}
use Rattle.std.specs.Prelude.{nat_lt, nat_le, bytes_eq, ◌==◌, unwrap_or, ◌&&◌, if◌then◌else◌, flat_map, option_and_then, All}
use Rattle.std.specs.List.{list_all, position_or_len}
use Rattle.host_run.specs.Grammar.{names_file, number, is_end, no_words, run, said_whole, after, with_word, with_option, with_lib, with_fuel, with_file, with_report, with_log, said_by}
use Rattle.host_run.specs.GrammarLaws.{IsFileName}
use Rattle.host_run.specs.RunItems.{Item, File, LibApart, LibJoined, FuelApart, FuelJoined, Report, Log, first_or, command_of, RunLinesSayTheirItems, Writes, MayStand, spelled, file_of, lib_of, fuel_of, report_of, log_of}
use Rattle.host_run.proofs.Program.{run_split}
use Rattle.host_run.specs.declared.command.Command.{Command}
use Rattle.host_run.specs.declared.command.Command.TheVariants.{Run}
use Rattle.host_run.specs.declared.options.Options.{Options}
use Rattle.host_run.specs.declared.options.Awaits.TheVariants.{Nothing, Lib, Fuel}

-- what has been said, where no option awaits its word
abbrev said_so : Option (List ℕ) → List (List ℕ) → Option ℕ → Bool → Bool → Options
said_so file libs fuel report log = record { file = file; libs = libs; fuel = fuel; report = report; log = log; awaits = Nothing }

-- ---- single words

names_it : (word : List ℕ) → IsFileName word → names_file word ≡ true
names_it [] named = absurd (omega (arith, named.0))
names_it (first ∷ rest) named = ap not (ne_eqb first 45 named.1)

lib_opens : (f : Option (List ℕ)) (l : List (List ℕ)) (u : Option ℕ) (r g : Bool) → with_word (said_so f l u r g) (codes "--lib") ≡ Some (record (said_so f l u r g) { awaits = Lib })
unfolding with_word with_option
lib_opens f l u r g = refl

fuel_opens : (f : Option (List ℕ)) (l : List (List ℕ)) (u : Option ℕ) (r g : Bool) → with_word (said_so f l u r g) (codes "--fuel") ≡ Some (record (said_so f l u r g) { awaits = Fuel })
unfolding with_word with_option
fuel_opens f l u r g = refl

report_stands : (f : Option (List ℕ)) (l : List (List ℕ)) (u : Option ℕ) (r g : Bool) → with_word (said_so f l u r g) (codes "--report") ≡ with_report (said_so f l u r g)
unfolding with_word with_option
report_stands f l u r g = refl

log_stands : (f : Option (List ℕ)) (l : List (List ℕ)) (u : Option ℕ) (r g : Bool) → with_word (said_so f l u r g) (codes "--log") ≡ with_log (said_so f l u r g)
unfolding with_word with_option
log_stands f l u r g = refl

lib_joins : (f : Option (List ℕ)) (l : List (List ℕ)) (u : Option ℕ) (r g : Bool) (lib : List ℕ) → with_word (said_so f l u r g) (codes "--lib=" ++ lib) ≡ with_lib (said_so f l u r g) lib
unfolding with_word with_option after
lib_joins f l u r g lib = refl

fuel_joins : (f : Option (List ℕ)) (l : List (List ℕ)) (u : Option ℕ) (r g : Bool) (digits : List ℕ) → with_word (said_so f l u r g) (codes "--fuel=" ++ digits) ≡ with_fuel (said_so f l u r g) digits
unfolding with_word with_option after
fuel_joins f l u r g digits = refl

-- a word that doesn't begin with `-` is no option, nor the beginning of one
no_option : (first : ℕ) (rest : List ℕ) → eqb first 45 ≡ false → (option : List ℕ) → bytes_eq (first ∷ rest) (45 ∷ option) ≡ false
no_option first rest other option = ap (λ b. b && bytes_eq rest option) other

not_joined : (first : ℕ) (rest : List ℕ) → eqb 45 first ≡ false → (start : List ℕ) → after (45 ∷ start) (first ∷ rest) ≡ None
unfolding after
not_joined first rest other start = cond-false _ _ _ (ap (λ b. b && bytes_eq start (take (length start) rest)) other)

file_stands : (f : Option (List ℕ)) (l : List (List ℕ)) (u : Option ℕ) (r g : Bool) (word : List ℕ) → IsFileName word → with_word (said_so f l u r g) word ≡ with_file (said_so f l u r g) word
unfolding with_word with_option
file_stands f l u r g [] named = absurd (omega (arith, named.0))
file_stands f l u r g (first ∷ rest) named =
    let no = no_option first rest (ne_eqb first 45 named.1) in
    let joins = not_joined first rest (ne_eqb 45 first (λ e. named.1 (sym e))) in
    rw (no (codes "-lib"), no (codes "-fuel"), no (codes "-report"), no (codes "-log"), joins (codes "-lib="), joins (codes "-fuel="))

-- ---- what has been said, and what items still say

abbrev so_far : {X : Type 0} → Option X → List X
so_far None = []
so_far (Some x) = x ∷ []

abbrev once : Bool → Item → List Item
once false item = []
once true item = item ∷ []

abbrev first_of : {X : Type 0} → List X → Option X
first_of [] = None
first_of (x ∷ xs) = Some x

abbrev some_of : {X : Type 0} → List X → Bool
some_of xs = nat_lt 0 (length xs)

abbrev at_most_one : {X : Type 0} → List X → Bool
at_most_one xs = nat_le (length xs) 1

abbrev at_most_once : List (List ℕ) → List ℕ → List Item → List Item → Bool
at_most_once files fuels reports logs = at_most_one files && at_most_one fuels && at_most_one reports && at_most_one logs

-- these are all FILEs, LIBs and FUELs of a line, and all its `--report`s and `--log`s
abbrev told : List (List ℕ) → List (List ℕ) → List ℕ → List Item → List Item → Option Options
told files libs fuels reports logs =
    if at_most_once files fuels reports logs
    then Some (said_so (first_of files) libs (first_of fuels) (some_of reports) (some_of logs)) else None

two : {X : Type 0} (x y : X) (xs : List X) → at_most_one (x ∷ y ∷ xs) ≡ false
two x y xs = lt-leb (length (x ∷ y ∷ xs)) 1 (omega arith)

two_files : (x y : List ℕ) (files libs : List (List ℕ)) (fuels : List ℕ) (reports logs : List Item) → told (x ∷ y ∷ files) libs fuels reports logs ≡ None
two_files x y files libs fuels reports logs = rw (two x y files)

two_fuels : (files libs : List (List ℕ)) (x y : ℕ) (fuels : List ℕ) (reports logs : List Item) → told files libs (x ∷ y ∷ fuels) reports logs ≡ None
two_fuels files libs x y fuels reports logs = rw (two x y fuels, and-false (at_most_one files))

two_reports : (files libs : List (List ℕ)) (fuels : List ℕ) (x y : Item) (reports logs : List Item) → told files libs fuels (x ∷ y ∷ reports) logs ≡ None
two_reports files libs fuels x y reports logs = rw (two x y reports, and-false (at_most_one files && at_most_one fuels))

two_logs : (files libs : List (List ℕ)) (fuels : List ℕ) (reports : List Item) (x y : Item) (logs : List Item) → told files libs fuels reports (x ∷ y ∷ logs) ≡ None
two_logs files libs fuels reports x y logs = rw (two x y logs, and-false (at_most_one files && at_most_one fuels && at_most_one reports))

-- what items say after so much
after_items : Option (List ℕ) → List (List ℕ) → Option ℕ → Bool → Bool → List Item → Option Options
after_items f l u r g items =
    told (so_far f ++ flat_map file_of items) (l ++ flat_map lib_of items) (so_far u ++ flat_map fuel_of items) (once r Report ++ flat_map report_of items) (once g Log ++ flat_map log_of items)

nothing_more : (f : Option (List ℕ)) (l : List (List ℕ)) (u : Option ℕ) (r g : Bool) → told (so_far f) l (so_far u) (once r Report) (once g Log) ≡ Some (said_so f l u r g)
nothing_more None l None false false = refl
nothing_more None l None false true = refl
nothing_more None l None true false = refl
nothing_more None l None true true = refl
nothing_more None l (Some n) false false = refl
nothing_more None l (Some n) false true = refl
nothing_more None l (Some n) true false = refl
nothing_more None l (Some n) true true = refl
nothing_more (Some x) l None false false = refl
nothing_more (Some x) l None false true = refl
nothing_more (Some x) l None true false = refl
nothing_more (Some x) l None true true = refl
nothing_more (Some x) l (Some n) false false = refl
nothing_more (Some x) l (Some n) false true = refl
nothing_more (Some x) l (Some n) true false = refl
nothing_more (Some x) l (Some n) true true = refl

-- the libraries that an item names come behind those before
libs_grow : (l : List (List ℕ)) (lib : List ℕ) (more : List (List ℕ)) → (l ++ lib ∷ []) ++ more ≡ l ++ lib ∷ more
libs_grow l lib more = append_assoc l (lib ∷ []) more

items_say : (items : List Item) (f : Option (List ℕ)) (l : List (List ℕ)) (u : Option ℕ) (r g : Bool) → All MayStand items → said_by (said_so f l u r g) (flat_map spelled items) ≡ after_items f l u r g items
unfolding after_items with_lib with_fuel with_file with_report with_log with_word with_option after
items_say [] f l u r g stand =
    rw (append-nil (so_far f), append-nil l, append-nil (so_far u), append-nil (once r Report), append-nil (once g Log)) (sym (nothing_more f l u r g))
items_say (File file ∷ items) None l u r g stand =
    let here : IsFileName file = All-head MayStand (File file) items stand in
    let rest = items_say items (Some file) l u r g (All-tail MayStand (File file) items stand) in
    rw (file_stands None l u r g file here, names_it file here) rest
items_say (File file ∷ items) (Some other) l u r g stand =
    let here : IsFileName file = All-head MayStand (File file) items stand in
    rw (file_stands (Some other) l u r g file here, two_files other file (flat_map file_of items) (l ++ flat_map lib_of items) (so_far u ++ flat_map fuel_of items) (once r Report ++ flat_map report_of items) (once g Log ++ flat_map log_of items))
items_say (LibApart lib ∷ items) f l u r g stand =
    let here : IsFileName lib = All-head MayStand (LibApart lib) items stand in
    let rest = items_say items f (l ++ lib ∷ []) u r g (All-tail MayStand (LibApart lib) items stand) in
    let some : nat_lt 0 (length lib) ≡ true = lt-ltb 0 (length lib) here.0 in
    rw (names_it lib here, some, sym (libs_grow l lib (flat_map lib_of items))) rest
items_say (LibJoined lib ∷ items) f l u r g stand =
    let here : 0 < length lib = All-head MayStand (LibJoined lib) items stand in
    let rest = items_say items f (l ++ lib ∷ []) u r g (All-tail MayStand (LibJoined lib) items stand) in
    let some : nat_lt 0 (length lib) ≡ true = lt-ltb 0 (length lib) here in
    rw (some, sym (libs_grow l lib (flat_map lib_of items))) rest
items_say (FuelApart digits fuel ∷ items) f l None r g stand =
    let here : Writes digits fuel = All-head MayStand (FuelApart digits fuel) items stand in
    let rest = items_say items f l (Some fuel) r g (All-tail MayStand (FuelApart digits fuel) items stand) in
    rw here rest
items_say (FuelApart digits fuel ∷ items) f l (Some other) r g stand =
    sym (two_fuels (so_far f ++ flat_map file_of items) (l ++ flat_map lib_of items) other fuel (flat_map fuel_of items) (once r Report ++ flat_map report_of items) (once g Log ++ flat_map log_of items))
items_say (FuelJoined digits fuel ∷ items) f l None r g stand =
    let here : Writes digits fuel = All-head MayStand (FuelJoined digits fuel) items stand in
    let rest = items_say items f l (Some fuel) r g (All-tail MayStand (FuelJoined digits fuel) items stand) in
    rw here rest
items_say (FuelJoined digits fuel ∷ items) f l (Some other) r g stand =
    sym (two_fuels (so_far f ++ flat_map file_of items) (l ++ flat_map lib_of items) other fuel (flat_map fuel_of items) (once r Report ++ flat_map report_of items) (once g Log ++ flat_map log_of items))
items_say (Report ∷ items) f l u false g stand = items_say items f l u true g (All-tail MayStand Report items stand)
items_say (Report ∷ items) f l u true g stand =
    sym (two_reports (so_far f ++ flat_map file_of items) (l ++ flat_map lib_of items) (so_far u ++ flat_map fuel_of items) Report Report (flat_map report_of items) (once g Log ++ flat_map log_of items))
items_say (Log ∷ items) f l u r false stand = items_say items f l u r true (All-tail MayStand Log items stand)
items_say (Log ∷ items) f l u r true stand =
    sym (two_logs (so_far f ++ flat_map file_of items) (l ++ flat_map lib_of items) (so_far u ++ flat_map fuel_of items) (once r Report ++ flat_map report_of items) Log Log (flat_map log_of items))

-- ---- the words of items aren't `--`

named_is_no_end : (word : List ℕ) → IsFileName word → not (is_end word) ≡ true
named_is_no_end [] named = refl
named_is_no_end (first ∷ rest) named = ap not (no_option first rest (ne_eqb first 45 named.1) (codes "-"))

dashes_write_nothing : number 10 20 100000000 (codes "--") ≡ None
unfolding number
dashes_write_nothing = refl

digits_are_no_end : (digits : List ℕ) (fuel : ℕ) → Writes digits fuel → not (is_end digits) ≡ true
digits_are_no_end digits fuel writes = by (is_end digits) refl
  where
    by : (b : Bool) → is_end digits ≡ b → not b ≡ true
    by false e = refl
    by true e =
        let same : digits ≡ codes "--" = (bytes_eq-Decides digits (codes "--")).0 e in
        absurd (none-some fuel (sym dashes_write_nothing ∙ ap (λ d. number 10 20 100000000 d) (sym same) ∙ writes))

no_ends : (items : List Item) → All MayStand items → list_all (λ word. not (is_end word)) (flat_map spelled items) ≡ true
no_ends [] stand = refl
no_ends (File file ∷ items) stand =
    and_from _ _ (named_is_no_end file (All-head MayStand (File file) items stand)) (no_ends items (All-tail MayStand (File file) items stand))
no_ends (LibApart lib ∷ items) stand =
    and_from _ _ (named_is_no_end lib (All-head MayStand (LibApart lib) items stand)) (no_ends items (All-tail MayStand (LibApart lib) items stand))
no_ends (LibJoined lib ∷ items) stand = no_ends items (All-tail MayStand (LibJoined lib) items stand)
no_ends (FuelApart digits fuel ∷ items) stand =
    and_from _ _ (digits_are_no_end digits fuel (All-head MayStand (FuelApart digits fuel) items stand)) (no_ends items (All-tail MayStand (FuelApart digits fuel) items stand))
no_ends (FuelJoined digits fuel ∷ items) stand = no_ends items (All-tail MayStand (FuelJoined digits fuel) items stand)
no_ends (Report ∷ items) stand = no_ends items (All-tail MayStand Report items stand)
no_ends (Log ∷ items) stand = no_ends items (All-tail MayStand Log items stand)

-- ---- the whole line

end_lacks : (own : List (List ℕ)) → list_all (λ word. not (is_end word)) own ≡ true → position_or_len is_end own ≡ length own
end_lacks [] none = refl
end_lacks (word ∷ own) none =
    let p = and_parts (not (is_end word)) (list_all (λ (w : List ℕ). not (is_end w)) own) none in
    let more : 1 + length own ≡ suc (length own) = omega arith in
    cond-true _ _ _ p.0 ∙ ap (λ n. 1 + n) (end_lacks own p.1) ∙ more

run_alone : (own : List (List ℕ)) → list_all (λ word. not (is_end word)) own ≡ true → run own ≡ option_and_then (said_whole (1 + length own)) (said_by no_words own)
unfolding run
run_alone own none =
    let at = end_lacks own none in
    let front : take (length own) own ≡ own = take-length own in
    let behind : drop (length own + 1) own ≡ [] = drop_of_length-le own (omega arith) in
    let counted : min (length own + 1) (length own) ≡ length own = omega arith in
    rw (at, front, behind, counted)

-- what is said without a FILE is no command, and with one it is
then_none : {X Y : Type 0} (F : X → Option Y) (c : Bool) (x : X) → F x ≡ None → option_and_then F (cond c (Some x) None) ≡ None
then_none F true x e = e
then_none F false x e = refl

then_some : {X Y : Type 0} (F : X → Option Y) (c : Bool) (x : X) (y : Y) → F x ≡ Some y → option_and_then F (cond c (Some x) None) ≡ cond c (Some y) None
then_some F true x y e = e
then_some F false x y e = refl

first_or_default : (fuels : List ℕ) → unwrap_or (first_of fuels) 10000000 ≡ first_or fuels 10000000
first_or_default [] = refl
first_or_default (fuel ∷ fuels) = refl

-- the command of these FILEs, LIBs and so on
abbrev whole : List (List ℕ) → List (List ℕ) → List ℕ → List Item → List Item → ℕ → Option Command
whole files libs fuels reports logs before =
    if length files == 1 && at_most_one fuels && at_most_one reports && at_most_one logs
    then Some (Run (record { file = first_or files []; libs = libs; fuel = first_or fuels 10000000; report = some_of reports; log = some_of logs; before = before }))
    else None

whole_says : (files libs : List (List ℕ)) (fuels : List ℕ) (reports logs : List Item) (before : ℕ) → option_and_then (said_whole before) (told files libs fuels reports logs) ≡ whole files libs fuels reports logs before
unfolding said_whole
whole_says [] libs fuels reports logs before =
    then_none (said_whole before) (at_most_one fuels && at_most_one reports && at_most_one logs) (said_so None libs (first_of fuels) (some_of reports) (some_of logs)) refl
whole_says (file ∷ []) libs fuels reports logs before =
    let asked = Run (record { file = file; libs = libs; fuel = first_or fuels 10000000; report = some_of reports; log = some_of logs; before = before }) in
    let same : said_whole before (said_so (Some file) libs (first_of fuels) (some_of reports) (some_of logs)) ≡ Some asked = rw (first_or_default fuels) in
    then_some (said_whole before) (at_most_one fuels && at_most_one reports && at_most_one logs) (said_so (Some file) libs (first_of fuels) (some_of reports) (some_of logs)) asked same
whole_says (file ∷ other ∷ files) libs fuels reports logs before =
    let many : eqb (length (file ∷ other ∷ files)) 1 ≡ false = ne_eqb (length (file ∷ other ∷ files)) 1 (λ e. omega (arith, e)) in
    rw (two_files file other files libs fuels reports logs, many)

items_ask : (items : List Item) (before : ℕ) → All MayStand items → option_and_then (said_whole before) (said_by no_words (flat_map spelled items)) ≡ command_of items before
unfolding after_items
items_ask items before stand =
    ap (λ said. option_and_then (said_whole before) said) (items_say items None [] None false false stand)
    ∙ whole_says (flat_map file_of items) (flat_map lib_of items) (flat_map fuel_of items) (flat_map report_of items) (flat_map log_of items) before

pub run_lines_say_their_items : RunLinesSayTheirItems
run_lines_say_their_items items None stand fits =
    let own = flat_map spelled items in
    ap run (append-nil own) ∙ run_alone own (no_ends items stand) ∙ items_ask items (1 + length own) stand
run_lines_say_their_items items (Some program) stand fits =
    let own = flat_map spelled items in
    let before : 1 + (length own + 1) ≡ 2 + length own = omega arith in
    run_split own program (no_ends items stand) ∙ cond-true _ _ _ fits ∙ ap (λ n. option_and_then (said_whole n) (said_by no_words own)) before ∙ items_ask items (2 + length own) stand
