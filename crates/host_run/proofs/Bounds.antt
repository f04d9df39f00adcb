-- What the line grammar finds keeps its bounds.
use Rattle.std.proofs.Common.{◌≡◌, ℕ, ◌+◌, ◌-◌, ◌^◌, ◌≤◌, Bool, true, cond, eqb, List, [], ◌∷◌, ◌++◌, length, drop, suc, Option, Some, None, sym, ◌∙◌, ap, subst, refl, arith, lit≤, codes}
use Rattle.std.proofs.lemmas.List.{drop_min}
use Rattle.std.proofs.lemmas.Bool.{cond_both, false≢true, and_parts, ltb-true, leb-true, eqb-false, not-true}
use Rattle.std.specs.Prelude.{IfSome, option_map, option_and_then, unwrap_or, min, is_none, bytes_eq, nat_lt, nat_le, ◌&&◌}
use Rattle.std.specs.List.{position_or_len, before_first, after_first, list_all}
use Rattle.std.specs.Char.{is_digit}
use Rattle.std.specs.Str.Parse.{digits_value}
use Rattle.host_run.specs.Grammar.{names_file, number, after, lone_file, drill, word_value, values, native, command, no_words, with_lib, with_fuel, with_report, with_log, with_file, with_option, with_word, said_by, said_whole, is_end, fits_program, run}
use Rattle.host_run.specs.GrammarLaws.{IsFileName, KeepsBounds, CommandsKeepBounds}
use Rattle.host_run.specs.declared.command.Command.{Command}
use Rattle.host_run.specs.declared.command.Command.TheVariants.{Imports, Stubs, Native, Run, Drill}
use Rattle.host_run.specs.declared.options.Options.{Options}
use Rattle.host_run.specs.declared.options.Awaits.TheVariants.{Nothing, Lib, Fuel}

-- ---- what holds of each value that is found

cond_when : {X : Type 0} (b : Bool) (o : Option X) (P : X → Type 0) → (b ≡ true → IfSome o P) → IfSome (cond b o None) P
cond_when b o P h = cond_both b o None (λ r. IfSome r P) h (λ _. tt)

cond_unless : {X : Type 0} (b : Bool) (o : Option X) (P : X → Type 0) → IfSome o P → IfSome (cond b None o) P
cond_unless b o P h = cond_both b None o (λ r. IfSome r P) (λ _. tt) (λ _. h)

cond_either : {X : Type 0} (b : Bool) (o r : Option X) (P : X → Type 0) → IfSome o P → IfSome r P → IfSome (cond b o r) P
cond_either b o r P h k = cond_both b o r (λ s. IfSome s P) (λ _. h) (λ _. k)

map_keeps : {X Y : Type 0} (f : X → Y) (o : Option X) (Q : X → Type 0) (P : Y → Type 0) → IfSome o Q → ((x : X) → Q x → P (f x)) → IfSome (option_map f o) P
map_keeps f None Q P h k = tt
map_keeps f (Some x) Q P h k = k x h

then_keeps : {X Y : Type 0} (f : X → Option Y) (o : Option X) (Q : X → Type 0) (P : Y → Type 0) → IfSome o Q → ((x : X) → Q x → IfSome (f x) P) → IfSome (option_and_then f o) P
then_keeps f None Q P h k = tt
then_keeps f (Some x) Q P h k = k x h

anything : {X : Type 0} (o : Option X) → IfSome o (λ _. Unit {0})
anything None = tt
anything (Some x) = tt

-- ---- words and numbers

is_file_name : (word : List ℕ) → names_file word ≡ true → IsFileName word
is_file_name [] e = absurd (false≢true e)
is_file_name (first ∷ rest) e = (omega arith, eqb-false first 45 (not-true (eqb first 45) e))

lone_file_named : (words : List (List ℕ)) → IfSome (lone_file words) IsFileName
lone_file_named [] = tt
lone_file_named (file ∷ []) = cond_when (names_file file) (Some file) IsFileName (is_file_name file)
lone_file_named (file ∷ other ∷ words) = tt

number_within : (base most greatest : ℕ) (digits : List ℕ) → IfSome (number base most greatest digits) (λ n. n ≤ greatest)
unfolding number
number_within base most greatest digits =
    let well = nat_lt 0 (length digits) && nat_le (length digits) most && list_all (λ d. is_digit d base) digits in
    let small = nat_le (digits_value base digits) greatest in
    cond_when (well && small) (Some (digits_value base digits)) (λ n. n ≤ greatest) (λ e. leb-true (digits_value base digits) greatest (and_parts well small e).1)

drill_within : (line words : List (List ℕ)) → IfSome (drill words) (KeepsBounds line)
drill_within line [] = tt
drill_within line (digits ∷ []) =
    map_keeps Drill (number 10 20 (2 ^ 32 - 1) digits) (λ n. n ≤ 2 ^ 32 - 1) (KeepsBounds line) (number_within 10 20 (2 ^ 32 - 1) digits) (λ n small. omega arith)
drill_within line (digits ∷ other ∷ words) = tt

values_as_many : (words : List (List ℕ)) → IfSome (values words) (λ numbers. length numbers ≡ length words)
values_as_many [] = refl
values_as_many (word ∷ words) =
    then_keeps (λ (value : ℕ). option_map (λ (others : List ℕ). value ∷ others) (values words)) (word_value word) (λ _. Unit {0}) (λ (numbers : List ℕ). length numbers ≡ suc (length words)) (anything (word_value word))
    (λ value _. map_keeps (λ (others : List ℕ). value ∷ others) (values words) (λ others. length others ≡ length words) (λ (numbers : List ℕ). length numbers ≡ suc (length words)) (values_as_many words) (λ others same. ap suc same))

native_within : (line words : List (List ℕ)) → IfSome (native words) (KeepsBounds line)
native_within line [] = tt
native_within line (lib ∷ []) = tt
native_within line (lib ∷ symbol ∷ arguments) =
    cond_when (names_file lib && nat_lt 0 (length symbol) && nat_le (length arguments) 8) (option_map (λ (numbers : List ℕ). Native lib symbol numbers) (values arguments)) (KeepsBounds line) (λ e.
    let p = and_parts (names_file lib && nat_lt 0 (length symbol)) (nat_le (length arguments) 8) e in
    let q = and_parts (names_file lib) (nat_lt 0 (length symbol)) p.0 in
    let few = leb-true (length arguments) 8 p.1 in
    map_keeps (λ (numbers : List ℕ). Native lib symbol numbers) (values arguments) (λ (numbers : List ℕ). length numbers ≡ length arguments) (KeepsBounds line) (values_as_many arguments)
    (λ numbers same. (is_file_name lib q.0, ltb-true 0 (length symbol) q.1, omega (arith, same, few))))

-- ---- `run`

-- the FILE that was named may name a file, and the fuel is within its limit
abbrev IsWithin : Options → Type 0
IsWithin said = IfSome said.file IsFileName × IfSome said.fuel (λ fuel. fuel ≤ 100000000)

lib_within : (said : Options) (lib : List ℕ) → IsWithin said → IfSome (with_lib said lib) IsWithin
unfolding with_lib
lib_within said lib h =
    cond_when (nat_lt 0 (length lib)) (Some (record said { libs = said.libs ++ lib ∷ []; awaits = Nothing })) IsWithin (λ _. h)

fuel_within : (said : Options) (digits : List ℕ) → IsWithin said → IfSome (with_fuel said digits) IsWithin
unfolding with_fuel
fuel_within said digits h =
    let spends = λ (fuel : ℕ). record said { fuel = Some fuel; awaits = Nothing } in
    cond_when (is_none said.fuel) (option_map spends (number 10 20 100000000 digits)) IsWithin (λ _. map_keeps spends (number 10 20 100000000 digits) (λ n. n ≤ 100000000) IsWithin (number_within 10 20 100000000 digits) (λ n small. (h.0, small)))

report_within : (said : Options) → IsWithin said → IfSome (with_report said) IsWithin
unfolding with_report
report_within said h = cond_unless said.report (Some (record said { report = true })) IsWithin h

log_within : (said : Options) → IsWithin said → IfSome (with_log said) IsWithin
unfolding with_log
log_within said h = cond_unless said.log (Some (record said { log = true })) IsWithin h

file_within : (said : Options) (file : List ℕ) → IsWithin said → IfSome (with_file said file) IsWithin
unfolding with_file
file_within said file h =
    cond_when (is_none said.file && names_file file) (Some (record said { file = Some file })) IsWithin (λ e. (is_file_name file (and_parts (is_none said.file) (names_file file) e).1, h.1))

-- a word with an option's beginning, or a FILE
joined : Options → List ℕ → Option Options
joined said word =
    elim (after (codes "--lib=") word) as (λ _. Option Options) [
      | Some lib ↦ with_lib said lib
      | None ↦ elim (after (codes "--fuel=") word) as (λ _. Option Options) [
        | Some digits ↦ with_fuel said digits
        | None ↦ with_file said word
      ]
    ]

joined_within : (said : Options) (word : List ℕ) → IsWithin said → IfSome (joined said word) IsWithin
unfolding joined
joined_within said word h =
    elim (after (codes "--lib=") word) as (λ o. IfSome (elim o as (λ _. Option Options) [ Some lib ↦ with_lib said lib | None ↦ elim (after (codes "--fuel=") word) as (λ _. Option Options) [ Some digits ↦ with_fuel said digits | None ↦ with_file said word ] ]) IsWithin) [
      | Some lib ↦ lib_within said lib h
      | None ↦ elim (after (codes "--fuel=") word) as (λ o. IfSome (elim o as (λ _. Option Options) [ Some digits ↦ with_fuel said digits | None ↦ with_file said word ]) IsWithin) [
        | Some digits ↦ fuel_within said digits h
        | None ↦ file_within said word h
      ]
    ]

option_within : (said : Options) (word : List ℕ) → IsWithin said → IfSome (with_option said word) IsWithin
unfolding with_option joined
option_within said word h =
    let lib = Some (record said { awaits = Lib }) in
    let fuel = Some (record said { awaits = Fuel }) in
    let from_log = cond (bytes_eq word (codes "--log")) (with_log said) (joined said word) in
    let from_report = cond (bytes_eq word (codes "--report")) (with_report said) from_log in
    let from_fuel = cond (bytes_eq word (codes "--fuel")) fuel from_report in
    let at_log : IfSome from_log IsWithin =
    cond_either (bytes_eq word (codes "--log")) (with_log said) (joined said word) IsWithin (log_within said h) (joined_within said word h)
    in
    let at_report : IfSome from_report IsWithin =
    cond_either (bytes_eq word (codes "--report")) (with_report said) from_log IsWithin (report_within said h) at_log
    in
    let at_fuel : IfSome from_fuel IsWithin =
    cond_either (bytes_eq word (codes "--fuel")) fuel from_report IsWithin h at_report
    in
    cond_either (bytes_eq word (codes "--lib")) lib from_fuel IsWithin h at_fuel

word_within : (said : Options) (word : List ℕ) → IsWithin said → IfSome (with_word said word) IsWithin
unfolding with_word
word_within said word h =
    elim said.awaits as (λ a. IfSome (elim a as (λ _. Option Options) [ Nothing ↦ with_option said word | Lib ↦ cond (names_file word) (with_lib said word) None | Fuel ↦ with_fuel said word ]) IsWithin) [
      | Nothing ↦ option_within said word h
      | Lib ↦ cond_when (names_file word) (with_lib said word) IsWithin (λ _. lib_within said word h)
      | Fuel ↦ fuel_within said word h
    ]

words_within : (said : Options) (words : List (List ℕ)) → IsWithin said → IfSome (said_by said words) IsWithin
words_within said [] h = h
words_within said (word ∷ words) h =
    then_keeps (λ (next : Options). said_by next words) (with_word said word) IsWithin IsWithin (word_within said word h) (λ next k. words_within next words k)

fuel_or_default : (fuel : Option ℕ) → IfSome fuel (λ n. n ≤ 100000000) → unwrap_or fuel 10000000 ≤ 100000000
fuel_or_default None h = lit≤ tt
fuel_or_default (Some n) h = h

whole_within : (line : List (List ℕ)) (before : ℕ) (said : Options) → fits_program (drop before line) ≡ true → IsWithin said → IfSome (said_whole before said) (KeepsBounds line)
unfolding said_whole
whole_within line before said fits h =
    elim said.awaits as (λ a. IfSome (elim a as (λ _. Option Command) [ Nothing ↦ option_map (λ (file : List ℕ). Run (record { file = file; libs = said.libs; fuel = unwrap_or said.fuel 10000000; report = said.report; log = said.log; before = before })) said.file | Lib ↦ None | Fuel ↦ None ]) (KeepsBounds line)) [
      | Nothing ↦ map_keeps (λ (file : List ℕ). Run (record { file = file; libs = said.libs; fuel = unwrap_or said.fuel 10000000; report = said.report; log = said.log; before = before })) said.file IsFileName (KeepsBounds line) h.0 (λ file named. (named, fuel_or_default said.fuel h.1, fits))
      | Lib ↦ tt
      | Fuel ↦ tt
    ]

-- the words after the first `--`, by how many of the line come before them
program_of : (name : List ℕ) (words : List (List ℕ)) → drop (1 + min (position_or_len is_end words + 1) (length words)) (name ∷ words) ≡ after_first is_end words
program_of name words =
    let n = min (position_or_len is_end words + 1) (length words) in
    let one : 1 + n ≡ suc n = omega arith in
    ap (λ k. drop k (name ∷ words)) one ∙ drop_min (position_or_len is_end words + 1) words

run_within : (name : List ℕ) (words : List (List ℕ)) → IfSome (run words) (KeepsBounds (name ∷ words))
unfolding run
run_within name words =
    let own = before_first is_end words in
    let before = 1 + min (position_or_len is_end words + 1) (length words) in
    cond_when (fits_program (after_first is_end words)) (option_and_then (said_whole before) (said_by no_words own)) (KeepsBounds (name ∷ words)) (λ fits. then_keeps (said_whole before) (said_by no_words own) IsWithin (KeepsBounds (name ∷ words)) (words_within no_words own (tt, tt)) (λ said h. whole_within (name ∷ words) before said (ap fits_program (program_of name words) ∙ fits) h))

-- ---- the line

pub commands_keep_bounds : CommandsKeepBounds
commands_keep_bounds [] = tt
commands_keep_bounds (name ∷ rest) =
    let bounds : Command → Type 0 = KeepsBounds (name ∷ rest) in
    let from_drill = cond (bytes_eq name (codes "drill")) (drill rest) None in
    let from_run = cond (bytes_eq name (codes "run")) (run rest) from_drill in
    let from_native = cond (bytes_eq name (codes "native")) (native rest) from_run in
    let from_stubs = cond (bytes_eq name (codes "stubs")) (option_map Stubs (lone_file rest)) from_native in
    let at_drill : IfSome from_drill bounds =
    cond_when (bytes_eq name (codes "drill")) (drill rest) bounds (λ _. drill_within (name ∷ rest) rest)
    in
    let at_run : IfSome from_run bounds =
    cond_either (bytes_eq name (codes "run")) (run rest) from_drill bounds (run_within name rest) at_drill
    in
    let at_native : IfSome from_native bounds =
    cond_either (bytes_eq name (codes "native")) (native rest) from_run bounds (native_within (name ∷ rest) rest) at_run
    in
    let at_stubs : IfSome from_stubs bounds =
    cond_either (bytes_eq name (codes "stubs")) (option_map Stubs (lone_file rest)) from_native bounds (map_keeps Stubs (lone_file rest) IsFileName bounds (lone_file_named rest) (λ _ h. h)) at_native
    in
    cond_either (bytes_eq name (codes "imports")) (option_map Imports (lone_file rest)) from_stubs bounds (map_keeps Imports (lone_file rest) IsFileName bounds (lone_file_named rest) (λ _ h. h)) at_stubs

-- a command that words ask for keeps its bounds
pub bounds-kept : (words : List (List ℕ)) (found : Option Command) (c : Command) → found ≡ command words → found ≡ Some c → KeepsBounds words c
bounds-kept words found c e is = let P : Option Command → Type 0 = λ o. IfSome o (KeepsBounds words) in subst P (sym e ∙ is) (commands_keep_bounds words)
