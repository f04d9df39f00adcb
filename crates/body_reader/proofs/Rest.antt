-- What follows a body isn't looked at: each part that is read of bytes is read alike of longer ones.
use Rattle.std.proofs.Common.{◌≡◌, ℕ, zero, suc, ◌+◌, ◌-◌, ◌*◌, ◌/◌, ◌≤◌, Bool, true, false, List, [], ◌∷◌, ◌++◌, length, take, drop, Some, Result, Ok, Err, refl, sym, ap, ◌∙◌, inl, inr, arith, length-drop}
use Rattle.std.specs.Prelude.{◌==◌, ◌%◌, nat_le, not, bit_and, option_map, if◌then◌else◌}
use Rattle.std.specs.Option.{ok_or}
use Rattle.std.proofs.lemmas.Bool.{cases_lt, leb-true, le-leb}
use Rattle.std.proofs.lemmas.List.{drop-append-le, take-append-le, length-take, length-append, get_or-drop, get_or_append_left}
use Rattle.byte_view.specs.Numbers.{le, number_at}
use Rattle.byte_view.specs.Reading.{◌>>=◌, must, listed}
use Rattle.byte_view.proofs.Heads.{little_same}
use Rattle.byte_view.proofs.Reading.{bind_ok, ok_or_ok, must_ok}
use Rattle.std.proofs.lemmas.Bool.{eqb-true}
use Rattle.body_reader.specs.declared.clause.Clause.{Clause}
use Rattle.body_reader.specs.Code.{starts_of, targets_in}
use Rattle.body_reader.specs.Clauses.{number_in, Fields, fields_at, clause_size, kind_of, clause_of, clause_at, small_size, section_size, is_table, Section, section_at, clauses_at, sections_from}
use Rattle.body_reader.specs.Bodies.{MethodBody, Header, tiny, fat, header_of, from_start, aligned, clauses_of, body_of}
use Rattle.body_reader.specs.Laws.{RestIsNotRead}
use Rattle.body_reader.proofs.Options.{some_if, map_some}

-- what one reading reads, another reads too
abbrev Kept : {A : Type 0} → Result A ℕ → Result A ℕ → Type 0
Kept {A} r s = (x : A) → r ≡ Ok x → s ≡ Ok x

bind_kept : {A B : Type 0} (r s : Result A ℕ) (f g : A → Result B ℕ) → Kept r s → ((x : A) → r ≡ Ok x → Kept (f x) (g x)) → Kept (r >>= f) (s >>= g)
bind_kept (Ok x) s f g kept next y e = rw (kept x refl) (next x refl y e)
bind_kept (Err d) s f g kept next y e = absurd (cc)

if_kept : {A : Type 0} (b : Bool) (r s t u : Result A ℕ) → Kept r s → Kept t u → Kept (if b then r else t) (if b then s else u)
if_kept true r s t u one other = one
if_kept false r s t u one other = other

listed_kept : {A : Type 0} (f g : ℕ → Result A ℕ) (n : ℕ) → ((k : ℕ) → Kept (f k) (g k)) → Kept (listed f n) (listed g n)
unfolding listed
listed_kept f g zero kept y e = e
listed_kept f g (suc n) kept y e =
    bind_kept (listed f n) (listed g n) (λ before. f n >>= λ last. Ok (before ++ last ∷ [])) (λ before. g n >>= λ last. Ok (before ++ last ∷ [])) (listed_kept f g n kept) (λ before _.
    bind_kept (f n) (g n) (λ last. Ok (before ++ last ∷ [])) (λ last. Ok (before ++ last ∷ [])) (kept n) (λ last _ y e. e)) y e

-- bytes of which others are the front
record Longer (a b : List ℕ) : Type 0 where
  size : length a ≤ length b
  numbers : (at n : ℕ) → at + n ≤ length a → le b at n ≡ le a at n

longer : (a rest : List ℕ) → Longer a (a ++ rest)
unfolding le
longer a rest = record {
  size = rw (length-append a rest) (omega arith);
  numbers = λ at n h.
      little_same 0 n (drop at (a ++ rest)) (drop at a) (λ j _ u.
      get_or-drop at (a ++ rest) j 0 ∙ get_or_append_left a rest 0 (at + j) (omega arith) ∙ sym (get_or-drop at a j 0));
}

number_kept : (a b : List ℕ) (at n x : ℕ) → Longer a b → number_at a at n ≡ Some x → number_at b at n ≡ Some x
number_kept a b at n x more e =
    let parts = some_if (nat_le (at + n) (length a)) (le a at n) x e in
    let within : at + n ≤ length a = leb-true (at + n) (length a) parts.0 in
    let there : nat_le (at + n) (length b) ≡ true = le-leb (at + n) (length b) (let size = more.size in omega (arith, within, size)) in
    rw (there, more.numbers at n within, parts.1) refl

field_kept : (a b : List ℕ) (at n : ℕ) → Longer a b → Kept (number_in a at n) (number_in b at n)
field_kept a b at n more x e = rw (number_kept a b at n x more (ok_or_ok (number_at a at n) at x e)) refl

must_kept : (holds : Bool) (place : ℕ) → Kept (must holds place) (must holds place)
must_kept holds place x e = e

fat_kept : (a b : List ℕ) → Longer a b → Kept (fat a) (fat b)
unfolding fat
fat_kept a b more =
    bind_kept (number_in a 0 2) (number_in b 0 2) _ _ (field_kept a b 0 2 more) (λ flags _.
    bind_kept (must (flags / 4096 == 3) 0) (must (flags / 4096 == 3) 0) _ _ (must_kept (flags / 4096 == 3) 0) (λ passed _.
    bind_kept (number_in a 2 2) (number_in b 2 2) _ _ (field_kept a b 2 2 more) (λ max_stack _.
    bind_kept (number_in a 4 4) (number_in b 4 4) _ _ (field_kept a b 4 4 more) (λ size _.
    bind_kept (number_in a 8 4) (number_in b 8 4) _ _ (field_kept a b 8 4 more) (λ locals _ y e. e)))))

header_kept : (a b : List ℕ) → Longer a b → Kept (header_of a) (header_of b)
unfolding header_of
header_kept a b more =
    bind_kept (number_in a 0 1) (number_in b 0 1) _ _ (field_kept a b 0 1 more) (λ first _.
    if_kept (first % 4 == 2) (Ok (tiny first)) (Ok (tiny first)) _ _ (λ y e. e)
    (if_kept (first % 4 == 3) (fat a) (fat b) (Err 0) (Err 0) (fat_kept a b more) (λ y e. e)))

fields_kept : (is_fat : Bool) (a b : List ℕ) (at : ℕ) → Longer a b → at + clause_size is_fat ≤ length a → fields_at is_fat b at ≡ fields_at is_fat a at
fields_kept true a b at more h =
    rw (more.numbers at 4 (omega arith), more.numbers (at + 4) 4 (omega arith), more.numbers (at + 8) 4 (omega arith), more.numbers (at + 12) 4 (omega arith), more.numbers (at + 16) 4 (omega arith), more.numbers (at + 20) 4 (omega arith)) refl
fields_kept false a b at more h =
    rw (more.numbers at 2 (omega arith), more.numbers (at + 2) 2 (omega arith), more.numbers (at + 4) 1 (omega arith), more.numbers (at + 5) 2 (omega arith), more.numbers (at + 7) 1 (omega arith), more.numbers (at + 8) 4 (omega arith)) refl

ok_if : {A : Type 0} (b : Bool) (r : Result A ℕ) (d : ℕ) (x : A) → (if b then r else Err d) ≡ Ok x → (b ≡ true) × (r ≡ Ok x)
ok_if true r d x e = (refl, e)
ok_if false r d x e = absurd (cc)

-- the clause that fields at a place say
abbrev said : List Bool → ℕ → Fields → Result Clause ℕ
said starts at f = ok_or (clause_of starts f (kind_of f.flags f.token)) at

clause_kept : (is_fat : Bool) (a b : List ℕ) (starts : List Bool) (at : ℕ) → Longer a b → Kept (clause_at is_fat a starts at) (clause_at is_fat b starts at)
unfolding clause_at
clause_kept is_fat a b starts at more x e =
    let parts = ok_if (nat_le (at + clause_size is_fat) (length a)) (said starts at (fields_at is_fat a at)) at x e in
    let within : at + clause_size is_fat ≤ length a = leb-true (at + clause_size is_fat) (length a) parts.0 in
    let there : nat_le (at + clause_size is_fat) (length b) ≡ true = le-leb (at + clause_size is_fat) (length b) (let size = more.size in omega (arith, within, size)) in
    let same : said starts at (fields_at is_fat b at) ≡ said starts at (fields_at is_fat a at) = ap (said starts at) (fields_kept is_fat a b at more within) in
    rw there (same ∙ parts.1)

small_kept : (a b : List ℕ) (at : ℕ) → Longer a b → Kept (small_size a at) (small_size b at)
unfolding small_size
small_kept a b at more =
    bind_kept (number_in a (at + 1) 1) (number_in b (at + 1) 1) _ _ (field_kept a b (at + 1) 1 more) (λ size _.
    bind_kept (number_in a (at + 2) 2) (number_in b (at + 2) 2) _ _ (field_kept a b (at + 2) 2 more) (λ reserved _ y e. e))

size_kept : (is_fat : Bool) (a b : List ℕ) (at : ℕ) → Longer a b → Kept (section_size is_fat a at) (section_size is_fat b at)
size_kept true a b at more x e =
    let parts = map_some (λ header. header / 256) (number_at a at 4) x (ok_or_ok (option_map (λ header. header / 256) (number_at a at 4)) (at + 1) x e) in
    rw (number_kept a b at 4 parts.0 more parts.1, parts.2) refl
size_kept false a b at more x e = small_kept a b at more x e

section_kept : (a b : List ℕ) (at : ℕ) → Longer a b → Kept (section_at a at) (section_at b at)
unfolding section_at
section_kept a b at more =
    bind_kept (number_in a at 1) (number_in b at 1) _ _ (field_kept a b at 1 more) (λ kind _.
    bind_kept (must (is_table kind) at) (must (is_table kind) at) _ _ (must_kept (is_table kind) at) (λ passed _.
    bind_kept (section_size (not (bit_and kind 0x40 == 0)) a at) (section_size (not (bit_and kind 0x40 == 0)) b at) _ _ (size_kept (not (bit_and kind 0x40 == 0)) a b at more) (λ size _ y e. e)))

clauses_kept : (a b : List ℕ) (starts : List Bool) (at : ℕ) (section : Section) → Longer a b → Kept (clauses_at a starts at section) (clauses_at b starts at section)
clauses_kept a b starts at section more =
    listed_kept (λ k. clause_at section.is_fat a starts (at + 4 + clause_size section.is_fat * k)) (λ k. clause_at section.is_fat b starts (at + 4 + clause_size section.is_fat * k)) ((section.size - 4) / clause_size section.is_fat) (λ k.
    clause_kept section.is_fat a b starts (at + 4 + clause_size section.is_fat * k) more)

sections_kept : (n m : ℕ) (a b : List ℕ) (starts : List Bool) (at : ℕ) → n ≤ m → Longer a b → Kept (sections_from n a starts at) (sections_from m b starts at)
unfolding sections_from
sections_kept zero m a b starts at h more y e = absurd (cc)
sections_kept (suc n) zero a b starts at h more y e = absurd (omega arith)
sections_kept (suc n) (suc m) a b starts at h more y e =
    bind_kept (section_at a at) (section_at b at) _ _ (section_kept a b at more) (λ section _.
    bind_kept (clauses_at a starts at section) (clauses_at b starts at section) _ _ (clauses_kept a b starts at section more) (λ clauses _.
    if_kept section.is_last (Ok clauses) (Ok clauses) _ _ (λ y e. e)
    (bind_kept (sections_from n a starts (at + section.size)) (sections_from m b starts (at + section.size)) (λ others. Ok (clauses ++ others)) (λ others. Ok (clauses ++ others)) (sections_kept n m a b starts (at + section.size) (omega arith) more) (λ others _ y e. e)))) y e

all_kept : (has_sections : Bool) (a b : List ℕ) (starts : List Bool) (end : ℕ) → Longer a b → Kept (clauses_of has_sections a starts end) (clauses_of has_sections b starts end)
all_kept has_sections a b starts end more =
    if_kept has_sections (sections_from (length a) a starts (aligned end)) (sections_from (length b) b starts (aligned end)) (Ok []) (Ok []) (sections_kept (length a) (length b) a b starts (aligned end) more.size more) (λ y e. e)

-- code that is there whole is the same code of longer bytes
code_kept : (start size : ℕ) (a rest : List ℕ) → length (take size (drop start a)) ≡ size → take size (drop start (a ++ rest)) ≡ take size (drop start a)
code_kept start size a rest whole =
    let count = length-take size (drop start a) in
    let left = length-drop start a in
    elim (cases_lt (length a) start) [
      | inl past ↦ (let none : size ≡ 0 = omega (arith, whole, count, left, past) in rw none refl)
      | inr within ↦ (
          let enough : size ≤ length (drop start a) = omega (arith, whole, count) in
          rw (drop-append-le start a rest within) (take-append-le size (drop start a) rest enough))
    ]

abbrev answer : MethodBody → Result MethodBody ℕ
answer body = Ok body

-- a body from what each part of it is
whole_by : (b : List ℕ) (body : MethodBody) (h : Header) (code : List ℕ) (starts : List Bool) (m t : ℕ) (clauses : List Clause)
    → header_of b ≡ Ok h
    → take h.size (drop h.start b) ≡ code
    → from_start h.start (starts_of code) ≡ Ok starts
    → must (length code == h.size) (h.start + length code) ≡ Ok m
    → from_start h.start (targets_in code starts) ≡ Ok t
    → clauses_of h.has_sections b starts (h.start + h.size) ≡ Ok clauses
    → answer (record { max_stack = h.max_stack; code = code; locals = h.locals; clauses = clauses }) ≡ answer body
    → body_of b ≡ Ok body
unfolding body_of
whole_by b body h code starts m t clauses e1 e2 e3 e4 e5 e6 e7 = rw (e1, e2, e3, e4, e5, e6) e7

pub rest_not_read : RestIsNotRead
unfolding body_of
rest_not_read a rest body e =
    let more = longer a rest in
    let h = bind_ok (header_of a) _ body e in
    let code : List ℕ = take h.0.size (drop h.0.start a) in
    let s = bind_ok (from_start h.0.start (starts_of code)) _ body h.2 in
    let m = bind_ok (must (length code == h.0.size) (h.0.start + length code)) _ body s.2 in
    let t = bind_ok (from_start h.0.start (targets_in code s.0)) _ body m.2 in
    let c = bind_ok (clauses_of h.0.has_sections a s.0 (h.0.start + h.0.size)) _ body t.2 in
    let whole : length code ≡ h.0.size = eqb-true (length code) h.0.size (must_ok (length code == h.0.size) (h.0.start + length code) m.0 m.1) in
    let same : take h.0.size (drop h.0.start (a ++ rest)) ≡ code = code_kept h.0.start h.0.size a rest whole in
    let clauses : clauses_of h.0.has_sections (a ++ rest) s.0 (h.0.start + h.0.size) ≡ Ok c.0 = all_kept h.0.has_sections a (a ++ rest) s.0 (h.0.start + h.0.size) more c.0 c.1 in
    whole_by (a ++ rest) body h.0 code s.0 m.0 t.0 c.0 (header_kept a (a ++ rest) more h.0 h.1) same s.1 m.1 t.1 clauses c.2
