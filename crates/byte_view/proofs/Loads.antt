-- The loads of a library lie apart, and a file that is cut before the end of one isn't read.
use Rattle.std.proofs.Common.{◌≡◌, ℕ, zero, suc, ◌+◌, ◌*◌, ◌^◌, ◌<◌, ◌≤◌, Bool, true, false, ◌||◌, ◌&&◌, ◌⊎◌, List, [], ◌∷◌, ◌++◌, length, take, drop, Some, Result, Ok, refl, sym, ap, ◌∙◌, subst, inl, inr, arith}
use Rattle.std.specs.Prelude.{if◌then◌else◌, nat_le, nat_lt, ◌==◌, slice_get, Contains}
use Rattle.std.proofs.lemmas.Bool.{leb-true, ltb-true, eqb-true, and_parts, or_cases}
use Rattle.std.proofs.lemmas.List.{get_or-take, get_or-drop, length-take}
use Rattle.std.proofs.lemmas.Option.{none-some, same_Some, slice_get_within, slice_get-get_or}
use Rattle.byte_view.specs.Numbers.{le}
use Rattle.byte_view.specs.Reading.{Broken, ◌>>=◌, must, field, field_where}
use Rattle.byte_view.specs.ElfParts as parts
use Rattle.byte_view.specs.ElfLoads.{Load, identified, program_headers, is_of_type, pt_load, has_flag, load_at, end_of, last_end, and_load, loads, without_tls}
use Rattle.byte_view.specs.ElfDynamic.{dynamic_header, dynamic_table}
use Rattle.byte_view.specs.ElfSymbols.{symbols}
use Rattle.byte_view.specs.ElfRelocations.{relocations}
use Rattle.byte_view.specs.Library.{Library, library}
use Rattle.byte_view.specs.ElfLaws.{LoadsOfLibrariesLieApart, CutLibrariesAreRefused}
use Rattle.byte_view.proofs.Reading.{bind_then, same_read, must_ok, field_ok, read_or_refused}
use Rattle.byte_view.proofs.Heads.{little_same}

-- what is asked of a load by itself
record IsWhole (bytes : List ℕ) (load : Load) : Type 0 where
  pub in_file : load.file_at + load.file_size ≤ length bytes
  pub sizes : load.file_size ≤ load.size
  pub low : end_of load < 2 ^ 32

load_read : (bytes : List ℕ) (end at : ℕ) (load : Load) → load_at bytes end at ≡ Ok load → IsWhole bytes load × (end ≤ load.vaddr)
unfolding load_at
load_read bytes end at load e =
    let file_at : ℕ = le bytes (at + 8) 8 in
    let vaddr : ℕ = le bytes (at + 16) 8 in
    let file_size : ℕ = le bytes (at + 32) 8 in
    let size : ℕ = le bytes (at + 40) 8 in
    bind_then (must (nat_le (file_at + file_size) (length bytes)) (parts.load, at + 8)) _ load e (λ a a_passed e1.
    bind_then (must (nat_le file_size size) (parts.load, at + 32)) _ load e1 (λ b b_passed e2.
    bind_then (must (nat_le end vaddr && nat_lt (vaddr + size) (2 ^ 32)) (parts.load, at + 16)) _ load e2 (λ c c_passed e3.
    let places = and_parts (nat_le end vaddr) (nat_lt (vaddr + size) (2 ^ 32)) (must_ok _ (parts.load, at + 16) c c_passed) in
    let in_file : file_at + file_size ≤ length bytes = leb-true _ _ (must_ok _ (parts.load, at + 8) a a_passed) in
    let sizes : file_size ≤ size = leb-true _ _ (must_ok _ (parts.load, at + 32) b b_passed) in
    let low : vaddr + size < 2 ^ 32 = ltb-true _ _ places.1 in
    let behind : end ≤ vaddr = leb-true _ _ places.0 in
    subst (λ (load : Load). IsWhole bytes load × (end ≤ load.vaddr)) (same_read _ load e3)
    (record { in_file = in_file; sizes = sizes; low = low }, behind))))

-- an element of a list with one more: it was there before, or it is the last
pushed : {X : Type 0} (xs : List X) (x y : X) (k : ℕ) → slice_get (xs ++ x ∷ []) k ≡ Some y → (slice_get xs k ≡ Some y) ⊎ ((k ≡ length xs) × (x ≡ y))
pushed [] x y zero e = inr (refl, same_Some x y e)
pushed [] x y (suc k) e = absurd (none-some y e)
pushed (z ∷ xs) x y zero e = inl e
pushed (z ∷ xs) x y (suc k) e = elim (pushed xs x y k e) [ inl before ↦ inl before | inr last ↦ inr (ap suc last.0, last.1) ]

last_end_pushed : (loads : List Load) (load : Load) → last_end (loads ++ load ∷ []) ≡ end_of load
last_end_pushed [] load = refl
last_end_pushed (first ∷ []) load = refl
last_end_pushed (first ∷ next ∷ more) load = last_end_pushed (next ∷ more) load

-- loads by their places, with the end of the last after the ends of all
record Ascend (bytes : List ℕ) (loads : List Load) : Type 0 where
  pub whole : (k : ℕ) (load : Load) → slice_get loads k ≡ Some load → IsWhole bytes load
  pub below_last : (k : ℕ) (load : Load) → slice_get loads k ≡ Some load → end_of load ≤ last_end loads
  pub apart : (k later : ℕ) (one other : Load) → k < later → slice_get loads k ≡ Some one → slice_get loads later ≡ Some other → end_of one ≤ other.vaddr

no_loads : (bytes : List ℕ) → Ascend bytes []
no_loads bytes = record {
  whole = λ k load e. absurd (none-some load e);
  below_last = λ k load e. absurd (none-some load e);
  apart = λ k later one other h e f. absurd (none-some one e);
}

one_more : (bytes : List ℕ) (before : List Load) (load : Load) → Ascend bytes before → IsWhole bytes load → last_end before ≤ load.vaddr → Ascend bytes (before ++ load ∷ [])
one_more bytes before load all whole behind = record {
  whole = λ k x e.
      elim (pushed before load x k e) [
        | inl old ↦ all.whole k x old
        | inr last ↦ subst (λ (x : Load). IsWhole bytes x) last.1 whole
      ];
  below_last = λ k x e.
      rw (last_end_pushed before load)
      elim (pushed before load x k e) [
        | inl old ↦ (let below : end_of x ≤ last_end before = all.below_last k x old in omega arith)
        | inr last ↦ subst (λ (x : Load). end_of x ≤ end_of load) last.1 (omega arith)
      ];
  apart = λ k later one other h e f.
      elim (pushed before load other later f) [
        | inl old ↦ (elim (pushed before load one k e) [
          | inl first ↦ all.apart k later one other h first old
          | inr last ↦ (let within : later < length before = slice_get_within before later other old in absurd (omega (arith, last.0)))
        ])
        | inr last ↦ (elim (pushed before load one k e) [
          | inl first ↦ (let below : end_of one ≤ last_end before = all.below_last k one first in
              subst (λ (other : Load). end_of one ≤ other.vaddr) last.1 (omega arith))
          | inr same ↦ absurd (omega (arith, last.0, same.0))
        ])
      ];
}

-- the loads with that of one more header, if it is of a load
chosen_load : (bytes : List ℕ) (before after : List Load) (at : ℕ) (is_load : Bool) → Ascend bytes before → (if is_load then (load_at bytes (last_end before) at >>= λ load. Ok (before ++ load ∷ [])) else Ok before) ≡ Ok after → Ascend bytes after
chosen_load bytes before after at false all e = subst (Ascend bytes) (same_read before after e) all
chosen_load bytes before after at true all e =
    bind_then (load_at bytes (last_end before) at) _ after e (λ load read e1.
    let own = load_read bytes (last_end before) at load read in
    subst (Ascend bytes) (same_read _ after e1) (one_more bytes before load all own.0 own.1))

loads_ascend : (bytes : List ℕ) (start n : ℕ) (all : List Load) → loads bytes start n ≡ Ok all → Ascend bytes all
unfolding loads and_load
loads_ascend bytes start zero all e = subst (Ascend bytes) (same_read [] all e) (no_loads bytes)
loads_ascend bytes start (suc n) all e =
    bind_then (loads bytes start n) _ all e (λ before read e1.
    chosen_load bytes before all (start + 56 * n) (is_of_type pt_load bytes (start + 56 * n)) (loads_ascend bytes start n before read) e1)

-- where a library's loads were read
record LoadsOf (bytes : List ℕ) (l : Library) : Type 0 where
  pub start : ℕ
  pub count : ℕ
  pub headers : program_headers bytes ≡ Ok (start, count)
  pub read : loads bytes start count ≡ Ok l.loads

loads_of : (bytes : List ℕ) (l : Library) → library bytes ≡ Ok l → LoadsOf bytes l
unfolding library
loads_of bytes l e =
    bind_then (identified bytes) _ l e (λ ident _ e1.
    bind_then (program_headers bytes) _ l e1 (λ headers headers_read e2.
    bind_then (loads bytes headers.0 headers.1) _ l e2 (λ all loads_read e3.
    bind_then (without_tls bytes headers.0 headers.1) _ l e3 (λ tls _ e4.
    bind_then (dynamic_header bytes headers.0 headers.1) _ l e4 (λ dynamic _ e5.
    bind_then (dynamic_table bytes dynamic) _ l e5 (λ table _ e6.
    bind_then (symbols bytes all dynamic table) _ l e6 (λ names _ e7.
    bind_then (relocations bytes all table) _ l e7 (λ entries _ e8.
    let same : all ≡ l.loads = ap (λ (l : Library). l.loads) (same_read _ l e8) in
    record {
      start = headers.0;
      count = headers.1;
      headers = headers_read;
      read = loads_read ∙ ap Ok same;
    }))))))))

pub loads_of_libraries_lie_apart : LoadsOfLibrariesLieApart
loads_of_libraries_lie_apart bytes l e =
    let found = loads_of bytes l e in
    let all = loads_ascend bytes found.start found.count l.loads found.read in
    let place : (load : Load) → (c : Contains l.loads load) → slice_get l.loads c.0 ≡ Some load = λ load c. slice_get-get_or l.loads c.0 load c.1 ∙ ap Some c.2 in
    record {
      in_file = λ load c. (all.whole c.0 load (place load c)).in_file;
      sizes = λ load c. (all.whole c.0 load (place load c)).sizes;
      low = λ load c. (all.whole c.0 load (place load c)).low;
      apart = all.apart;
    }

-- a number that the cut file has whole
le_cut : (n at size : ℕ) (bytes : List ℕ) → at + size ≤ n → le (take n bytes) at size ≡ le bytes at size
unfolding le
le_cut n at size bytes h =
    little_same 0 size (drop at (take n bytes)) (drop at bytes) (λ j _ below.
    get_or-drop at (take n bytes) j 0 ∙ get_or-take n bytes (at + j) 0 (omega arith) ∙ sym (get_or-drop at bytes j 0))

cut_below : (n : ℕ) (bytes : List ℕ) → length (take n bytes) ≤ n
cut_below n bytes = omega (arith, length-take n bytes)

-- the load that a header holds
abbrev load_of : List ℕ → ℕ → Load
load_of bytes at = record {
  at = at;
  file_at = le bytes (at + 8) 8;
  file_size = le bytes (at + 32) 8;
  vaddr = le bytes (at + 16) 8;
  size = le bytes (at + 40) 8;
  readable = has_flag 4 bytes at;
  writable = has_flag 2 bytes at;
  executable = has_flag 1 bytes at;
}

load_is : (bytes : List ℕ) (end at : ℕ) (load : Load) → load_at bytes end at ≡ Ok load → load_of bytes at ≡ load
unfolding load_at
load_is bytes end at load e =
    bind_then (must (nat_le (le bytes (at + 8) 8 + le bytes (at + 32) 8) (length bytes)) (parts.load, at + 8)) _ load e (λ a _ e1.
    bind_then (must (nat_le (le bytes (at + 32) 8) (le bytes (at + 40) 8)) (parts.load, at + 32)) _ load e1 (λ b _ e2.
    bind_then (must (nat_le end (le bytes (at + 16) 8) && nat_lt (le bytes (at + 16) 8 + le bytes (at + 40) 8) (2 ^ 32)) (parts.load, at + 16)) _ load e2 (λ c _ e3.
    same_read _ load e3)))

-- a header that the cut file has whole holds the same load there
load_cut : (n at : ℕ) (bytes : List ℕ) → at + 56 ≤ n → load_of (take n bytes) at ≡ load_of bytes at
load_cut n at bytes h =
    let flags : le (take n bytes) (at + 4) 4 ≡ le bytes (at + 4) 4 = le_cut n (at + 4) 4 bytes (omega arith) in
    let file_at : le (take n bytes) (at + 8) 8 ≡ le bytes (at + 8) 8 = le_cut n (at + 8) 8 bytes (omega arith) in
    let vaddr : le (take n bytes) (at + 16) 8 ≡ le bytes (at + 16) 8 = le_cut n (at + 16) 8 bytes (omega arith) in
    let file_size : le (take n bytes) (at + 32) 8 ≡ le bytes (at + 32) 8 = le_cut n (at + 32) 8 bytes (omega arith) in
    let size : le (take n bytes) (at + 40) 8 ≡ le bytes (at + 40) 8 = le_cut n (at + 40) 8 bytes (omega arith) in
    rw (flags, file_at, vaddr, file_size, size) refl

abbrev with_load : List ℕ → List Load → ℕ → Bool → Result (List Load) Broken
with_load bytes before at is_load = if is_load then (load_at bytes (last_end before) at >>= λ load. Ok (before ++ load ∷ [])) else Ok before

-- the same loads with the same header
chosen_cut : (n at : ℕ) (bytes : List ℕ) (before some all : List Load) (is_load : Bool) → at + 56 ≤ n → with_load (take n bytes) before at is_load ≡ Ok some → with_load bytes before at is_load ≡ Ok all → some ≡ all
chosen_cut n at bytes before some all false h e f = sym (same_read before some e) ∙ same_read before all f
chosen_cut n at bytes before some all true h e f =
    bind_then (load_at (take n bytes) (last_end before) at) _ some e (λ one one_read e1.
    bind_then (load_at bytes (last_end before) at) _ all f (λ other other_read f1.
    let same : one ≡ other = sym (load_is (take n bytes) (last_end before) at one one_read) ∙ load_cut n at bytes h ∙ load_is bytes (last_end before) at other other_read in
    sym (same_read _ some e1) ∙ ap (λ (load : Load). before ++ load ∷ []) same ∙ same_read _ all f1))

type_cut : (n at : ℕ) (bytes : List ℕ) → at + 56 ≤ n → is_of_type pt_load (take n bytes) at ≡ is_of_type pt_load bytes at
type_cut n at bytes h = ap (λ (type : ℕ). type == pt_load) (le_cut n at 4 bytes (omega arith))

-- headers that the cut file has whole hold the same loads there
loads_cut : (n start count : ℕ) (bytes : List ℕ) (some all : List Load) → ((k : ℕ) → k < count → start + 56 * k + 56 ≤ n) → loads (take n bytes) start count ≡ Ok some → loads bytes start count ≡ Ok all → some ≡ all
unfolding loads and_load
loads_cut n start zero bytes some all h e f = sym (same_read [] some e) ∙ same_read [] all f
loads_cut n start (suc count) bytes some all h e f =
    bind_then (loads (take n bytes) start count) _ some e (λ less less_read e1.
    bind_then (loads bytes start count) _ all f (λ before before_read f1.
    let at : ℕ = start + 56 * count in
    let reach : at + 56 ≤ n = h count (omega arith) in
    let same : less ≡ before = loads_cut n start count bytes less before (λ k below. h k (omega arith)) less_read before_read in
    let type : is_of_type pt_load (take n bytes) at ≡ is_of_type pt_load bytes at = type_cut n at bytes reach in
    let here : with_load (take n bytes) before at (is_of_type pt_load bytes at) ≡ Ok some =
    subst (λ (is_load : Bool). with_load (take n bytes) before at is_load ≡ Ok some) type
    (subst (λ (less : List Load). with_load (take n bytes) less at (is_of_type pt_load (take n bytes) at) ≡ Ok some) same e1) in
    chosen_cut n at bytes before some all (is_of_type pt_load bytes at) reach here f1))

-- where the program headers of a file stand, and that it has all of them
record HeadersAt (bytes : List ℕ) (start count : ℕ) : Type 0 where
  pub fields : 58 ≤ length bytes
  pub start_is : le bytes 32 8 ≡ start
  pub count_is : le bytes 56 2 ≡ count
  pub reach : (k : ℕ) → k < count → start + 56 * k + 56 ≤ length bytes

within_file : (start count size : ℕ) → (count == 0 || nat_le (start + 56 * count) size) ≡ true → (k : ℕ) → k < count → start + 56 * k + 56 ≤ size
within_file start count size e k h =
    elim (or_cases (count == 0) (nat_le (start + 56 * count) size) e) [
      | inl none ↦ (let zero_count : count ≡ 0 = eqb-true count 0 none in absurd (omega arith))
      | inr within ↦ (let reach : start + 56 * count ≤ size = leb-true _ size within in omega arith)
    ]

headers_at : (bytes : List ℕ) (start count : ℕ) → program_headers bytes ≡ Ok (start, count) → HeadersAt bytes start count
unfolding program_headers
headers_at bytes start count e =
    bind_then (field_where (λ size. size == 56) parts.program_headers bytes 54 2) _ (start, count) e (λ size size_read e1.
    bind_then (field parts.program_headers bytes 56 2) _ (start, count) e1 (λ n n_read e2.
    bind_then (must (n == 0 || nat_le (le bytes 32 8 + 56 * n) (length bytes)) (parts.program_headers, 32)) _ (start, count) e2 (λ passed must_read e3.
    let there = field_ok parts.program_headers bytes 56 2 n n_read in
    let pair = same_read _ (start, count) e3 in
    let first : le bytes 32 8 ≡ start = ap (λ (x : ℕ × ℕ). x.0) pair in
    let second : n ≡ count = ap (λ (x : ℕ × ℕ). x.1) pair in
    let inside = within_file (le bytes 32 8) n (length bytes) (must_ok _ (parts.program_headers, 32) passed must_read) in
    record {
      fields = there.0;
      start_is = first;
      count_is = there.1 ∙ second;
      reach = λ k h. let there : le bytes 32 8 + 56 * k + 56 ≤ length bytes = inside k (omega arith) in omega arith;
    })))

-- a cut file that is read has the headers of the whole one, and so its loads
same_loads : (n : ℕ) (bytes : List ℕ) (whole cut : Library) → library bytes ≡ Ok whole → library (take n bytes) ≡ Ok cut → cut.loads ≡ whole.loads
same_loads n bytes whole cut e f =
    let of_whole = loads_of bytes whole e in
    let of_cut = loads_of (take n bytes) cut f in
    let there = headers_at bytes of_whole.start of_whole.count of_whole.headers in
    let here = headers_at (take n bytes) of_cut.start of_cut.count of_cut.headers in
    let below = cut_below n bytes in
    let far : 58 ≤ n = omega (arith, here.fields) in
    let start : of_cut.start ≡ of_whole.start = sym here.start_is ∙ le_cut n 32 8 bytes (omega arith) ∙ there.start_is in
    let count : of_cut.count ≡ of_whole.count = sym here.count_is ∙ le_cut n 56 2 bytes (omega arith) ∙ there.count_is in
    let read : loads (take n bytes) of_whole.start of_whole.count ≡ Ok cut.loads = rw (← start, ← count) of_cut.read in
    loads_cut n of_whole.start of_whole.count bytes cut.loads whole.loads
    (λ k h. let inside = here.reach k (omega arith) in omega arith)
    read of_whole.read

pub cut_libraries_are_refused : CutLibrariesAreRefused
cut_libraries_are_refused bytes l load n e c h =
    elim (read_or_refused (library (take n bytes))) [
      | inl read ↦ (let same : l.loads ≡ read.0.loads = sym (same_loads n bytes l read.0 e read.1) in
          let there : Contains read.0.loads load = subst (λ (loads : List Load). Contains loads load) same c in
          let inside : load.file_at + load.file_size ≤ length (take n bytes) = (loads_of_libraries_lie_apart (take n bytes) read.0 read.1).in_file load there in
          absurd (omega (arith, cut_below n bytes)))
      | inr refused ↦ rw (refused.1) refl
    ]
