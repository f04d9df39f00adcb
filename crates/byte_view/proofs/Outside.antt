-- What stands outside the headers, the dynamic section and the loads of a library isn't read.
use Rattle.std.proofs.Common.{◌≡◌, ℕ, zero, suc, ◌+◌, ◌-◌, ◌*◌, ◌/◌, ◌<◌, ◌≤◌, Bool, true, false, cond, not, List, [], ◌∷◌, length, min, max, take, drop, map, find, Option, None, Some, Result, Ok, Err, refl, sym, ap, ◌∙◌, subst, arith}
use Rattle.std.specs.Prelude.{if◌then◌else◌, nat_le, ◌==◌, slice_range, option_map, Contains}
use Rattle.std.specs.List.{range_with_len, fold}
use Rattle.std.specs.Option.{ok_or}
use Rattle.std.proofs.lemmas.Bool.{leb-true, eqb-true, and_parts}
use Rattle.std.proofs.lemmas.List.{drop-drop, drop-take}
use Rattle.std.proofs.lemmas.Option.{none-some, same_Some}
use Rattle.byte_view.specs.Numbers.{le}
use Rattle.byte_view.specs.Reading.{Broken, must}
use Rattle.byte_view.specs.ElfParts as parts
use Rattle.byte_view.specs.ElfLoads.{Load, identified, program_headers, is_of_type, pt_load, pt_tls, pt_dynamic, load_at, last_end, and_load, loads, without_tls, holds_range, file_place_in, file_place, bytes_from}
use Rattle.byte_view.specs.ElfSymbols.{table_place, words_at, hash_count, behind_chain, behind_buckets, gnu_hash_count, count_by, symbol_at, symbols_of, symbols}
use Rattle.byte_view.specs.ElfRelocations.{relocation_at, relocation_table, relocations}
use Rattle.byte_view.specs.ElfDynamic.{Entry, entry_of, value_of, dt_hash, dt_gnu_hash, dt_symtab, dt_strtab, dt_rela, dt_relasz, dt_jmprel, dt_pltrelsz, and_dynamic, dynamic_among, dynamic_header, entry_at, entry_count, entries, dynamic_table}
use Rattle.byte_view.specs.Library.{library}
use Rattle.byte_view.specs.ElfLaws.{SameIn, OutsideIsNotRead}
use Rattle.byte_view.proofs.Reading.{bind_same, bind_then, same_read, each_same, listed_same, ok_or_ok}
use Rattle.byte_view.proofs.Agreeing.{map_same}
use Rattle.byte_view.proofs.Heads.{AgreeIn, agree_in, le_in, field_in, field_where_in}

-- ---- headers

identified_same : (a b : List ℕ) → AgreeIn 0 64 a b → identified a ≡ identified b
unfolding identified
identified_same a b same =
    bind_same _ _ _ _ (field_where_in (λ magic. magic == 0x464C457F) 0 64 parts.ident 0 4 a b same (omega arith) (omega arith)) (λ _ _.
    bind_same _ _ _ _ (field_where_in (λ class. class == 2) 0 64 parts.ident 4 1 a b same (omega arith) (omega arith)) (λ _ _.
    bind_same _ _ _ _ (field_where_in (λ order. order == 1) 0 64 parts.ident 5 1 a b same (omega arith) (omega arith)) (λ _ _.
    bind_same _ _ _ _ (field_where_in (λ version. version == 1) 0 64 parts.ident 6 1 a b same (omega arith) (omega arith)) (λ _ _.
    bind_same _ _ _ _ (field_where_in (λ kind. kind == 3) 0 64 parts.file_type 16 2 a b same (omega arith) (omega arith)) (λ _ _.
    bind_same _ _ _ _ (field_where_in (λ machine. machine == 243) 0 64 parts.machine 18 2 a b same (omega arith) (omega arith)) (λ _ _.
    field_where_in _ 0 64 parts.flags 48 4 a b same (omega arith) (omega arith)))))))

program_headers_same : (a b : List ℕ) → AgreeIn 0 64 a b → program_headers a ≡ program_headers b
unfolding program_headers
program_headers_same a b same =
    bind_same _ _ _ _ (field_where_in (λ size. size == 56) 0 64 parts.program_headers 54 2 a b same (omega arith) (omega arith)) (λ _ _.
    bind_same _ _ _ _ (field_in 0 64 parts.program_headers 56 2 a b same (omega arith) (omega arith)) (λ count _.
    let start : le a 32 8 ≡ le b 32 8 = le_in 0 64 32 8 a b same (omega arith) (omega arith) in
    rw (start, same.size)))

load_same : (from to end at : ℕ) (a b : List ℕ) → AgreeIn from to a b → from ≤ at → at + 56 ≤ to → load_at a end at ≡ load_at b end at
unfolding load_at
load_same from to end at a b same l u =
    let flags : le a (at + 4) 4 ≡ le b (at + 4) 4 = le_in from to (at + 4) 4 a b same (omega arith) (omega arith) in
    let file_at : le a (at + 8) 8 ≡ le b (at + 8) 8 = le_in from to (at + 8) 8 a b same (omega arith) (omega arith) in
    let vaddr : le a (at + 16) 8 ≡ le b (at + 16) 8 = le_in from to (at + 16) 8 a b same (omega arith) (omega arith) in
    let file_size : le a (at + 32) 8 ≡ le b (at + 32) 8 = le_in from to (at + 32) 8 a b same (omega arith) (omega arith) in
    let size : le a (at + 40) 8 ≡ le b (at + 40) 8 = le_in from to (at + 40) 8 a b same (omega arith) (omega arith) in
    rw (flags, file_at, vaddr, file_size, size, same.size) refl

type_same : (type from to at : ℕ) (a b : List ℕ) → AgreeIn from to a b → from ≤ at → at + 56 ≤ to → is_of_type type a at ≡ is_of_type type b at
type_same type from to at a b same l u = ap (λ n. n == type) (le_in from to at 4 a b same l (omega arith))

loads_same : (start count n : ℕ) (a b : List ℕ) → AgreeIn start (start + 56 * count) a b → n ≤ count → loads a start n ≡ loads b start n
unfolding loads and_load
loads_same start count zero a b same h = refl
loads_same start count (suc n) a b same h =
    let at = start + 56 * n in
    bind_same _ _ _ _ (loads_same start count n a b same (omega arith)) (λ before _.
    let type : is_of_type pt_load a at ≡ is_of_type pt_load b at = type_same pt_load start (start + 56 * count) at a b same (omega arith) (omega arith) in
    let load : load_at a (last_end before) at ≡ load_at b (last_end before) at = load_same start (start + 56 * count) (last_end before) at a b same (omega arith) (omega arith) in
    rw (type, load) refl)

tls_same : (start count : ℕ) (a b : List ℕ) → AgreeIn start (start + 56 * count) a b → without_tls a start count ≡ without_tls b start count
tls_same start count a b same =
    each_same _ _ count (λ n h. ap (λ found. must (not found) (parts.tls, start + 56 * n)) (type_same pt_tls start (start + 56 * count) (start + 56 * n) a b same (omega arith) (omega arith)))

-- ---- the dynamic section

dynamic_next : (start count n : ℕ) (a b : List ℕ) (before : Option ℕ) → AgreeIn start (start + 56 * count) a b → n < count → and_dynamic a before (start + 56 * n) ≡ and_dynamic b before (start + 56 * n)
dynamic_next start count n a b None same h =
    ap (λ found. if found then Ok (Some (start + 56 * n)) else Ok None) (type_same pt_dynamic start (start + 56 * count) (start + 56 * n) a b same (omega arith) (omega arith))
dynamic_next start count n a b (Some before) same h =
    ap (λ found. if found then Err (parts.dynamic, start + 56 * n) else Ok (Some before)) (type_same pt_dynamic start (start + 56 * count) (start + 56 * n) a b same (omega arith) (omega arith))

dynamic_among_same : (start count n : ℕ) (a b : List ℕ) → AgreeIn start (start + 56 * count) a b → n ≤ count → dynamic_among a start n ≡ dynamic_among b start n
unfolding dynamic_among
dynamic_among_same start count zero a b same h = refl
dynamic_among_same start count (suc n) a b same h =
    bind_same _ _ _ _ (dynamic_among_same start count n a b same (omega arith)) (λ before _. dynamic_next start count n a b before same (omega arith))

dynamic_header_same : (start count : ℕ) (a b : List ℕ) → AgreeIn start (start + 56 * count) a b → dynamic_header a start count ≡ dynamic_header b start count
unfolding dynamic_header
dynamic_header_same start count a b same = bind_same _ _ _ _ (dynamic_among_same start count count a b same (omega arith)) (λ _ _. refl)

-- the header of the dynamic section is one of the program headers
record IsAmong (start n at : ℕ) : Type 0 where
  pub k : ℕ
  pub within : k < n
  pub place : at ≡ start + 56 * k

dynamic_here : (start n at : ℕ) (found : Bool) → if◌then◌else◌ {A = Result (Option ℕ) Broken} found (Ok (Some (start + 56 * n))) (Ok None) ≡ Ok (Some at) → IsAmong start (suc n) at
dynamic_here start n at true e = record { k = n; within = omega arith; place = sym (same_Some (start + 56 * n) at (same_read _ _ e)) }
dynamic_here start n at false e = absurd (none-some at (same_read None (Some at) e))

dynamic_earlier : (start n before at : ℕ) (found : Bool) → IsAmong start n before → if◌then◌else◌ {A = Result (Option ℕ) Broken} found (Err (parts.dynamic, start + 56 * n)) (Ok (Some before)) ≡ Ok (Some at) → IsAmong start (suc n) at
dynamic_earlier start n before at true was e = absurd (cc)
dynamic_earlier start n before at false was e =
    let same : before ≡ at = same_Some before at (same_read _ _ e) in
    record { k = was.k; within = omega (arith, was.within); place = sym same ∙ was.place }

dynamic_step : (bytes : List ℕ) (start n at : ℕ) (before : Option ℕ) → ((x : ℕ) → before ≡ Some x → IsAmong start n x) → and_dynamic bytes before (start + 56 * n) ≡ Ok (Some at) → IsAmong start (suc n) at
dynamic_step bytes start n at None was e = dynamic_here start n at (is_of_type pt_dynamic bytes (start + 56 * n)) e
dynamic_step bytes start n at (Some before) was e = dynamic_earlier start n before at (is_of_type pt_dynamic bytes (start + 56 * n)) (was before refl) e

dynamic_found : (bytes : List ℕ) (start n : ℕ) (at : ℕ) → dynamic_among bytes start n ≡ Ok (Some at) → IsAmong start n at
unfolding dynamic_among
dynamic_found bytes start zero at e = absurd (none-some at (same_read None (Some at) e))
dynamic_found bytes start (suc n) at e =
    bind_then (dynamic_among bytes start n) _ (Some at) e (λ before read e1. dynamic_step bytes start n at before (λ x is. dynamic_found bytes start n x (read ∙ ap Ok is)) e1)

header_found : (bytes : List ℕ) (start n at : ℕ) → dynamic_header bytes start n ≡ Ok at → IsAmong start n at
unfolding dynamic_header
header_found bytes start n at e =
    bind_then (dynamic_among bytes start n) _ at e (λ found read e1. dynamic_found bytes start n at (read ∙ ap Ok (ok_or_ok found (parts.dynamic, 32) at e1)))

entries_same : (start count header : ℕ) (a b : List ℕ) → AgreeIn start (start + 56 * count) a b → IsAmong start count header → AgreeIn (le a (header + 8) 8) (le a (header + 8) 8 + le a (header + 32) 8) a b → entries a header ≡ entries b header
unfolding entries entry_count
entries_same start count header a b same among inside =
    let within = among.within in
    let place = among.place in
    let at : le a (header + 8) 8 ≡ le b (header + 8) 8 = le_in start (start + 56 * count) (header + 8) 8 a b same (omega arith) (omega arith) in
    let size : le a (header + 32) 8 ≡ le b (header + 32) 8 = le_in start (start + 56 * count) (header + 32) 8 a b same (omega arith) (omega arith) in
    let first = le a (header + 8) 8 in
    let all = min (le a (header + 32) 8) (length a - first) / 16 in
    let each_same : map (λ k. entry_at a (first + 16 * k)) (range_with_len 0 all) ≡ map (λ k. entry_at b (first + 16 * k)) (range_with_len 0 all) =
    map_same (λ k. entry_at a (first + 16 * k)) (λ k. entry_at b (first + 16 * k)) 0 all (λ k _ h.
    let tag : le a (first + 16 * k) 8 ≡ le b (first + 16 * k) 8 = le_in first (first + le a (header + 32) 8) (first + 16 * k) 8 a b inside (omega arith) (omega arith) in
    let value : le a (first + 16 * k + 8) 8 ≡ le b (first + 16 * k + 8) 8 = le_in first (first + le a (header + 32) 8) (first + 16 * k + 8) 8 a b inside (omega arith) (omega arith) in
    rw (tag, value) refl)
    in
    each_same ∙ rw (at, size, inside.size) refl

table_same : (start count header : ℕ) (a b : List ℕ) → AgreeIn start (start + 56 * count) a b → IsAmong start count header → AgreeIn (le a (header + 8) 8) (le a (header + 8) 8 + le a (header + 32) 8) a b → dynamic_table a header ≡ dynamic_table b header
unfolding dynamic_table
table_same start count header a b same among inside = rw (entries_same start count header a b same among inside) refl

-- ---- loads

-- two files of one length have the same bytes in loads
record SameLoads (a b : List ℕ) (all : List Load) : Type 0 where
  pub size : length a ≡ length b
  pub loads : (load : Load) → Contains all load → SameIn a b load.file_at load.file_size

agree_within : (from to first last : ℕ) (a b : List ℕ) → AgreeIn from to a b → from ≤ first → last ≤ to → AgreeIn first last a b
agree_within from to first last a b same l u = record { bytes = λ k m n. same.bytes k (omega arith) (omega arith); size = same.size }

find_step : (test : Load → Bool) (first : Load) (rest : List Load) (load : Load) (b : Bool) → test first ≡ b → (find test rest ≡ Some load → Contains rest load × (test load ≡ true)) → cond b (Some first) (find test rest) ≡ Some load → Contains (first ∷ rest) load × (test load ≡ true)
find_step test first rest load true is later e =
    let same : first ≡ load = same_Some first load e in
    ((0, omega arith, same), ap test (sym same) ∙ is)
find_step test first rest load false is later e =
    let found = later e in
    ((suc found.0.0, omega (arith, found.0.1), found.0.2), found.1)

find_holds : (test : Load → Bool) (all : List Load) (load : Load) → find test all ≡ Some load → Contains all load × (test load ≡ true)
find_holds test [] load e = absurd (none-some load e)
find_holds test (first ∷ rest) load e = find_step test first rest load (test first) refl (find_holds test rest load) e

-- the load that holds a range
record HeldBy (all : List Load) (addr len : ℕ) (load : Load) : Type 0 where
  pub among : Contains all load
  pub from : load.vaddr ≤ addr
  pub to : addr + len ≤ load.vaddr + load.file_size

held : (all : List Load) (addr len : ℕ) (load : Load) → find (holds_range addr len) all ≡ Some load → HeldBy all addr len load
unfolding holds_range
held all addr len load e =
    let p = find_holds (holds_range addr len) all load e in
    let q = and_parts (nat_le load.vaddr addr) (nat_le (addr + len) (load.vaddr + load.file_size)) p.1 in
    record { among = p.0; from = leb-true _ _ q.0; to = leb-true _ _ q.1 }

agree_in_load : (all : List Load) (addr len : ℕ) (load : Load) (a b : List ℕ) → SameLoads a b all → HeldBy all addr len load → AgreeIn (file_place_in addr load) (file_place_in addr load + len) a b
agree_in_load all addr len load a b same h =
    let from = h.from in
    let to = h.to in
    agree_within load.file_at (load.file_at + load.file_size) (load.file_at + (addr - load.vaddr)) (load.file_at + (addr - load.vaddr) + len) a b (agree_in load.file_at load.file_size a b same.size (same.loads load h.among)) (omega arith) (omega arith)

placed_same : (all : List Load) (addr len at : ℕ) (a b : List ℕ) → SameLoads a b all → file_place all addr len ≡ Some at → AgreeIn at (at + len) a b
unfolding file_place
placed_same all addr len at a b same e = by (find (holds_range addr len) all) refl e
  where
    by : (o : Option Load) → find (holds_range addr len) all ≡ o → option_map (file_place_in addr) o ≡ Some at → AgreeIn at (at + len) a b
    by None is e1 = absurd (none-some at e1)
    by (Some load) is e1 =
        let place : file_place_in addr load ≡ at = same_Some (file_place_in addr load) at e1 in
        subst (λ n. AgreeIn n (n + len) a b) place (agree_in_load all addr len load a b same (held all addr len load is))

tabled_same : (part : ℕ) (all : List Load) (entry : Entry) (addr len at : ℕ) (a b : List ℕ) → SameLoads a b all → table_place part all entry addr len ≡ Ok at → AgreeIn at (at + len) a b
unfolding table_place
tabled_same part all entry addr len at a b same e = by (len == 0) refl e
  where
    otherwise : Result ℕ Broken
    otherwise = ok_or (file_place all addr len) (part, entry.at + 8)

    by : (empty : Bool) → (len == 0) ≡ empty → (if empty then Ok 0 else otherwise) ≡ Ok at → AgreeIn at (at + len) a b
    by true is e1 =
        let none : len ≡ 0 = eqb-true len 0 is in
        record { bytes = λ k l u. absurd (omega (arith, none)); size = same.size }
    by false is e1 = placed_same all addr len at a b same (ok_or_ok (file_place all addr len) (part, entry.at + 8) at e1)

rest_same : (all : List Load) (addr : ℕ) (a b : List ℕ) → SameLoads a b all → bytes_from a all addr ≡ bytes_from b all addr
unfolding bytes_from
rest_same all addr a b same = by (find (holds_range addr 1) all) refl
  where
    by : (o : Option Load) → find (holds_range addr 1) all ≡ o → option_map (λ load. slice_range a (file_place_in addr load) (load.file_at + load.file_size)) o ≡ option_map (λ load. slice_range b (file_place_in addr load) (load.file_at + load.file_size)) o
    by None is = refl
    by (Some load) is =
        let h = held all addr 1 load is in
        let from = h.from in
        let to = h.to in
        let d = addr - load.vaddr in
        let r = load.file_size - d in
        let whole : load.file_size ≡ d + r = omega arith in
        let left : load.file_at + load.file_size - (load.file_at + d) ≡ r = omega arith in
        let part : (xs : List ℕ) → slice_range xs (load.file_at + d) (load.file_at + load.file_size) ≡ drop d (take load.file_size (drop load.file_at xs)) =
        λ xs. ap (λ n. take n (drop (load.file_at + d) xs)) left ∙ ap (take r) (sym (drop-drop d load.file_at xs)) ∙ sym (drop-take d r (drop load.file_at xs)) ∙ ap (λ n. drop d (take n (drop load.file_at xs))) (sym whole)
        in
        ap Some (part a ∙ ap (drop d) (same.loads load h.among) ∙ sym (part b))

-- ---- symbols

words_same : (at count : ℕ) (a b : List ℕ) → AgreeIn at (at + 4 * count) a b → words_at a at count ≡ words_at b at count
words_same at count a b same =
    map_same (λ k. le a (at + 4 * k) 4) (λ k. le b (at + 4 * k) 4) 0 count (λ k _ h. le_in at (at + 4 * count) (at + 4 * k) 4 a b same (omega arith) (omega arith))

hash_count_same : (all : List Load) (entry : Entry) (a b : List ℕ) → SameLoads a b all → hash_count a all entry ≡ hash_count b all entry
unfolding hash_count
hash_count_same all entry a b same =
    bind_same _ _ _ _ refl (λ at placed.
    let here = tabled_same parts.symbols all entry (entry.value + 4) 4 at a b same placed in
    ap Ok (le_in at (at + 4) at 4 a b here (omega arith) (omega arith)))

chain_same : (all : List Load) (entry : Entry) (chains first symbol : ℕ) (a b : List ℕ) → SameLoads a b all → behind_chain a all entry chains first symbol ≡ behind_chain b all entry chains first symbol
unfolding behind_chain
chain_same all entry chains first symbol a b same = rw (rest_same all (chains + 4 * (symbol - first)) a b same) refl

buckets_same : (all : List Load) (entry : Entry) (chains first : ℕ) (starts : List ℕ) (a b : List ℕ) → SameLoads a b all → behind_buckets a all entry chains first starts ≡ behind_buckets b all entry chains first starts
unfolding behind_buckets
buckets_same all entry chains first starts a b same = rw (chain_same all entry chains first (fold max 0 starts) a b same) refl

gnu_hash_count_same : (all : List Load) (entry : Entry) (a b : List ℕ) → SameLoads a b all → gnu_hash_count a all entry ≡ gnu_hash_count b all entry
unfolding gnu_hash_count
gnu_hash_count_same all entry a b same =
    bind_same (table_place parts.symbols all entry entry.value 12) (table_place parts.symbols all entry entry.value 12) _ _ refl (λ at placed.
    let here = tabled_same parts.symbols all entry entry.value 12 at a b same placed in
    let n : le a at 4 ≡ le b at 4 = le_in at (at + 12) at 4 a b here (omega arith) (omega arith) in
    let first : le a (at + 4) 4 ≡ le b (at + 4) 4 = le_in at (at + 12) (at + 4) 4 a b here (omega arith) (omega arith) in
    let filters : le a (at + 8) 4 ≡ le b (at + 8) 4 = le_in at (at + 12) (at + 8) 4 a b here (omega arith) (omega arith) in
    rw (n, first, filters)
    (let count = le b at 4 in
    let buckets = entry.value + 16 + 8 * le b (at + 8) 4 in
    let found : Result ℕ Broken = table_place parts.symbols all entry buckets (4 * count) in
    bind_same found found _ _ refl (λ buckets_at stand.
    let starts : words_at a buckets_at count ≡ words_at b buckets_at count = words_same buckets_at count a b (tabled_same parts.symbols all entry buckets (4 * count) buckets_at a b same stand) in
    rw starts (buckets_same all entry (buckets + 4 * count) (le b (at + 4) 4) (words_at b buckets_at count) a b same))))

count_same : (all : List Load) (hash gnu_hash : Option Entry) (a b : List ℕ) → SameLoads a b all → count_by a all hash gnu_hash ≡ count_by b all hash gnu_hash
count_same all (Some hash) gnu_hash a b same = hash_count_same all hash a b same
count_same all None (Some gnu_hash) a b same = gnu_hash_count_same all gnu_hash a b same
count_same all None None a b same = refl

symbol_same : (all : List Load) (strings at : ℕ) (a b : List ℕ) → SameLoads a b all → AgreeIn at (at + 24) a b → symbol_at a all strings at ≡ symbol_at b all strings at
unfolding symbol_at
symbol_same all strings at a b same here =
    let name : le a at 4 ≡ le b at 4 = le_in at (at + 24) at 4 a b here (omega arith) (omega arith) in
    let info : le a (at + 4) 1 ≡ le b (at + 4) 1 = le_in at (at + 24) (at + 4) 1 a b here (omega arith) (omega arith) in
    let other : le a (at + 5) 1 ≡ le b (at + 5) 1 = le_in at (at + 24) (at + 5) 1 a b here (omega arith) (omega arith) in
    let section : le a (at + 6) 2 ≡ le b (at + 6) 2 = le_in at (at + 24) (at + 6) 2 a b here (omega arith) (omega arith) in
    let value : le a (at + 8) 8 ≡ le b (at + 8) 8 = le_in at (at + 24) (at + 8) 8 a b here (omega arith) (omega arith) in
    rw (name, info, other, section, value, rest_same all (strings + le b at 4) a b same) refl

symbols_of_same : (all : List Load) (header : ℕ) (table : List Entry) (count : ℕ) (a b : List ℕ) → SameLoads a b all → symbols_of a all header table count ≡ symbols_of b all header table count
unfolding symbols_of
symbols_of_same all header table count a b same =
    let symbols_entry : Result Entry Broken = ok_or (entry_of table dt_symtab) (parts.symbols, header + 8) in
    let strings_entry : Result Entry Broken = ok_or (entry_of table dt_strtab) (parts.symbols, header + 8) in
    bind_same symbols_entry symbols_entry _ _ refl (λ symbols _.
    bind_same strings_entry strings_entry _ _ refl (λ strings _.
    let place : Result ℕ Broken = table_place parts.symbols all symbols symbols.value (24 * count) in
    let names : Result ℕ Broken = table_place parts.symbols all strings strings.value 1 in
    bind_same place place _ _ refl (λ at placed.
    let here = tabled_same parts.symbols all symbols symbols.value (24 * count) at a b same placed in
    bind_same names names _ _ refl (λ _ _.
    listed_same _ _ count (λ k h. symbol_same all strings.value (at + 24 * k) a b same (agree_within at (at + 24 * count) (at + 24 * k) (at + 24 * k + 24) a b here (omega arith) (omega arith)))))))

symbols_same : (all : List Load) (header : ℕ) (table : List Entry) (a b : List ℕ) → SameLoads a b all → symbols a all header table ≡ symbols b all header table
unfolding symbols
symbols_same all header table a b same =
    bind_same _ _ _ _ (count_same all (entry_of table dt_hash) (entry_of table dt_gnu_hash) a b same) (λ count _. rw (symbols_of_same all header table count a b same) refl)

-- ---- relocations

relocation_same : (at : ℕ) (a b : List ℕ) → AgreeIn at (at + 24) a b → relocation_at a at ≡ relocation_at b at
relocation_same at a b here =
    let offset : le a at 8 ≡ le b at 8 = le_in at (at + 24) at 8 a b here (omega arith) (omega arith) in
    let info : le a (at + 8) 8 ≡ le b (at + 8) 8 = le_in at (at + 24) (at + 8) 8 a b here (omega arith) (omega arith) in
    let addend : le a (at + 16) 8 ≡ le b (at + 16) 8 = le_in at (at + 24) (at + 16) 8 a b here (omega arith) (omega arith) in
    rw (offset, info, addend) refl

relocation_table_same : (all : List Load) (entry : Option Entry) (size : ℕ) (a b : List ℕ) → SameLoads a b all → relocation_table a all entry size ≡ relocation_table b all entry size
unfolding relocation_table
relocation_table_same all None size a b same = refl
relocation_table_same all (Some entry) size a b same =
    bind_same _ _ _ _ refl (λ at placed.
    let here = tabled_same parts.relocs all entry entry.value size at a b same placed in
    ap Ok (map_same (λ k. relocation_at a (at + 24 * k)) (λ k. relocation_at b (at + 24 * k)) 0 (size / 24) (λ k _ h.
    relocation_same (at + 24 * k) a b (agree_within at (at + size) (at + 24 * k) (at + 24 * k + 24) a b here (omega arith) (omega arith)))))

relocations_same : (all : List Load) (table : List Entry) (a b : List ℕ) → SameLoads a b all → relocations a all table ≡ relocations b all table
unfolding relocations
relocations_same all table a b same =
    bind_same _ _ _ _ (relocation_table_same all (entry_of table dt_rela) (value_of table dt_relasz) a b same) (λ own _.
    bind_same _ _ _ _ (relocation_table_same all (entry_of table dt_jmprel) (value_of table dt_pltrelsz) a b same) (λ jumps _. refl))

-- ---- the whole file

pub outside_is_not_read : OutsideIsNotRead
unfolding library
outside_is_not_read a b start count all same =
    let head : AgreeIn 0 64 a b = agree_in 0 64 a b same.size same.elf_header in
    let headers : AgreeIn start (start + 56 * count) a b = agree_in start (56 * count) a b same.size same.program_headers in
    let loaded : SameLoads a b all = record { size = same.size; loads = same.loads } in
    bind_same _ _ _ _ (identified_same a b head) (λ _ _.
    bind_same (program_headers a) (program_headers b) _ _ (program_headers_same a b head) (λ found read.
    let here : found ≡ (start, count) = same_read found (start, count) (sym read ∙ same.headers) in
    rw here
    (bind_same (loads a start count) (loads b start count) _ _ (loads_same start count count a b headers (omega arith)) (λ own own_read.
    let known : own ≡ all = same_read own all (sym own_read ∙ same.read) in
    rw known
    (bind_same (without_tls a start count) (without_tls b start count) _ _ (tls_same start count a b headers) (λ _ _.
    bind_same (dynamic_header a start count) (dynamic_header b start count) _ _ (dynamic_header_same start count a b headers) (λ dynamic dynamic_read.
    let inside : AgreeIn (le a (dynamic + 8) 8) (le a (dynamic + 8) 8 + le a (dynamic + 32) 8) a b =
    agree_in (le a (dynamic + 8) 8) (le a (dynamic + 32) 8) a b same.size (same.dynamic dynamic dynamic_read) in
    bind_same (dynamic_table a dynamic) (dynamic_table b dynamic) _ _ (table_same start count dynamic a b headers (header_found a start count dynamic dynamic_read) inside) (λ table _.
    bind_same (symbols a all dynamic table) (symbols b all dynamic table) _ _ (symbols_same all dynamic table a b loaded) (λ _ _.
    bind_same (relocations a all table) (relocations b all table) _ _ (relocations_same all table a b loaded) (λ _ _. refl))))))))))
