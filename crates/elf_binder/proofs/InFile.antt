-- The headers and entries of a library that was read stand in its file.
use Rattle.std.proofs.Common.{◌≡◌, ℕ, zero, suc, ◌+◌, ◌-◌, ◌*◌, ◌/◌, ◌^◌, ◌<◌, ◌≤◌, ◌⊎◌, Bool, true, false, cond, List, [], ◌∷◌, ◌++◌, length, take, map, Option, Some, None, Result, Ok, refl, sym, ap, subst, inl, inr, arith}
use Rattle.std.specs.Prelude.{if◌then◌else◌, nat_le, nat_lt, ◌==◌, ◌||◌, ◌&&◌, slice_get, Contains, find, option_map}
use Rattle.std.specs.List.{range_with_len, before_first}
use Rattle.std.specs.Option.{ok_or}
use Rattle.std.proofs.lemmas.Bool.{leb-true, eqb-true, and_parts, or_cases}
use Rattle.byte_view.specs.Numbers.{le}
use Rattle.byte_view.specs.Reading.{Broken, ◌>>=◌, must, field, field_where}
use Rattle.byte_view.specs.ElfParts as parts
use Rattle.byte_view.specs.ElfLoads.{Load, identified, program_headers, is_of_type, pt_load, load_at, last_end, and_load, loads, without_tls, holds_range, file_place_in, file_place}
use Rattle.byte_view.specs.ElfDynamic.{Entry, dynamic_header, dynamic_table, entry_count, entries, entry_at, is_end, check_entries, entry_of, value_of, dt_rela, dt_relasz, dt_jmprel, dt_pltrelsz, dt_init_array, dt_init_arraysz}
use Rattle.byte_view.specs.ElfSymbols.{symbols, table_place}
use Rattle.byte_view.specs.ElfRelocations.{Relocation, relocation_at, relocation_table, relocations}
use Rattle.byte_view.specs.Library.{Library, InitArray, init_array_of, library}
use Rattle.byte_view.proofs.Loads.{loads_of_libraries_lie_apart}
use Rattle.byte_view.proofs.Reading.{bind_then, same_read, must_ok, ok_or_ok}

-- a fact of each element
abbrev pub Each : {A : Type 0} → (A → Type 0) → List A → Type 0
Each P [] = Unit {0}
Each P (x ∷ xs) = P x × Each P xs

pub each_at : {A : Type 0} (P : A → Type 0) (xs : List A) (k : ℕ) (x : A) → Each P xs → slice_get xs k ≡ Some x → P x
each_at P [] k x all is = absurd (cc)
each_at P (y ∷ ys) zero x all is = subst P (cc) all.0
each_at P (y ∷ ys) (suc k) x all is = each_at P ys k x all.1 is

each_append : {A : Type 0} (P : A → Type 0) (xs ys : List A) → Each P xs → Each P ys → Each P (xs ++ ys)
each_append P [] ys all more = more
each_append P (x ∷ xs) ys all more = (all.0, each_append P xs ys all.1 more)

each_mapped : {A : Type 0} (P : A → Type 0) (f : ℕ → A) (a n : ℕ) → ((k : ℕ) → k < a + n → P (f k)) → Each P (map f (range_with_len a n))
each_mapped P f a zero h = tt
each_mapped P f a (suc n) h = (h a (omega arith), each_mapped P f (a + 1) n (λ k below. h k (omega arith)))

each_taken : {A : Type 0} (P : A → Type 0) (n : ℕ) (xs : List A) → Each P xs → Each P (take n xs)
each_taken P zero xs all = tt
each_taken P (suc n) [] all = tt
each_taken P (suc n) (x ∷ xs) all = (all.0, each_taken P n xs all.1)

pub each_contained : {A : Type 0} (P : A → Type 0) (xs : List A) → ((x : A) → Contains xs x → P x) → Each P xs
each_contained P [] all = tt
each_contained P (x ∷ xs) all = (all x (0, omega arith, refl), each_contained P xs (λ y c. all y (suc c.0, omega (arith, c.1), c.2)))

found_if : {A : Type 0} (P : A → Type 0) (passes : Bool) (x y : A) (rest : Option A) → P x → cond passes (Some x) rest ≡ Some y → (rest ≡ Some y → P y) → P y
found_if P true x y rest here is more = subst P (cc) here
found_if P false x y rest here is more = more is

each_found : {A : Type 0} (P : A → Type 0) (test : A → Bool) (xs : List A) (x : A) → Each P xs → find test xs ≡ Some x → P x
each_found P test [] x all is = absurd (cc)
each_found P test (y ∷ ys) x all is = found_if P (test y) y x (find test ys) all.0 is (λ more. each_found P test ys x all.1 more)

passes_if : {A : Type 0} (passes : Bool) (test : A → Bool) (x y : A) (rest : Option A) → test x ≡ passes → cond passes (Some x) rest ≡ Some y → (rest ≡ Some y → test y ≡ true) → test y ≡ true
passes_if true test x y rest passed is more = let same : x ≡ y = cc in rw (← same) passed
passes_if false test x y rest passed is more = more is

find_passes : {A : Type 0} (test : A → Bool) (xs : List A) (x : A) → find test xs ≡ Some x → test x ≡ true
find_passes test [] x is = absurd (cc)
find_passes test (y ∷ ys) x is = passes_if (test y) test y x (find test ys) refl is (find_passes test ys x)

-- ---- loads

abbrev EndBy : ℕ → Load → Type 0
EndBy end load = load.at + 56 ≤ end

later : (a b : ℕ) (all : List Load) → a ≤ b → Each (EndBy a) all → Each (EndBy b) all
later a b [] h all = tt
later a b (load ∷ more) h all = (omega (arith, all.0), later a b more h all.1)

load_stands : (bytes : List ℕ) (end at : ℕ) (load : Load) → load_at bytes end at ≡ Ok load → load.at ≡ at
unfolding load_at
load_stands bytes end at load e =
    bind_then (must {R = Broken} (nat_le (le bytes (at + 8) 8 + le bytes (at + 32) 8) (length bytes)) (parts.load, at + 8)) _ load e (λ a _ e1.
    bind_then (must {R = Broken} (nat_le (le bytes (at + 32) 8) (le bytes (at + 40) 8)) (parts.load, at + 32)) _ load e1 (λ b _ e2.
    bind_then (must {R = Broken} (nat_le end (le bytes (at + 16) 8) && nat_lt (le bytes (at + 16) 8 + le bytes (at + 40) 8) (2 ^ 32)) (parts.load, at + 16)) _ load e2 (λ c _ e3.
    sym (ap (λ (load : Load). load.at) (same_read _ load e3)))))

one_more : (bytes : List ℕ) (before after : List Load) (at end : ℕ) (is_load : Bool) → Each (EndBy at) before → at + 56 ≤ end
    → (if is_load then (load_at bytes (last_end before) at >>= λ load. Ok (before ++ load ∷ [])) else Ok before) ≡ Ok after → Each (EndBy end) after
one_more bytes before after at end false all h e = subst (Each (EndBy end)) (same_read before after e) (later at end before (omega arith) all)
one_more bytes before after at end true all h e =
    bind_then (load_at bytes (last_end before) at) _ after e (λ load read e1.
    let here : load.at + 56 ≤ end = omega (arith, load_stands bytes (last_end before) at load read) in
    subst (Each (EndBy end)) (same_read _ after e1) (each_append (EndBy end) before (load ∷ []) (later at end before (omega arith) all) (here, tt)))

loads_end : (bytes : List ℕ) (start n : ℕ) (all : List Load) → loads bytes start n ≡ Ok all → Each (EndBy (start + 56 * n)) all
unfolding loads and_load
loads_end bytes start zero all e = subst (Each (EndBy (start + 0))) (same_read [] all e) tt
loads_end bytes start (suc n) all e =
    bind_then (loads bytes start n) _ all e (λ before read e1.
    one_more bytes before all (start + 56 * n) (start + 56 * suc n) (is_of_type pt_load bytes (start + 56 * n)) (loads_end bytes start n before read) (omega arith) e1)

within_file : (start count size : ℕ) (all : List Load) → (count == 0 || nat_le (start + 56 * count) size) ≡ true → (count ≡ 0 → all ≡ []) → Each (EndBy (start + 56 * count)) all → Each (EndBy size) all
within_file start count size all e none ends =
    elim (or_cases (count == 0) (nat_le (start + 56 * count) size) e) [
      | inl zero_count ↦ subst (Each (EndBy size)) (sym (none (eqb-true count 0 zero_count))) tt
      | inr within ↦ later (start + 56 * count) size all (leb-true _ size within) ends
    ]

no_loads : (bytes : List ℕ) (start n : ℕ) (all : List Load) → loads bytes start n ≡ Ok all → n ≡ 0 → all ≡ []
unfolding loads
no_loads bytes start zero all e none = sym (same_read [] all e)
no_loads bytes start (suc n) all e none = absurd (omega arith)

loads_in_file : (bytes : List ℕ) (headers : ℕ × ℕ) (all : List Load) → program_headers bytes ≡ Ok headers → loads bytes headers.0 headers.1 ≡ Ok all → Each (EndBy (length bytes)) all
unfolding program_headers
loads_in_file bytes headers all e read =
    bind_then (field_where (λ size. size == 56) parts.program_headers bytes 54 2) _ headers e (λ size size_read e1.
    bind_then (field parts.program_headers bytes 56 2) _ headers e1 (λ n n_read e2.
    bind_then (must {R = Broken} (n == 0 || nat_le (le bytes 32 8 + 56 * n) (length bytes)) (parts.program_headers, 32)) _ headers e2 (λ passed must_read e3.
    let pair : ◌≡◌ {A = ℕ × ℕ} (le bytes 32 8, n) headers = same_read _ headers e3 in
    let here : loads bytes (le bytes 32 8) n ≡ Ok all = rw (ap (λ (x : ℕ × ℕ). x.0) pair, ap (λ (x : ℕ × ℕ). x.1) pair) read in
    within_file (le bytes 32 8) n (length bytes) all (must_ok _ (parts.program_headers, 32) passed must_read)
    (no_loads bytes (le bytes 32 8) n all here) (loads_end bytes (le bytes 32 8) n all here))))

-- ---- relocations

abbrev EntryIn : ℕ → Relocation → Type 0
EntryIn end r = r.at + 24 ≤ end

found_place : (bytes : List ℕ) (all : List Load) (addr len at : ℕ) (found : Option Load) → Each (λ load. load.file_at + load.file_size ≤ length bytes) all
    → find (holds_range addr len) all ≡ found → option_map (file_place_in addr) found ≡ Some at → at + len ≤ length bytes
unfolding holds_range
found_place bytes all addr len at None whole is e = absurd (cc)
found_place bytes all addr len at (Some load) whole is e =
    let inside : load.file_at + load.file_size ≤ length bytes = each_found (λ load. load.file_at + load.file_size ≤ length bytes) (holds_range addr len) all load whole is in
    let holds : (nat_le load.vaddr addr && nat_le (addr + len) (load.vaddr + load.file_size)) ≡ true = find_passes (holds_range addr len) all load is in
    let bounds = and_parts (nat_le load.vaddr addr) (nat_le (addr + len) (load.vaddr + load.file_size)) holds in
    let low : load.vaddr ≤ addr = leb-true _ _ bounds.0 in
    let high : addr + len ≤ load.vaddr + load.file_size = leb-true _ _ bounds.1 in
    let here : load.file_at + (addr - load.vaddr) ≡ at = cc in
    omega arith

-- a place that a load gives stands in the file with all that is asked for
place_in_file : (bytes : List ℕ) (all : List Load) (addr len at : ℕ) → Each (λ load. load.file_at + load.file_size ≤ length bytes) all → file_place all addr len ≡ Some at → at + len ≤ length bytes
unfolding file_place
place_in_file bytes all addr len at whole e = found_place bytes all addr len at (find (holds_range addr len) all) whole refl e

abbrev table_at : Bool → List Load → Entry → ℕ → Result ℕ Broken
table_at empty all entry size = if empty then Ok 0 else ok_or (file_place all entry.value size) (parts.relocs, entry.at + 8)

table_if : (empty : Bool) (bytes : List ℕ) (all : List Load) (entry : Entry) (size at : ℕ) → Each (λ load. load.file_at + load.file_size ≤ length bytes) all → (size == 0) ≡ empty
    → table_at empty all entry size ≡ Ok at → (size ≡ 0) ⊎ (at + size ≤ length bytes)
table_if true bytes all entry size at whole is e = inl (eqb-true size 0 is)
table_if false bytes all entry size at whole is e = inr (place_in_file bytes all entry.value size at whole (ok_or_ok (file_place all entry.value size) (parts.relocs, entry.at + 8) at e))

table_in_file : (bytes : List ℕ) (all : List Load) (entry : Entry) (size at : ℕ) → Each (λ load. load.file_at + load.file_size ≤ length bytes) all
    → table_place parts.relocs all entry entry.value size ≡ Ok at → (size ≡ 0) ⊎ (at + size ≤ length bytes)
unfolding table_place
table_in_file bytes all entry size at whole e = table_if (size == 0) bytes all entry size at whole refl e

entries_of_table : (bytes : List ℕ) (at size : ℕ) → ((size ≡ 0) ⊎ (at + size ≤ length bytes)) → Each (EntryIn (length bytes)) (map (λ k. relocation_at bytes (at + 24 * k)) (range_with_len 0 (size / 24)))
entries_of_table bytes at size within =
    each_mapped (EntryIn (length bytes)) (λ k. relocation_at bytes (at + 24 * k)) 0 (size / 24) (λ k below.
    let more : k < size / 24 = omega (arith, below) in
    elim within [
      | inl none ↦ absurd (omega (arith, none, more))
      | inr inside ↦ omega (arith, inside, more)
    ])

table_ends : (bytes : List ℕ) (all : List Load) (entry : Option Entry) (size : ℕ) (some : List Relocation) → Each (λ load. load.file_at + load.file_size ≤ length bytes) all
    → relocation_table bytes all entry size ≡ Ok some → Each (EntryIn (length bytes)) some
unfolding relocation_table
table_ends bytes all None size some whole e = subst (Each (EntryIn (length bytes))) (same_read [] some e) tt
table_ends bytes all (Some entry) size some whole e =
    bind_then (table_place parts.relocs all entry entry.value size) _ some e (λ at read e1.
    subst (Each (EntryIn (length bytes))) (same_read _ some e1) (entries_of_table bytes at size (table_in_file bytes all entry size at whole read)))

relocations_in_file : (bytes : List ℕ) (all : List Load) (table : List Entry) (some : List Relocation) → Each (λ load. load.file_at + load.file_size ≤ length bytes) all
    → relocations bytes all table ≡ Ok some → Each (EntryIn (length bytes)) some
unfolding relocations
relocations_in_file bytes all table some whole e =
    bind_then (relocation_table bytes all (entry_of table dt_rela) (value_of table dt_relasz)) _ some e (λ own own_read e1.
    bind_then (relocation_table bytes all (entry_of table dt_jmprel) (value_of table dt_pltrelsz)) _ some e1 (λ jumps jumps_read e2.
    subst (Each (EntryIn (length bytes))) (same_read _ some e2)
    (each_append (EntryIn (length bytes)) own jumps (table_ends bytes all (entry_of table dt_rela) (value_of table dt_relasz) own whole own_read)
    (table_ends bytes all (entry_of table dt_jmprel) (value_of table dt_pltrelsz) jumps whole jumps_read))))

-- ---- the dynamic table

abbrev TagIn : ℕ → Entry → Type 0
TagIn end entry = entry.at + 16 ≤ end

entry_ends : (bytes : List ℕ) (header k : ℕ) → k < entry_count bytes header → le bytes (header + 8) 8 + 16 * k + 16 ≤ length bytes
unfolding entry_count
entry_ends bytes header k below = omega arith

entries_end : (bytes : List ℕ) (header : ℕ) → Each (TagIn (length bytes)) (entries bytes header)
unfolding entries
entries_end bytes header =
    each_mapped (TagIn (length bytes)) (λ k. entry_at bytes (le bytes (header + 8) 8 + 16 * k)) 0 (entry_count bytes header) (λ k below. entry_ends bytes header k (omega arith))

table_in : (bytes : List ℕ) (header : ℕ) (table : List Entry) → dynamic_table bytes header ≡ Ok table → Each (TagIn (length bytes)) table
unfolding dynamic_table
table_in bytes header table e =
    bind_then (check_entries (before_first is_end (entries bytes header))) _ table e (λ a _ e1.
    bind_then (must {R = Broken} (nat_lt (length (before_first is_end (entries bytes header))) (length (entries bytes header))) (parts.dynamic, header + 8)) _ table e1 (λ b _ e2.
    subst (Each (TagIn (length bytes))) (same_read _ table e2) (each_taken (TagIn (length bytes)) _ (entries bytes header) (entries_end bytes header))))

-- the entry of the array of initializers, unless there is no such array
abbrev pub ArrayIn : ℕ → InitArray → Type 0
ArrayIn end array = (array.at ≡ 0) ⊎ (array.at + 16 ≤ end)

array_in : (bytes : List ℕ) (table : List Entry) (entry : Option Entry) (size : ℕ) → Each (TagIn (length bytes)) table → entry_of table dt_init_array ≡ entry → ArrayIn (length bytes) (init_array_of entry size)
unfolding entry_of
array_in bytes table None size all is = inl refl
array_in bytes table (Some entry) size all is = inr (each_found (TagIn (length bytes)) (λ entry. entry.tag == dt_init_array) table entry all is)

-- ---- all of a library

-- what stands in its file
pub record StandsIn (bytes : List ℕ) (l : Library) : Type 0 where
  pub loads : Each (λ load. load.at + 56 ≤ length bytes) l.loads
  pub relocations : Each (λ r. r.at + 24 ≤ length bytes) l.relocations
  pub array : ArrayIn (length bytes) l.init_array

loads_whole : (bytes : List ℕ) (l : Library) → library bytes ≡ Ok l → Each (λ load. load.file_at + load.file_size ≤ length bytes) l.loads
loads_whole bytes l e = each_contained (λ load. load.file_at + load.file_size ≤ length bytes) l.loads (loads_of_libraries_lie_apart bytes l e).in_file

pub stands_in : (bytes : List ℕ) (l : Library) → library bytes ≡ Ok l → StandsIn bytes l
unfolding library
stands_in bytes l e =
    bind_then (identified bytes) _ l e (λ ident _ e1.
    bind_then (program_headers bytes) _ l e1 (λ headers headers_read e2.
    bind_then (loads bytes headers.0 headers.1) _ l e2 (λ all loads_read e3.
    bind_then (without_tls bytes headers.0 headers.1) _ l e3 (λ tls _ e4.
    bind_then (dynamic_header bytes headers.0 headers.1) _ l e4 (λ dynamic _ e5.
    bind_then (dynamic_table bytes dynamic) _ l e5 (λ table table_read e6.
    bind_then (symbols bytes all dynamic table) _ l e6 (λ names _ e7.
    bind_then (relocations bytes all table) _ l e7 (λ some some_read e8.
    let same = same_read _ l e8 in
    let loads_are : all ≡ l.loads = ap (λ (l : Library). l.loads) same in
    let whole : Each (λ load. load.file_at + load.file_size ≤ length bytes) all = rw loads_are (loads_whole bytes l e) in
    subst (StandsIn bytes) same (record {
      loads = loads_in_file bytes headers all headers_read loads_read;
      relocations = relocations_in_file bytes all table some whole some_read;
      array = array_in bytes table (entry_of table dt_init_array) (value_of table dt_init_arraysz) (table_in bytes dynamic table table_read) refl;
    })))))))))
