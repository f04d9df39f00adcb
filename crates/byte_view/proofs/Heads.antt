-- The headers of a file depend on the bytes of its PE headers and its CLI header alone.
use Rattle.std.proofs.Common.{◌≡◌, ℕ, zero, suc, ◌+◌, ◌-◌, ◌*◌, ◌<◌, ◌≤◌, Bool, ◌&&◌, ◌||◌, not, List, length, get_or, take, drop, Result, Ok, refl, sym, ap, ◌∙◌, subst, arith}
use Rattle.std.specs.Prelude.{if◌then◌else◌, nat_le, ◌==◌, slice_index, bit_and}
use Rattle.std.specs.Option.{ok_or}
use Rattle.std.proofs.lemmas.List.{get_or-take, get_or-drop}
use Rattle.byteorder.specs.Endian.{little_from}
use Rattle.byte_view.specs.Numbers.{le}
use Rattle.byte_view.specs.Reading.{Broken, must, field, field_where}
use Rattle.byte_view.specs.Parts as parts
use Rattle.byte_view.specs.Headers.{Section, Headers, file_place, signature_place, section_table, directory_count_place, cli_directory, section_at, sections_of, cli_header_place, metadata_place, Front, front, headers}
use Rattle.byte_view.specs.Laws.{sections_end, directory_end, head_of, RestIsNotRead}
use Rattle.byte_view.proofs.Reading.{bind_same, bind_then, same_read, field_where_ok, field_ok, listed_same}
use Rattle.byte_view.proofs.Agreeing.{assembly_same}

-- files of one length with the same bytes in a range
pub record AgreeIn (from to : ℕ) (a b : List ℕ) : Type 0 where
  pub bytes : (k : ℕ) → from ≤ k → k < to → slice_index a k ≡ slice_index b k
  pub size : length a ≡ length b

pub agree_in : (from len : ℕ) (a b : List ℕ) → length a ≡ length b → take len (drop from a) ≡ take len (drop from b) → AgreeIn from (from + len) a b
agree_in from len a b size e = record {
  bytes = λ k l u.
      let place : from + (k - from) ≡ k = omega arith in
      let first : get_or (take len (drop from a)) (k - from) 0 ≡ get_or a k 0 =
      get_or-take len (drop from a) (k - from) 0 (omega arith) ∙ get_or-drop from a (k - from) 0 ∙ ap (λ n. get_or a n 0) place in
      let second : get_or (take len (drop from b)) (k - from) 0 ≡ get_or b k 0 =
      get_or-take len (drop from b) (k - from) 0 (omega arith) ∙ get_or-drop from b (k - from) 0 ∙ ap (λ n. get_or b n 0) place in
      sym first ∙ ap (λ xs. get_or xs (k - from) 0) e ∙ second;
  size = size;
}

pub little_same : (i n : ℕ) (xs ys : List ℕ) → ((j : ℕ) → i ≤ j → j < i + n → slice_index xs j ≡ slice_index ys j) → little_from i n xs ≡ little_from i n ys
little_same i zero xs ys h = refl
little_same i (suc n) xs ys h =
    let first : slice_index xs i ≡ slice_index ys i = h i (omega arith) (omega arith) in
    let rest : little_from (suc i) n xs ≡ little_from (suc i) n ys = little_same (suc i) n xs ys (λ j l u. h j (omega arith) (omega arith)) in
    rw (first, rest) refl

pub le_in : (from to place n : ℕ) (a b : List ℕ) → AgreeIn from to a b → from ≤ place → place + n ≤ to → le a place n ≡ le b place n
unfolding le
le_in from to place n a b same l u =
    little_same 0 n (drop place a) (drop place b) (λ j _ h.
    get_or-drop place a j 0 ∙ same.bytes (place + j) (omega arith) (omega arith) ∙ sym (get_or-drop place b j 0))

pub field_in : (from to part place n : ℕ) (a b : List ℕ) → AgreeIn from to a b → from ≤ place → place + n ≤ to → field part a place n ≡ field part b place n
field_in from to part place n a b same l u =
    let number : le a place n ≡ le b place n = le_in from to place n a b same l u in
    rw (number, same.size) refl

pub field_where_in : (passes : ℕ → Bool) (from to part place n : ℕ) (a b : List ℕ) → AgreeIn from to a b → from ≤ place → place + n ≤ to → field_where passes part a place n ≡ field_where passes part b place n
field_where_in passes from to part place n a b same l u = rw (field_in from to part place n a b same l u) refl

-- where the PE signature stands
signature_read : (bytes : List ℕ) (p : ℕ) → signature_place bytes ≡ Ok p → le bytes 60 4 ≡ p
unfolding signature_place
signature_read bytes p e =
    bind_then (field_where (λ magic. magic == 0x5A4D) parts.mz bytes 0 2) _ p e (λ magic _ e1.
    bind_then (field parts.pe_offset bytes 60 4) _ p e1 (λ at at_read e2.
    bind_then (field_where (λ signature. signature == 0x4550) parts.pe_signature bytes at 4) _ p e2 (λ signature _ e3.
    (field_ok parts.pe_offset bytes 60 4 at at_read).1 ∙ same_read at p e3)))

signature_same : (end : ℕ) (a b : List ℕ) → AgreeIn 0 end a b → 64 ≤ end → le a 60 4 + 4 ≤ end → signature_place a ≡ signature_place b
unfolding signature_place
signature_same end a b same h l =
    bind_same _ _ _ _ (field_where_in (λ magic. magic == 0x5A4D) 0 end parts.mz 0 2 a b same (omega arith) (omega arith)) (λ magic _.
    bind_same _ _ _ _ (field_in 0 end parts.pe_offset 60 4 a b same (omega arith) (omega arith)) (λ at at_read.
    let here = field_ok parts.pe_offset a 60 4 at at_read in
    bind_same _ _ _ _ (field_where_in (λ signature. signature == 0x4550) 0 end parts.pe_signature at 4 a b same (omega arith) (omega (arith, here.1, l))) (λ signature _. refl)))

table_read : (bytes : List ℕ) (p : ℕ) (x : ℕ × ℕ) → section_table bytes p ≡ Ok x → (le bytes (p + 6) 2 ≡ x.0) × (p + 24 + le bytes (p + 20) 2 ≡ x.1)
unfolding section_table
table_read bytes p x e =
    bind_then (must (nat_le (p + 24) (length bytes)) (parts.coff_header, p + 4)) _ x e (λ passed _ e1.
    (ap (λ (x : ℕ × ℕ). x.0) (same_read _ x e1), ap (λ (x : ℕ × ℕ). x.1) (same_read _ x e1)))

table_same : (end p : ℕ) (a b : List ℕ) → AgreeIn 0 end a b → p + 24 ≤ end → section_table a p ≡ section_table b p
unfolding section_table
table_same end p a b same h =
    let count : le a (p + 6) 2 ≡ le b (p + 6) 2 = le_in 0 end (p + 6) 2 a b same (omega arith) (omega arith) in
    let optional : le a (p + 20) 2 ≡ le b (p + 20) 2 = le_in 0 end (p + 20) 2 a b same (omega arith) (omega arith) in
    rw (count, optional, same.size) refl

count_place_read : (bytes : List ℕ) (at x : ℕ) → directory_count_place bytes at ≡ Ok x → at + (if le bytes at 2 == 0x10B then 92 else 108) ≡ x
unfolding directory_count_place
count_place_read bytes at x e =
    bind_then (field_where (λ magic. magic == 0x10B || magic == 0x20B) parts.optional_header bytes at 2) _ x e (λ magic magic_read e1.
    let here = field_where_ok (λ magic. magic == 0x10B || magic == 0x20B) parts.optional_header bytes at 2 magic magic_read in
    ap (λ (magic : ℕ). at + (if magic == 0x10B then 92 else 108)) here.1 ∙ same_read _ x e1)

count_place_same : (end at : ℕ) (a b : List ℕ) → AgreeIn 0 end a b → at + 2 ≤ end → directory_count_place a at ≡ directory_count_place b at
unfolding directory_count_place
count_place_same end at a b same h =
    bind_same _ _ _ _ (field_where_in (λ magic. magic == 0x10B || magic == 0x20B) 0 end parts.optional_header at 2 a b same (omega arith) h) (λ magic _. refl)

directory_read : (bytes : List ℕ) (count_at x : ℕ) → cli_directory bytes count_at ≡ Ok x → count_at + 116 ≡ x
unfolding cli_directory
directory_read bytes count_at x e =
    bind_then (field_where (λ count. nat_le 15 count) parts.directories bytes count_at 4) _ x e (λ count _ e1.
    bind_then (must (nat_le (count_at + 116 + 8) (length bytes) && not (le bytes (count_at + 116) 4 == 0)) (parts.directories, count_at + 116)) _ x e1 (λ passed _ e2.
    same_read _ x e2))

directory_same : (end count_at : ℕ) (a b : List ℕ) → AgreeIn 0 end a b → count_at + 124 ≤ end → cli_directory a count_at ≡ cli_directory b count_at
unfolding cli_directory
directory_same end count_at a b same h =
    let rva : le a (count_at + 116) 4 ≡ le b (count_at + 116) 4 = le_in 0 end (count_at + 116) 4 a b same (omega arith) (omega arith) in
    bind_same _ _ _ _ (field_where_in (λ count. nat_le 15 count) 0 end parts.directories count_at 4 a b same (omega arith) (omega arith)) (λ count _. rw (rva, same.size) refl)

section_same : (end at : ℕ) (a b : List ℕ) → AgreeIn 0 end a b → at + 40 ≤ end → section_at a at ≡ section_at b at
section_same end at a b same h =
    let rva : le a (at + 12) 4 ≡ le b (at + 12) 4 = le_in 0 end (at + 12) 4 a b same (omega arith) (omega arith) in
    let raw_at : le a (at + 20) 4 ≡ le b (at + 20) 4 = le_in 0 end (at + 20) 4 a b same (omega arith) (omega arith) in
    let raw_size : le a (at + 16) 4 ≡ le b (at + 16) 4 = le_in 0 end (at + 16) 4 a b same (omega arith) (omega arith) in
    rw (rva, raw_at, raw_size, same.size) refl

sections_same : (end p count at : ℕ) (a b : List ℕ) → AgreeIn 0 end a b → at + 40 * count ≤ end → sections_of a p count at ≡ sections_of b p count at
unfolding sections_of
sections_same end p count at a b same h =
    let few : Result ℕ Broken = must (nat_le count 96) (parts.sections, p + 6) in
    bind_same few few _ _ refl (λ passed _.
    listed_same (λ k. section_at a (at + 40 * k)) (λ k. section_at b (at + 40 * k)) count (λ k l. section_same end (at + 40 * k) a b same (omega arith)))

-- where the range of the CLI header lies, before its flags are read
abbrev header_found : List ℕ → List Section → ℕ → Result ℕ Broken
header_found bytes sections directory = ok_or (file_place sections (length bytes) (le bytes directory 4) 72) (parts.cli_header, directory)

cli_header_read : (bytes : List ℕ) (sections : List Section) (directory x : ℕ) → cli_header_place bytes sections directory ≡ Ok x → header_found bytes sections directory ≡ Ok x
unfolding cli_header_place
cli_header_read bytes sections directory x e =
    bind_then (header_found bytes sections directory) _ x e (λ at at_read e1.
    bind_then (must (bit_and (le bytes (at + 16) 4) 0x11 == 0x01) (parts.cli_flags, at + 16)) _ x e1 (λ passed _ e2.
    at_read ∙ e2))

cli_header_same : (end directory at : ℕ) (a b : List ℕ) (sections : List Section) → AgreeIn 0 end a b → directory + 8 ≤ end → cli_header_place a sections directory ≡ Ok at → AgreeIn at (at + 72) a b → cli_header_place a sections directory ≡ cli_header_place b sections directory
unfolding cli_header_place
cli_header_same end directory at a b sections same h read there =
    let rva : le a directory 4 ≡ le b directory 4 = le_in 0 end directory 4 a b same (omega arith) (omega arith) in
    let place = cli_header_read a sections directory at read in
    bind_same (header_found a sections directory) (header_found b sections directory) _ _ (rw (rva, same.size) refl) (λ found found_read.
    let one : found ≡ at = same_read found at (sym found_read ∙ place) in
    let flags : le a (found + 16) 4 ≡ le b (found + 16) 4 = le_in at (at + 72) (found + 16) 4 a b there (omega arith) (omega arith) in
    rw flags refl)

metadata_place_same : (cli_at : ℕ) (a b : List ℕ) (sections : List Section) → AgreeIn cli_at (cli_at + 72) a b → metadata_place a sections cli_at ≡ metadata_place b sections cli_at
unfolding metadata_place
metadata_place_same cli_at a b sections there =
    let rva : le a (cli_at + 8) 4 ≡ le b (cli_at + 8) 4 = le_in cli_at (cli_at + 72) (cli_at + 8) 4 a b there (omega arith) (omega arith) in
    let size : le a (cli_at + 12) 4 ≡ le b (cli_at + 12) 4 = le_in cli_at (cli_at + 72) (cli_at + 12) 4 a b there (omega arith) (omega arith) in
    rw (rva, size, there.size) refl

-- the head reaches the end of the section headers and of the CLI header's directory
head_covers : (bytes : List ℕ) (p : ℕ) → le bytes 60 4 ≡ p → (sections_end bytes p ≤ head_of bytes) × (directory_end bytes p ≤ head_of bytes)
head_covers bytes p e = subst (λ (p : ℕ). (sections_end bytes p ≤ head_of bytes) × (directory_end bytes p ≤ head_of bytes)) e (omega arith, omega arith)

-- a front that is read once is read again from the same bytes; what it tells of lies in the head
record FrontOf (a b : List ℕ) (f : Front) : Type 0 where
  again : front b ≡ Ok f
  listed_in : f.table + 40 * f.count ≤ head_of a
  directory_in : f.directory + 8 ≤ head_of a

front_same : (a b : List ℕ) (f : Front) → front a ≡ Ok f → AgreeIn 0 (head_of a) a b → FrontOf a b f
unfolding front
front_same a b f e same =
    bind_then (signature_place a) _ f e (λ p p_read e1.
    bind_then (section_table a p) _ f e1 (λ table table_is e2.
    bind_then (directory_count_place a (p + 24)) _ f e2 (λ count_at count_at_read e3.
    bind_then (cli_directory a count_at) _ f e3 (λ directory directory_is e4.
    let of_p : le a 60 4 ≡ p = signature_read a p p_read in
    let of_table = table_read a p table table_is in
    let of_count = count_place_read a (p + 24) count_at count_at_read in
    let of_directory = directory_read a count_at directory directory_is in
    let covers = head_covers a p of_p in
    let reaches : count_at + 124 ≤ head_of a = rw (← of_count) covers.1 in
    let behind : p + 24 ≤ count_at = rw (← of_count) (omega arith) in
    let s1 : signature_place b ≡ Ok p = sym (signature_same (head_of a) a b same (omega arith) (omega arith)) ∙ p_read in
    let s2 : section_table b p ≡ Ok table = sym (table_same (head_of a) p a b same (omega arith)) ∙ table_is in
    let s3 : directory_count_place b (p + 24) ≡ Ok count_at = sym (count_place_same (head_of a) (p + 24) a b same (omega arith)) ∙ count_at_read in
    let s4 : cli_directory b count_at ≡ Ok directory = sym (directory_same (head_of a) count_at a b same reaches) ∙ directory_is in
    let made : Front = record { signature = p; count = table.0; table = table.1; directory = directory } in
    subst (FrontOf a b) (same_read made f e4) (record {
      again = rw (s1, s2, s3, s4) refl;
      listed_in = rw (← of_table.0, ← of_table.1) covers.0;
      directory_in = omega (arith, of_directory, reaches);
    })))))

-- headers that are read once are read again from the same bytes
pub headers_same : (a b : List ℕ) (h : Headers) → headers a ≡ Ok h → AgreeIn 0 (head_of a) a b → AgreeIn h.cli_at (h.cli_at + 72) a b → headers b ≡ Ok h
unfolding headers
headers_same a b h e same there =
    bind_then (front a) _ h e (λ f f_read e4.
    bind_then (sections_of a f.signature f.count f.table) _ h e4 (λ sections sections_read e5.
    bind_then (cli_header_place a sections f.directory) _ h e5 (λ cli_at cli_at_read e6.
    bind_then (metadata_place a sections cli_at) _ h e6 (λ meta_at meta_at_read e7.
    let of_front = front_same a b f f_read same in
    let of_cli : cli_at ≡ h.cli_at = ap (λ (h : Headers). h.cli_at) (same_read _ h e7) in
    let here : AgreeIn cli_at (cli_at + 72) a b = subst (λ (n : ℕ). AgreeIn n (n + 72) a b) (sym of_cli) there in
    let s5 : sections_of b f.signature f.count f.table ≡ Ok sections = sym (sections_same (head_of a) f.signature f.count f.table a b same of_front.listed_in) ∙ sections_read in
    let s6 : cli_header_place b sections f.directory ≡ Ok cli_at = sym (cli_header_same (head_of a) f.directory cli_at a b sections same of_front.directory_in cli_at_read here) ∙ cli_at_read in
    let s7 : metadata_place b sections cli_at ≡ Ok meta_at = sym (metadata_place_same cli_at a b sections here) ∙ meta_at_read in
    let meta_size : le a (cli_at + 12) 4 ≡ le b (cli_at + 12) 4 = le_in cli_at (cli_at + 72) (cli_at + 12) 4 a b here (omega arith) (omega arith) in
    let entry : le a (cli_at + 20) 4 ≡ le b (cli_at + 20) 4 = le_in cli_at (cli_at + 72) (cli_at + 20) 4 a b here (omega arith) (omega arith) in
    let s0 : front b ≡ Ok f = of_front.again in
    rw (s0, s5, s6, s7, ← meta_size, ← entry) e7))))

pub rest_is_not_read : RestIsNotRead
rest_is_not_read a b h same =
    let head : AgreeIn 0 (head_of a) a b = subst (λ (n : ℕ). AgreeIn 0 n a b) (let e : 0 + head_of a ≡ head_of a = omega arith in e) (agree_in 0 (head_of a) a b same.size same.head) in
    let cli : AgreeIn h.cli_at (h.cli_at + 72) a b = agree_in h.cli_at 72 a b same.size same.cli_header in
    assembly_same a b h same.read (headers_same a b h same.read head cli) same.metadata
