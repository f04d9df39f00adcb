-- The symbols of a written library, as they are read.
use Rattle.std.proofs.Common.{◌≡◌, ℕ, zero, suc, ◌+◌, ◌-◌, ◌*◌, ◌%◌, ◌^◌, ◌<◌, ◌≤◌, true, false, List, [], ◌∷◌, ◌++◌, length, get_or, drop, replicate, Some, Ok, refl, sym, ap, ◌∙◌, subst, arith}
use Rattle.std.specs.Prelude.{nat_le, ◌==◌, map, slice_range, Contains, All}
use Rattle.std.specs.List.{flat_map}
use Rattle.std.proofs.lemmas.Bool.{le-leb, ne_eqb}
use Rattle.std.proofs.lemmas.List.{length-append, length-map, append_assoc, get_or-map}
use Rattle.std.proofs.lemmas.List.FromFn.{fill_by_all}
use Rattle.byteorder.specs.Numbers.{little_number-reads_back}
use Rattle.byte_view.specs.Numbers.{le}
use Rattle.byte_view.specs.Reading.{listed}
use Rattle.byte_view.specs.ElfParts as parts
use Rattle.byte_view.specs.ElfLoads.{Load, holds_range, file_place, bytes_from}
use Rattle.byte_view.specs.ElfDynamic.{Entry, entry_of}
use Rattle.byte_view.specs.ElfSymbols.{Symbol, table_place, hash_count, name_at, symbol_at, symbols_of, symbols}
use Rattle.byte_view.proofs.Reading.{bind_read, listed_from}
use Rattle.image_kit.specs.declared.library_plan.NamedPlace.{NamedPlace}
use Rattle.image_kit.specs.LibraryFile.{u16, u32, u64, symbol_entry, symbol_entries, symbol_table, text, string_table, hash_table}
use Rattle.image_kit.specs.LibraryReads.{no_symbol, planned_symbol}
use Rattle.image_kit.proofs.Stands.{Stands, stands_front, stands_back, stands_within, le_inside, le_u32, length-u32, range_to_end, text_reads}
use Rattle.image_kit.proofs.Head.{one_load, written_entries}

-- a range in the one load stands at its address
in_load : (size addr len : ℕ) → addr + len ≤ size → file_place (one_load size ∷ []) addr len ≡ Some addr
unfolding file_place holds_range
in_load size addr len h =
    let begins : nat_le 0 addr ≡ true = le-leb 0 addr (omega arith) in
    let ends : nat_le (addr + len) (0 + size) ≡ true = le-leb (addr + len) (0 + size) (omega arith) in
    let place : 0 + (addr - 0) ≡ addr = omega arith in
    rw (begins, ends) (ap Some place)

-- a table of some bytes in the one load
table_reads : (part size addr len : ℕ) (entry : Entry) → 1 ≤ len → addr + len ≤ size → table_place part (one_load size ∷ []) entry addr len ≡ Ok addr
unfolding table_place
table_reads part size addr len entry some h =
    let filled : (len == 0) ≡ false = ne_eqb len 0 (λ e. omega arith) in
    rw (filled, in_load size addr len h) refl

-- what the one load has from an address on
bytes_from_load : (bytes : List ℕ) (addr : ℕ) → addr + 1 ≤ length bytes → bytes_from bytes (one_load (length bytes) ∷ []) addr ≡ Some (drop addr bytes)
unfolding bytes_from holds_range
bytes_from_load bytes addr h =
    let begins : nat_le 0 addr ≡ true = le-leb 0 addr (omega arith) in
    let ends : nat_le (addr + 1) (0 + length bytes) ≡ true = le-leb (addr + 1) (0 + length bytes) (omega arith) in
    let place : 0 + (addr - 0) ≡ addr = omega arith in
    let end : 0 + length bytes ≡ length bytes = omega arith in
    rw (begins, ends) (ap Some (ap (λ n. slice_range bytes n (0 + length bytes)) place ∙ ap (slice_range bytes addr) end ∙ range_to_end bytes addr))

-- a name with its zero, in the one load
name_reads : (bytes : List ℕ) (addr : ℕ) (name rest : List ℕ) → drop addr bytes ≡ name ++ 0 ∷ rest → addr + 1 ≤ length bytes → ¬ Contains name 0 → name_at bytes (one_load (length bytes) ∷ []) addr ≡ Some name
name_reads bytes addr name rest e h free =
    let there : bytes_from bytes (one_load (length bytes) ∷ []) addr ≡ Some (drop addr bytes) = bytes_from_load bytes addr h in
    rw (there, e) (text_reads name rest free)

pub length-symbol_entry : (name value : ℕ) → length (symbol_entry name value) ≡ 24
unfolding symbol_entry u16 u32 u64
length-symbol_entry name value = refl

pub length-symbol_entries : (code name : ℕ) (names : List NamedPlace) → length (symbol_entries code name names) ≡ 24 * length names
unfolding symbol_entries
length-symbol_entries code name [] = refl
length-symbol_entries code name (place ∷ more) =
    let entry : List ℕ = symbol_entry name ((code + place.offset) % 2 ^ 64) in
    let rest : List ℕ = symbol_entries code (name + length place.name + 1) more in
    let first : length entry ≡ 24 = length-symbol_entry name ((code + place.offset) % 2 ^ 64) in
    let later : length rest ≡ 24 * length more = length-symbol_entries code (name + length place.name + 1) more in
    let both : length (entry ++ rest) ≡ length entry + length rest = length-append entry rest in
    omega arith

pub length-symbol_table : (code : ℕ) (names : List NamedPlace) → length (symbol_table code names) ≡ 24 * (length names + 1)
unfolding symbol_table
length-symbol_table code names =
    let zeros : List ℕ = replicate 24 0 in
    let both : length (zeros ++ symbol_entries code 1 names) ≡ 24 + length (symbol_entries code 1 names) = length-append zeros (symbol_entries code 1 names) in
    let entries = length-symbol_entries code 1 names in
    omega arith

-- the numbers of an entry
record SymbolNumbers (bytes : List ℕ) (at name value : ℕ) : Type 0 where
  pub name_is : le bytes at 4 ≡ name
  pub info_is : le bytes (at + 4) 1 ≡ 0x12
  pub other_is : le bytes (at + 5) 1 ≡ 0
  pub section_is : le bytes (at + 6) 2 ≡ 1
  pub value_is : le bytes (at + 8) 8 ≡ value

symbol_numbers : (bytes : List ℕ) (at name value : ℕ) → Stands bytes at (symbol_entry name value) → name < 2 ^ 32 → value < 2 ^ 64 → SymbolNumbers bytes at name value
unfolding symbol_entry u16 u32 u64 le
symbol_numbers bytes at name value s n v =
    let piece : List ℕ = symbol_entry name value in
    record {
      name_is = le_inside bytes at 0 at 4 piece s (omega arith) ∙ little_number-reads_back 4 name [] n;
      info_is = le_inside bytes at 4 (at + 4) 1 piece s refl;
      other_is = le_inside bytes at 5 (at + 5) 1 piece s refl;
      section_is = le_inside bytes at 6 (at + 6) 2 piece s refl;
      value_is = le_inside bytes at 8 (at + 8) 8 piece s refl ∙ little_number-reads_back 8 value [] v;
    }

-- an entry with its name
symbol_reads : (bytes : List ℕ) (strings at name code : ℕ) (place : NamedPlace) → Stands bytes at (symbol_entry name ((code + place.offset) % 2 ^ 64)) → Stands bytes (strings + name) (text place) → name < 2 ^ 32 → strings + name + 1 ≤ length bytes → ¬ Contains place.name 0 → symbol_at bytes (one_load (length bytes) ∷ []) strings at ≡ Ok (planned_symbol code place)
unfolding symbol_at
symbol_reads bytes strings at name code place s t small within free =
    let n = symbol_numbers bytes at name ((code + place.offset) % 2 ^ 64) s small (omega arith) in
    let there : drop (strings + name) bytes ≡ place.name ++ 0 ∷ t.rest = t.from ∙ append_assoc place.name (0 ∷ []) t.rest in
    let named : name_at bytes (one_load (length bytes) ∷ []) (strings + name) ≡ Some place.name = name_reads bytes (strings + name) place.name t.rest there within free in
    rw (n.name_is, named, n.info_is, n.other_is, n.section_is, n.value_is) refl

-- the symbol of an entry of zeros
no_symbol_from : (bytes : List ℕ) (strings at : ℕ) → le bytes at 4 ≡ 0 → le bytes (at + 4) 1 ≡ 0 → le bytes (at + 5) 1 ≡ 0 → le bytes (at + 6) 2 ≡ 0 → le bytes (at + 8) 8 ≡ 0 → name_at bytes (one_load (length bytes) ∷ []) (strings + 0) ≡ Some [] → symbol_at bytes (one_load (length bytes) ∷ []) strings at ≡ Ok no_symbol
unfolding symbol_at
no_symbol_from bytes strings at name info other section value named = rw (name, named, info, other, section, value) refl

-- entry 0
no_symbol_reads : (bytes : List ℕ) (strings at : ℕ) → Stands bytes at (replicate 24 0) → Stands bytes strings (0 ∷ []) → strings + 1 ≤ length bytes → symbol_at bytes (one_load (length bytes) ∷ []) strings at ≡ Ok no_symbol
unfolding le
no_symbol_reads bytes strings at s t within =
    let zeros : List ℕ = replicate 24 0 in
    let name : le bytes at 4 ≡ 0 = le_inside bytes at 0 at 4 zeros s (omega arith) in
    let info : le bytes (at + 4) 1 ≡ 0 = le_inside bytes at 4 (at + 4) 1 zeros s refl in
    let other : le bytes (at + 5) 1 ≡ 0 = le_inside bytes at 5 (at + 5) 1 zeros s refl in
    let section : le bytes (at + 6) 2 ≡ 0 = le_inside bytes at 6 (at + 6) 2 zeros s refl in
    let value : le bytes (at + 8) 8 ≡ 0 = le_inside bytes at 8 (at + 8) 8 zeros s refl in
    let place : strings + 0 ≡ strings = omega arith in
    let named : name_at bytes (one_load (length bytes) ∷ []) strings ≡ Some [] = name_reads bytes strings [] t.rest t.from within (λ c. absurd (omega (arith, c.1))) in
    no_symbol_from bytes strings at name info other section value (ap (name_at bytes (one_load (length bytes) ∷ [])) place ∙ named)

-- where an entry of some names stands, and its name
record EntryStands (bytes : List ℕ) (strings code at : ℕ) (place : NamedPlace) : Type 0 where
  pub name : ℕ
  pub entry : Stands bytes at (symbol_entry name ((code + place.offset) % 2 ^ 64))
  pub text_is : Stands bytes (strings + name) (text place)

entries_stand : (bytes : List ℕ) (strings code at name : ℕ) (names : List NamedPlace) → Stands bytes at (symbol_entries code name names) → Stands bytes (strings + name) (flat_map text names) → (k place_at : ℕ) (default : NamedPlace) → k < length names → at + 24 * k ≡ place_at → EntryStands bytes strings code place_at (get_or names k default)
unfolding symbol_entries
entries_stand bytes strings code at name [] s t k place_at default h e = absurd (omega arith)
entries_stand bytes strings code at name (place ∷ more) s t zero place_at default h e =
    let value : ℕ = (code + place.offset) % 2 ^ 64 in
    let here : at ≡ place_at = omega arith in
    record {
      name = name;
      entry = subst (λ (n : ℕ). Stands bytes n (symbol_entry name value)) here (stands_front bytes at (symbol_entry name value) (symbol_entries code (name + length place.name + 1) more) s);
      text_is = stands_front bytes (strings + name) (text place) (flat_map text more) t;
    }
entries_stand bytes strings code at name (place ∷ more) s t (suc k) place_at default h e =
    let value : ℕ = (code + place.offset) % 2 ^ 64 in
    let later : ℕ = name + length place.name + 1 in
    let long : length (text place) ≡ length place.name + 1 = length-append place.name (0 ∷ []) in
    let entry_size : length (symbol_entry name value) ≡ 24 = length-symbol_entry name value in
    entries_stand bytes strings code (at + 24) later more
    (stands_back bytes at (at + 24) (symbol_entry name value) (symbol_entries code later more) s (omega arith))
    (stands_back bytes (strings + name) (strings + later) (text place) (flat_map text more) t (omega arith))
    k place_at default (omega arith) (omega arith)

-- the symbols of a table, its names, and number 0
abbrev pub written_symbols : ℕ → List NamedPlace → List Symbol
written_symbols code names = no_symbol ∷ map (planned_symbol code) names

-- what is known of the tables of a file
pub record SymbolsStand (bytes : List ℕ) (strings code : ℕ) (names : List NamedPlace) : Type 0 where
  pub table : Stands bytes 384 (symbol_table code names)
  pub texts : Stands bytes strings (string_table names)
  pub free : All (λ place. ¬ Contains place.name 0) names
  pub small : length bytes < 2 ^ 32

no_place : NamedPlace
no_place = record { name = []; offset = 0 }

symbol_reads_at : (bytes : List ℕ) (strings code : ℕ) (names : List NamedPlace) → SymbolsStand bytes strings code names → (k : ℕ) → k < length names + 1 → symbol_at bytes (one_load (length bytes) ∷ []) strings (384 + 24 * k) ≡ Ok (get_or (written_symbols code names) k no_symbol)
unfolding symbol_table string_table
symbol_reads_at bytes strings code names s zero h =
    let zeros : Stands bytes 384 (replicate 24 0) = stands_front bytes 384 (replicate 24 0) (symbol_entries code 1 names) s.table in
    let empty : Stands bytes strings (0 ∷ []) = stands_front bytes strings (0 ∷ []) (flat_map text names) s.texts in
    no_symbol_reads bytes strings 384 zeros empty (stands_within bytes strings (0 ∷ []) empty (omega arith))
symbol_reads_at bytes strings code names s (suc k) h =
    let place : NamedPlace = get_or names k no_place in
    let entries : Stands bytes 408 (symbol_entries code 1 names) = stands_back bytes 384 408 (replicate 24 0) (symbol_entries code 1 names) s.table refl in
    let texts : Stands bytes (strings + 1) (flat_map text names) = stands_back bytes strings (strings + 1) (0 ∷ []) (flat_map text names) s.texts refl in
    let there = entries_stand bytes strings code 408 1 names entries texts k (384 + 24 * suc k) no_place (omega arith) (omega arith) in
    let long : length (text place) ≡ length place.name + 1 = length-append place.name (0 ∷ []) in
    let within : strings + there.name + length (text place) ≤ length bytes = stands_within bytes (strings + there.name) (text place) there.text_is (omega arith) in
    let small = s.small in
    symbol_reads bytes strings (384 + 24 * suc k) there.name code place there.entry there.text_is (omega arith) (omega arith) (s.free k no_place (omega arith))
    ∙ ap Ok (sym (get_or-map (planned_symbol code) names k no_place no_symbol (omega arith)))

symbols_listed : (bytes : List ℕ) (strings code : ℕ) (names : List NamedPlace) → SymbolsStand bytes strings code names → listed (λ k. symbol_at bytes (one_load (length bytes) ∷ []) strings (384 + 24 * k)) (length names + 1) ≡ Ok (written_symbols code names)
symbols_listed bytes strings code names s =
    let all : List Symbol = written_symbols code names in
    let count : length all ≡ length names + 1 = ap suc (length-map names (planned_symbol code)) ∙ (omega arith) in
    listed_from (λ k. symbol_at bytes (one_load (length bytes) ∷ []) strings (384 + 24 * k)) (λ k. get_or all k no_symbol) (length names + 1) (symbol_reads_at bytes strings code names s)
    ∙ ap Ok (sym (fill_by_all (λ k. get_or all k no_symbol) all (length names + 1) no_symbol count (λ k _. refl)))

-- the number of symbols, by the hash table
hash_count_reads : (bytes : List ℕ) (hash count : ℕ) (entry : Entry) → entry.value ≡ hash → Stands bytes hash (hash_table count) → hash + 8 ≤ length bytes → count + 1 < 2 ^ 32 → hash_count bytes (one_load (length bytes) ∷ []) entry ≡ Ok (count + 1)
unfolding hash_count hash_table
hash_count_reads bytes hash count entry v s h small =
    let head : Stands bytes hash (u32 1 ++ u32 (count + 1)) = stands_front bytes hash (u32 1 ++ u32 (count + 1)) (u32 count) (stands_front bytes hash (u32 1 ++ u32 (count + 1) ++ u32 count) _ s) in
    let size : length (u32 1) ≡ 4 = length-u32 1 in
    let word : Stands bytes (hash + 4) (u32 (count + 1)) = stands_back bytes hash (hash + 4) (u32 1) (u32 (count + 1)) head (omega arith) in
    let number : le bytes (hash + 4) 4 ≡ count + 1 = le_u32 bytes (hash + 4) (count + 1) word small in
    let place : table_place parts.symbols (one_load (length bytes) ∷ []) entry (entry.value + 4) 4 ≡ Ok (hash + 4) =
    ap (λ (n : ℕ). table_place parts.symbols (one_load (length bytes) ∷ []) entry (n + 4) 4) v ∙ table_reads parts.symbols (length bytes) (hash + 4) 4 entry (omega arith) (omega arith) in
    rw (place, number) refl

first_text : (bytes : List ℕ) (strings : ℕ) (names : List NamedPlace) → Stands bytes strings (string_table names) → Stands bytes strings (0 ∷ [])
unfolding string_table
first_text bytes strings names s = stands_front bytes strings (0 ∷ []) (flat_map text names) s

pub symbols_read : (bytes : List ℕ) (hash strings strings_size code : ℕ) (names : List NamedPlace) → SymbolsStand bytes strings code names → Stands bytes hash (hash_table (length names)) → hash + 8 ≤ length bytes → symbols bytes (one_load (length bytes) ∷ []) 120 (written_entries hash strings strings_size) ≡ Ok (written_symbols code names)
unfolding symbols symbols_of entry_of
symbols_read bytes hash strings strings_size code names s hashes h =
    let load : List Load = one_load (length bytes) ∷ [] in
    let count : ℕ = length names + 1 in
    let size : length (symbol_table code names) ≡ 24 * count = length-symbol_table code names in
    let within : 384 + length (symbol_table code names) ≤ length bytes = stands_within bytes 384 (symbol_table code names) s.table (omega arith) in
    let small = s.small in
    let text : Stands bytes strings (0 ∷ []) = first_text bytes strings names s.texts in
    let behind : strings + 1 ≤ length bytes = stands_within bytes strings (0 ∷ []) text (omega arith) in
    let counted : hash_count bytes load (record { at = 176; tag = 4; value = hash }) ≡ Ok count = hash_count_reads bytes hash (length names) _ refl hashes h (omega arith) in
    let filled : (count == 0) ≡ false = ne_eqb count 0 (λ e. omega arith) in
    let table : table_place parts.symbols load (record { at = 208; tag = 6; value = 384 }) 384 (24 * count) ≡ Ok 384 = table_reads parts.symbols (length bytes) 384 (24 * count) _ (omega arith) (omega arith) in
    let names_place : table_place parts.symbols load (record { at = 192; tag = 5; value = strings }) strings 1 ≡ Ok strings = table_reads parts.symbols (length bytes) strings 1 _ (omega arith) behind in
    bind_read (hash_count bytes load (record { at = 176; tag = 4; value = hash })) _ count counted
    ∙ (rw (filled, table, names_place) (symbols_listed bytes strings code names s))
