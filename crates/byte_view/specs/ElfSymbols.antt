-- The symbols of a library (System V gABI, 'Symbol Table' and 'Hash Table'; for DT_GNU_HASH, the
-- GNU linker's table).
use Rattle.std.specs.Prelude.{ℕ, ◌+◌, ◌-◌, ◌*◌, ◌/◌, ◌%◌, max, ◌==◌, nat_le, List, [], length, map, position, Option, Some, None, option_map, option_and_then, Result, Ok, if◌then◌else◌}
use Rattle.std.specs.List.{fold, range_with_len, list_any}
use Rattle.std.specs.Option.{ok_or}
use Rattle.byte_view.specs.Numbers.{le}
use Rattle.byte_view.specs.Reading.{Broken, ◌>>=◌, listed}
use Rattle.byte_view.specs.Heaps.{text_at}
use Rattle.byte_view.specs.ElfLoads.{Load, file_place, bytes_from}
use Rattle.byte_view.specs.ElfDynamic.{Entry, entry_of, dt_hash, dt_gnu_hash, dt_symtab, dt_strtab}
use Rattle.byte_view.specs.ElfParts as parts

pub record Symbol : Type 0 where
  pub name : List ℕ
  pub value : ℕ
  pub binding : ℕ
  pub kind : ℕ
  pub visibility : ℕ
  pub section : ℕ

-- numbers of four bytes, one after another
abbrev pub words_at : List ℕ → ℕ → ℕ → List ℕ
words_at bytes at count = map (λ k. le bytes (at + 4 * k) 4) (range_with_len 0 count)

-- where a table that an entry names stands in the file; a table of no bytes stands anywhere
unfoldable pub table_place : ℕ → List Load → Entry → ℕ → ℕ → Result ℕ Broken
table_place part loads entry addr len =
    if len == 0 then Ok 0 else ok_or (file_place loads addr len) (part, entry.at + 8)

-- how many symbols a hash table counts: the number of its chains, which stands after that of its
-- buckets
unfoldable pub hash_count : List ℕ → List Load → Entry → Result ℕ Broken
hash_count bytes loads entry =
    table_place parts.symbols loads entry (entry.value + 4) 4 >>= λ at. Ok (le bytes at 4)

-- how many words of a chain there are up to the one that ends it, which is odd
abbrev pub chain_length : List ℕ → Option ℕ
chain_length chain =
    option_map (λ n. n + 1)
    (position (λ word. word % 2 == 1) (words_at chain 0 (length chain / 4)))

-- The number after the last symbol of the chain that begins with a symbol. The words of the chains
-- stand one for each symbol, from the first that is hashed on.
unfoldable pub behind_chain : List ℕ → List Load → Entry → ℕ → ℕ → ℕ → Result ℕ Broken
behind_chain bytes loads entry chains first symbol =
    ok_or
    (option_map (λ n. symbol + n)
    (option_and_then chain_length (bytes_from bytes loads (chains + 4 * (symbol - first)))))
    (parts.symbols, entry.at + 8)

-- by the buckets, each the first symbol of a chain: after the chain that begins last; where no
-- chain begins, none is hashed
unfoldable pub behind_buckets : List ℕ → List Load → Entry → ℕ → ℕ → List ℕ → Result ℕ Broken
behind_buckets bytes loads entry chains first starts =
    if list_any (λ start. nat_le first start) starts
    then behind_chain bytes loads entry chains first (fold max 0 starts)
    else Ok first

-- How many symbols a GNU hash table counts. Four words begin it: the number of buckets, the first
-- symbol that is hashed, the number of filter words of 8 bytes, and a shift. The filter words
-- follow, then the buckets, then the chains.
unfoldable pub gnu_hash_count : List ℕ → List Load → Entry → Result ℕ Broken
gnu_hash_count bytes loads entry = do
  at ← table_place parts.symbols loads entry entry.value 12
  let bucket_count : ℕ = le bytes at 4
  let buckets : ℕ = entry.value + 16 + 8 * le bytes (at + 8) 4
  buckets_at ← table_place parts.symbols loads entry buckets (4 * bucket_count)
  behind_buckets bytes loads entry (buckets + 4 * bucket_count) (le bytes (at + 4) 4)
      (words_at bytes buckets_at bucket_count)

-- how many symbols there are: by DT_HASH, else by DT_GNU_HASH, else none
abbrev pub count_by : List ℕ → List Load → Option Entry → Option Entry → Result ℕ Broken
count_by bytes loads (Some hash) gnu_hash = hash_count bytes loads hash
count_by bytes loads None (Some gnu_hash) = gnu_hash_count bytes loads gnu_hash
count_by bytes loads None None = Ok 0

abbrev pub symbol_count : List ℕ → List Load → List Entry → Result ℕ Broken
symbol_count bytes loads table =
    count_by bytes loads (entry_of table dt_hash) (entry_of table dt_gnu_hash)

-- the text at an address, with its zero in the same load
abbrev pub name_at : List ℕ → List Load → ℕ → Option (List ℕ)
name_at bytes loads addr = option_and_then (λ rest. text_at rest 0) (bytes_from bytes loads addr)

-- one symbol of 24 bytes, whose name stands in the string table at an address
unfoldable pub symbol_at : List ℕ → List Load → ℕ → ℕ → Result Symbol Broken
symbol_at bytes loads strings at = do
  name ← ok_or (name_at bytes loads (strings + le bytes at 4)) (parts.symbols, at)
  Ok (record {
    name = name;
    value = le bytes (at + 8) 8;
    binding = le bytes (at + 4) 1 / 16;
    kind = le bytes (at + 4) 1 % 16;
    visibility = le bytes (at + 5) 1 % 4;
    section = le bytes (at + 6) 2;
  })

-- so many symbols: where there are some, there is a table of them and one of their names
unfoldable pub symbols_of : List ℕ → List Load → ℕ → List Entry → ℕ → Result (List Symbol) Broken
symbols_of bytes loads header table count = do
  symbols ← ok_or (entry_of table dt_symtab) (parts.symbols, header + 8)
  strings ← ok_or (entry_of table dt_strtab) (parts.symbols, header + 8)
  at ← table_place parts.symbols loads symbols symbols.value (24 * count)
  _ ← table_place parts.symbols loads strings strings.value 1
  listed (λ k. symbol_at bytes loads strings.value (at + 24 * k)) count

-- all symbols, number 0 included
unfoldable pub symbols : List ℕ → List Load → ℕ → List Entry → Result (List Symbol) Broken
symbols bytes loads header table =
    symbol_count bytes loads table >>= λ count.
    if count == 0 then Ok [] else symbols_of bytes loads header table count
