-- The dynamic section (System V gABI, 'Dynamic Section').
use Rattle.std.specs.Prelude.{ℕ, zero, suc, ◌+◌, ◌-◌, ◌*◌, ◌/◌, min, Bool, not, ◌||◌, ◌==◌, nat_lt, List, [], ◌∷◌, length, map, find, Option, Some, None, option_map, unwrap_or, Result, Ok, Err, if◌then◌else◌}
use Rattle.std.specs.List.{range_with_len, before_first}
use Rattle.std.specs.Option.{ok_or}
use Rattle.byte_view.specs.Numbers.{le}
use Rattle.byte_view.specs.Reading.{Broken, ◌>>=◌, must}
use Rattle.byte_view.specs.ElfLoads.{is_of_type, pt_dynamic}
use Rattle.byte_view.specs.ElfParts as parts

-- the header of the dynamic section, that of one more header after some; a second one is wrong
abbrev pub and_dynamic : List ℕ → Option ℕ → ℕ → Result (Option ℕ) Broken
and_dynamic bytes None at = if is_of_type pt_dynamic bytes at then Ok (Some at) else Ok None
and_dynamic bytes (Some before) at =
    if is_of_type pt_dynamic bytes at then Err (parts.dynamic, at) else Ok (Some before)

unfoldable pub dynamic_among : List ℕ → ℕ → ℕ → Result (Option ℕ) Broken
dynamic_among bytes start zero = Ok None
dynamic_among bytes start (suc n) =
    dynamic_among bytes start n >>= λ before. and_dynamic bytes before (start + 56 * n)

-- the one program header of the dynamic section, by its place in the file
unfoldable pub dynamic_header : List ℕ → ℕ → ℕ → Result ℕ Broken
dynamic_header bytes start count =
    dynamic_among bytes start count >>= λ found. ok_or found (parts.dynamic, 32)

-- an entry: where it stands in the file, its tag, its value
pub record Entry : Type 0 where
  pub at : ℕ
  pub tag : ℕ
  pub value : ℕ

abbrev pub entry_at : List ℕ → ℕ → Entry
entry_at bytes at = record { at = at; tag = le bytes at 8; value = le bytes (at + 8) 8 }

abbrev pub dt_null : ℕ
dt_null = 0

abbrev pub dt_pltrelsz : ℕ
dt_pltrelsz = 2

abbrev pub dt_hash : ℕ
dt_hash = 4

abbrev pub dt_strtab : ℕ
dt_strtab = 5

abbrev pub dt_symtab : ℕ
dt_symtab = 6

abbrev pub dt_rela : ℕ
dt_rela = 7

abbrev pub dt_relasz : ℕ
dt_relasz = 8

abbrev pub dt_relaent : ℕ
dt_relaent = 9

abbrev pub dt_syment : ℕ
dt_syment = 11

abbrev pub dt_init : ℕ
dt_init = 12

abbrev pub dt_rel : ℕ
dt_rel = 17

abbrev pub dt_textrel : ℕ
dt_textrel = 22

abbrev pub dt_jmprel : ℕ
dt_jmprel = 23

abbrev pub dt_init_array : ℕ
dt_init_array = 25

abbrev pub dt_init_arraysz : ℕ
dt_init_arraysz = 27

abbrev pub dt_gnu_hash : ℕ
dt_gnu_hash = 0x6FFFFEF5

-- how many entries of 16 bytes the segment and the file hold whole
unfoldable pub entry_count : List ℕ → ℕ → ℕ
entry_count bytes header =
    min (le bytes (header + 32) 8) (length bytes - le bytes (header + 8) 8) / 16

-- those entries, in order
unfoldable pub entries : List ℕ → ℕ → List Entry
entries bytes header =
    map (λ k. entry_at bytes (le bytes (header + 8) 8 + 16 * k))
    (range_with_len 0 (entry_count bytes header))

abbrev pub is_end : Entry → Bool
is_end entry = entry.tag == dt_null

-- there are no text relocations and no relocations without addends, and entries of symbols and
-- relocations have 24 bytes
unfoldable pub check_entry : Entry → Result ℕ Broken
check_entry entry = do
  _ ← must (not (entry.tag == dt_textrel || entry.tag == dt_rel)) (parts.dynamic, entry.at)
  must (not (entry.tag == dt_syment || entry.tag == dt_relaent) || entry.value == 24)
      (parts.dynamic, entry.at + 8)

-- a test of each entry, in order
unfoldable pub check_entries : List Entry → Result ℕ Broken
check_entries [] = Ok 0
check_entries (entry ∷ more) = check_entry entry >>= λ _. check_entries more

-- the entries before DT_NULL, which has to come
unfoldable pub dynamic_table : List ℕ → ℕ → Result (List Entry) Broken
dynamic_table bytes header = do
  let all : List Entry = entries bytes header
  let table : List Entry = before_first is_end all
  _ ← check_entries table
  _ ← must (nat_lt (length table) (length all)) (parts.dynamic, header + 8)
  Ok table

-- the entry of a tag; where it stands twice the first counts
unfoldable pub entry_of : List Entry → ℕ → Option Entry
entry_of table tag = find (λ entry. entry.tag == tag) table

-- the value of a tag, 0 where it isn't there
unfoldable pub value_of : List Entry → ℕ → ℕ
value_of table tag = unwrap_or (option_map (λ entry. entry.value) (entry_of table tag)) 0
