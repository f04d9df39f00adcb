-- The headers of a library up to its loads (System V gABI, 'ELF Header' and 'Program Header';
-- RISC-V psABI, 'File Header').
use Rattle.std.specs.Prelude.{ℕ, zero, suc, ◌+◌, ◌-◌, ◌*◌, ◌^◌, Bool, not, ◌||◌, ◌&&◌, ◌==◌, nat_lt, nat_le, List, [], ◌∷◌, ◌++◌, length, find, slice_range, Option, option_map, Result, Ok, bit_and, if◌then◌else◌}
use Rattle.byte_view.specs.Numbers.{le}
use Rattle.byte_view.specs.Reading.{Broken, ◌>>=◌, must, field, field_where, each}
use Rattle.byte_view.specs.ElfParts as parts

-- a load: where its header, and its bytes, stand in the file; where it stands in memory, from the
-- library's base; its size there
pub record Load : Type 0 where
  pub at : ℕ
  pub file_at : ℕ
  pub file_size : ℕ
  pub vaddr : ℕ
  pub size : ℕ
  pub readable : Bool
  pub writable : Bool
  pub executable : Bool

-- a shared library of 64 bits for RISC-V, lowest byte first, without compressed instructions (1)
-- and not RV32E or RV64E (8)
unfoldable pub identified : List ℕ → Result ℕ Broken
identified bytes = do
  _ ← field_where (λ magic. magic == 0x464C457F) parts.ident bytes 0 4
  _ ← field_where (λ class. class == 2) parts.ident bytes 4 1
  _ ← field_where (λ order. order == 1) parts.ident bytes 5 1
  _ ← field_where (λ version. version == 1) parts.ident bytes 6 1
  _ ← field_where (λ kind. kind == 3) parts.file_type bytes 16 2
  _ ← field_where (λ machine. machine == 243) parts.machine bytes 18 2
  field_where (λ flags. bit_and flags 9 == 0) parts.flags bytes 48 4

-- where the program headers, of 56 bytes each, stand, and how many they are
unfoldable pub program_headers : List ℕ → Result (ℕ × ℕ) Broken
program_headers bytes = do
  _ ← field_where (λ size. size == 56) parts.program_headers bytes 54 2
  count ← field parts.program_headers bytes 56 2
  let start : ℕ = le bytes 32 8
  _ ← must (count == 0 || nat_le (start + 56 * count) (length bytes)) (parts.program_headers, 32)
  Ok (start, count)

-- the program header has a type
abbrev pub is_of_type : ℕ → List ℕ → ℕ → Bool
is_of_type type bytes at = le bytes at 4 == type

abbrev pub pt_load : ℕ
pt_load = 1

abbrev pub pt_dynamic : ℕ
pt_dynamic = 2

abbrev pub pt_tls : ℕ
pt_tls = 7

-- the right that a bit of p_flags gives
abbrev pub has_flag : ℕ → List ℕ → ℕ → Bool
has_flag flag bytes at = not (bit_and (le bytes (at + 4) 4) flag == 0)

-- The load of a header: its bytes are in the file, it is not smaller in memory, and it lies there
-- after the end of the load before and below 2^32.
unfoldable pub load_at : List ℕ → ℕ → ℕ → Result Load Broken
load_at bytes end at = do
  let file_at : ℕ = le bytes (at + 8) 8
  let vaddr : ℕ = le bytes (at + 16) 8
  let file_size : ℕ = le bytes (at + 32) 8
  let size : ℕ = le bytes (at + 40) 8
  _ ← must (nat_le (file_at + file_size) (length bytes)) (parts.load, at + 8)
  _ ← must (nat_le file_size size) (parts.load, at + 32)
  _ ← must (nat_le end vaddr && nat_lt (vaddr + size) (2 ^ 32)) (parts.load, at + 16)
  Ok (record {
    at = at;
    file_at = file_at;
    file_size = file_size;
    vaddr = vaddr;
    size = size;
    readable = has_flag 4 bytes at;
    writable = has_flag 2 bytes at;
    executable = has_flag 1 bytes at;
  })

-- where a load ends in memory
abbrev pub end_of : Load → ℕ
end_of load = load.vaddr + load.size

-- where the last of some loads ends, 0 where there is none
abbrev pub last_end : List Load → ℕ
last_end [] = 0
last_end (load ∷ []) = end_of load
last_end (load ∷ next ∷ more) = last_end (next ∷ more)

-- some loads, and that of one more header, if it is of a load
unfoldable pub and_load : List ℕ → List Load → ℕ → Result (List Load) Broken
and_load bytes loads at =
    if is_of_type pt_load bytes at
    then (load_at bytes (last_end loads) at >>= λ load. Ok (loads ++ load ∷ []))
    else Ok loads

-- the loads among the first program headers
unfoldable pub loads : List ℕ → ℕ → ℕ → Result (List Load) Broken
loads bytes start zero = Ok []
loads bytes start (suc n) = loads bytes start n >>= λ before. and_load bytes before (start + 56 * n)

-- no header is of thread-local storage
abbrev pub without_tls : List ℕ → ℕ → ℕ → Result ℕ Broken
without_tls bytes start count =
    each
    (λ n. must (not (is_of_type pt_tls bytes (start + 56 * n))) (parts.tls, start + 56 * n))
    count

-- the file has the bytes of a range of addresses, in this load
unfoldable pub holds_range : ℕ → ℕ → Load → Bool
holds_range addr len load =
    nat_le load.vaddr addr && nat_le (addr + len) (load.vaddr + load.file_size)

-- where a load has the byte of an address in the file
abbrev pub file_place_in : ℕ → Load → ℕ
file_place_in addr load = load.file_at + (addr - load.vaddr)

-- where the bytes of a range of addresses stand in the file: in one load
unfoldable pub file_place : List Load → ℕ → ℕ → Option ℕ
file_place loads addr len = option_map (file_place_in addr) (find (holds_range addr len) loads)

-- the bytes that the file has from an address to the end of its load
unfoldable pub bytes_from : List ℕ → List Load → ℕ → Option (List ℕ)
bytes_from bytes loads addr =
    option_map (λ load. slice_range bytes (file_place_in addr load) (load.file_at + load.file_size))
    (find (holds_range addr 1) loads)
