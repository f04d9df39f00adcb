-- The relocations of a library (System V gABI, 'Relocation'; RISC-V psABI, 'Relocations').
use Rattle.std.specs.Prelude.{ℕ, ℤ, ◌+◌, ◌*◌, ◌/◌, ◌%◌, ◌^◌, List, [], ◌++◌, map, Option, Some, None, Result, Ok}
use Rattle.std.specs.List.{range_with_len}
use Rattle.std.specs.Int.{w64, cast_signed}
use Rattle.byte_view.specs.Numbers.{le}
use Rattle.byte_view.specs.Reading.{Broken, ◌>>=◌}
use Rattle.byte_view.specs.ElfLoads.{Load}
use Rattle.byte_view.specs.ElfDynamic.{Entry, entry_of, value_of, dt_rela, dt_relasz, dt_jmprel, dt_pltrelsz}
use Rattle.byte_view.specs.ElfSymbols.{table_place}
use Rattle.byte_view.specs.ElfParts as parts

-- a relocation: where its entry stands in the file, and what the entry holds
pub record Relocation : Type 0 where
  pub at : ℕ
  pub offset : ℕ
  pub symbol : ℕ
  pub kind : ℕ
  pub addend : ℤ

-- an entry of 24 bytes; of its second doubleword the low half is the type, the high half a symbol's
-- number
abbrev pub relocation_at : List ℕ → ℕ → Relocation
relocation_at bytes at = record {
  at = at;
  offset = le bytes at 8;
  symbol = le bytes (at + 8) 8 / 2 ^ 32;
  kind = le bytes (at + 8) 8 % 2 ^ 32;
  addend = cast_signed w64 (le bytes (at + 16) 8);
}

-- the relocations of a table of a size; one that isn't there has none
unfoldable pub relocation_table :
    List ℕ → List Load → Option Entry → ℕ → Result (List Relocation) Broken
relocation_table bytes loads None size = Ok []
relocation_table bytes loads (Some entry) size = do
  at ← table_place parts.relocs loads entry entry.value size
  Ok (map (λ k. relocation_at bytes (at + 24 * k)) (range_with_len 0 (size / 24)))

-- those of DT_RELA, then those of DT_JMPREL
unfoldable pub relocations : List ℕ → List Load → List Entry → Result (List Relocation) Broken
relocations bytes loads table = do
  own ← relocation_table bytes loads (entry_of table dt_rela) (value_of table dt_relasz)
  jumps ← relocation_table bytes loads (entry_of table dt_jmprel) (value_of table dt_pltrelsz)
  Ok (own ++ jumps)
