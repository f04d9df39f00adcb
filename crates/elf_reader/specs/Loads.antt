-- What holds of the loads that are read from a file of a size.
use Rattle.std.specs.Prelude.{ℕ, ◌+◌, ◌^◌, ◌<◌, ◌≤◌, List, All, AllPairs}
use Rattle.elf_reader.specs.declared.elf.Load.{Load}

-- where the bytes of a load that the file has end in memory
abbrev pub file_end : Load → ℕ
file_end load = load.vaddr + load.file_size

-- the bytes of each are in the file, and lie in memory below 2^32 and before any later load
pub record AreSound (size : ℕ) (loads : List Load) : Type 0 where
  pub in_file : All (λ load. load.file_at + load.file_size ≤ size) loads
  pub low : All (λ load. file_end load < 2 ^ 32) loads
  pub apart : AllPairs (λ one later. file_end one ≤ later.vaddr) loads
