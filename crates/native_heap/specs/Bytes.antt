-- Copying, comparing and filling ranges of bytes (ISO/IEC 9899 7.24). Where that standard leaves
-- room: `memcpy` is `memmove` also where its ranges overlap; a comparison answers -1, 0 or 1, as a
-- word of 64 bits; a range of no bytes may be anywhere.
use Rattle.std.specs.Prelude.{ℕ, ◌-◌, ◌%◌, ◌^◌, replicate, Some}
use Rattle.std.specs.Ordering.{nat_cmp}
use Rattle.std.specs.declared.cmp.Ordering.{Ordering}
use Rattle.std.specs.declared.cmp.Ordering.TheVariants.{Less, Equal, Greater}
use Rattle.std.specs.Cmp.Lexicographic.{slice_cmp}
use Rattle.native_memory.specs.AddressSpace.{AddressSpace}
use Rattle.native_memory.specs.Ranges.{may_read, bytes_at, written_at}
use Rattle.native_heap.specs.Outcome.{Outcome, ◌>>=◌, answering}

-- `memcpy` and `memmove` (7.24.2.1, 7.24.2.2): the bytes that stood at `from` stand at `to`
unfoldable pub memmove : AddressSpace → ℕ → ℕ → ℕ → Outcome
memmove space to from len =
    bytes_at may_read space from len >>= λ bytes. answering to (written_at space to bytes)

-- `memset` (7.24.6.1): a range of one byte, the lowest of a word
unfoldable pub memset : AddressSpace → ℕ → ℕ → ℕ → Outcome
memset space to c len = answering to (written_at space to (replicate len (c % 256)))

-- the word of a comparison
abbrev pub sign : Ordering → ℕ
sign Less = 2 ^ 64 - 1
sign Equal = 0
sign Greater = 1

-- `memcmp` (7.24.4.1): by the first bytes that differ, each without sign
unfoldable pub memcmp : AddressSpace → ℕ → ℕ → ℕ → Outcome
memcmp space a b len = do
  left ← bytes_at may_read space a len
  right ← bytes_at may_read space b len
  Some (sign (slice_cmp nat_cmp left right), space)
