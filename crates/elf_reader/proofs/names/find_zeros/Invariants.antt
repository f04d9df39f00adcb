use Rattle.std.proofs.Common.{◌≡◌, ◌+◌, ◌*◌, ◌/◌, ◌≤◌, ℕ, length, slice_index}
use Rattle.elf_reader.specs.Names.{IsFirstZero}
use Rattle.elf_reader.proofs.names.find_zeros.Given as goal

abbrev pub invariant-loop-at : goal.invariant-loop-at
invariant-loop-at l = record {
  next : IsFirstZero l.bytes l.at l.next;
  count : length l.from_block.items ≡ length l.bytes / 64 + 1;
  each : (block : ℕ) → l.at ≤ 64 * block → 64 * block ≤ length l.bytes → IsFirstZero l.bytes (64 * block) (slice_index l.from_block.items block);
}
