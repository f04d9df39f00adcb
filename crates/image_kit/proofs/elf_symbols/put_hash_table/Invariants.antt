use Rattle.std.proofs.Common.{◌≡◌, ◌+◌, ◌-◌, ◌++◌}
use Rattle.std.specs.List.{flat_map, range_with_len}
use Rattle.image_kit.specs.LibraryFile.{u32}
use Rattle.image_kit.proofs.elf_symbols.put_hash_table.Given as goal

abbrev pub invariant-loop-symbol : goal.invariant-loop-symbol
invariant-loop-symbol l =
    l.out ≡ l.fn.out ++ (u32 1 ++ u32 (l.names + 1) ++ u32 l.names ++ flat_map (λ k. u32 (k - 1)) (range_with_len 0 l.symbol))
