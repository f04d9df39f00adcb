use Rattle.image_kit.proofs.Pieces.{chain_grown}
use Rattle.image_kit.proofs.elf_symbols.put_hash_table.Goals as goal

pub loop-symbol-preserved : goal.loop-symbol-preserved
loop-symbol-preserved c =
    chain_grown c.args.out.now _ c.loop-symbol.out c.put32-in-loop-symbol.new.out c.loop-symbol.symbol c.saturating_sub.result c.loop-symbol.invariant c.saturating_sub.ensures c.in_ok-put32-4.ensures
