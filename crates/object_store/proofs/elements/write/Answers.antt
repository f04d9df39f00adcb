use Rattle.std.proofs.Common.{◌∙◌, arith}
use Rattle.std.proofs.lemmas.List.Edits.{paste_more}
use Rattle.object_store.proofs.elements.write.Goals as goal

pub loop-i-preserved : goal.loop-i-preserved
loop-i-preserved c =
    c.set.ensures ∙ rw c.loop-i.invariant (paste_more c.args.bytes.now c.args.at c.args.new.now c.loop-i.i 0 (omega arith) (omega arith))
