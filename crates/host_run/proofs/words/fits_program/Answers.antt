use Rattle.std.proofs.Common.{◌<◌, length, sym, arith}
use Rattle.std.specs.Prelude.{sum_by}
use Rattle.std.proofs.lemmas.Bool.{and_right, lt-leb}
use Rattle.host_run.specs.Grammar.{texts}
use Rattle.host_run.proofs.Lines.{bytes_left}
use Rattle.host_run.proofs.words.fits_program.Goals as goal

pub returns-then-len-room : goal.returns-then-len-room
returns-then-len-room c =
    let left = bytes_left c.args.words.now c.loop-word.word-index c.word-item.result (omega arith) c.word-item.is in
    let past : 16777216 < sum_by length (texts c.args.words.now) = omega (arith, left) in
    sym (and_right _ _ (lt-leb _ _ past))

pub loop-word-preserved : goal.loop-word-preserved
loop-word-preserved c =
    let left = bytes_left c.args.words.now c.loop-word.word-index c.word-item.result (omega arith) c.word-item.is in
    omega (arith, left)
