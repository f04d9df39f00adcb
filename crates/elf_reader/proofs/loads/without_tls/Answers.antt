use Rattle.std.proofs.Common.{◌+◌, ◌*◌, ℕ, not, List, Result}
use Rattle.std.proofs.lemmas.Result.{err_from_is_err_and}
use Rattle.byte_view.specs.Reading.{Broken, must}
use Rattle.byte_view.specs.ElfLoads.{is_of_type, pt_tls}
use Rattle.byte_view.specs.ElfParts as parts
use Rattle.byte_view.proofs.Reading.{each_none, each_more, each_fails}
use Rattle.elf_reader.proofs.loads.without_tls.Goals as goal

abbrev has_no_tls : List ℕ → ℕ → ℕ → Result ℕ Broken
has_no_tls bytes start n = must (not (is_of_type pt_tls bytes (start + 56 * n))) (parts.tls, start + 56 * n)

pub loop-k-init : goal.loop-k-init
loop-k-init c = each_none (has_no_tls c.args.bytes.now c.args.headers.start)

pub returns-in_err-must : goal.returns-in_err-must
returns-in_err-must c =
    let p = err_from_is_err_and c.from_residual.result c.from_residual.ensures.1 in
    let here = rw c.header_type.ensures at c.in_err-must.ensures in
    rw (p.1, p.2) (each_fails (has_no_tls c.args.bytes.now c.args.headers.start) c.loop-k.k c.args.headers.count 0 _ c.loop-k.invariant here c.loop-k-test.true)

pub loop-k-preserved : goal.loop-k-preserved
loop-k-preserved c =
    let here = rw c.header_type.ensures at c.in_ok-must.ensures in
    each_more (has_no_tls c.args.bytes.now c.args.headers.start) c.loop-k.k 0 0 c.loop-k.invariant here
