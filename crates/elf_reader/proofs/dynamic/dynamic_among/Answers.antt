use Rattle.std.proofs.Common.{◌≡◌, ◌+◌, ◌*◌, ◌≤◌, length, true, false, ◌∙◌, sym, arith}
use Rattle.std.proofs.lemmas.Bool.{eq-eqb, ne_eqb}
use Rattle.std.proofs.lemmas.Result.{err_from_is_err_and}
use Rattle.byte_view.specs.ElfLoads.{is_of_type, pt_dynamic}
use Rattle.elf_reader.proofs.ProgramHeaders.{among_none, among_refused, among_found, among_passed}
use Rattle.elf_reader.proofs.dynamic.dynamic_among.Goals as goal
use Rattle.elf_reader.proofs.dynamic.dynamic_among.Goals.{then-header_type-eq-PT_DYNAMIC+in_ok-must, else-header_type-eq-PT_DYNAMIC}

pub loop-k-init : goal.loop-k-init
loop-k-init c = record { found = among_none c.args.bytes.now c.args.headers.start; within = tt }

pub returns-in_err-must-clause-header : goal.returns-in_err-must-clause-header
returns-in_err-must-clause-header c =
    let p = err_from_is_err_and c.from_residual.result c.from_residual.ensures.1 in
    let here : is_of_type pt_dynamic c.args.bytes.now (c.args.headers.start + 56 * c.loop-k.k) ≡ true = eq-eqb _ 2 (sym c.header_type.ensures ∙ c.if-header_type-eq-PT_DYNAMIC.true) in
    rw (p.1, p.2) (among_refused c.args.bytes.now c.args.headers.start _ c.loop-k.k c.args.headers.count c.loop-k.found c.is_none.result c.is_none.ensures c.loop-k.invariant.found c.loop-k-test.true here c.in_err-must.ensures)

pub loop-k-preserved : goal.loop-k-preserved
loop-k-preserved c =
    elim c.if-header_type-eq-PT_DYNAMIC.branch [
      | then-header_type-eq-PT_DYNAMIC+in_ok-must w ↦
          (let here : is_of_type pt_dynamic c.args.bytes.now (c.args.headers.start + 56 * c.loop-k.k) ≡ true = eq-eqb _ 2 (sym c.header_type.ensures ∙ w.if-header_type-eq-PT_DYNAMIC.true) in
          let inside : c.args.headers.start + 56 * c.loop-k.k + 56 ≤ length c.args.bytes.now = omega arith in
          rw w.found-is (record { found = among_found c.args.bytes.now c.args.headers.start c.loop-k.k 0 c.loop-k.found w.is_none.result w.is_none.ensures c.loop-k.invariant.found here w.in_ok-must.ensures; within = inside }))
      | else-header_type-eq-PT_DYNAMIC w ↦
          (let here : is_of_type pt_dynamic c.args.bytes.now (c.args.headers.start + 56 * c.loop-k.k) ≡ false = ne_eqb _ 2 (λ e. w.if-header_type-eq-PT_DYNAMIC.false (c.header_type.ensures ∙ e)) in
          rw w.found-is (record { found = among_passed c.args.bytes.now c.args.headers.start c.loop-k.k c.loop-k.found c.loop-k.invariant.found here; within = c.loop-k.invariant.within }))
    ]
