use Rattle.std.proofs.Common.{◌≡◌, ◌<◌, true, false, sym, ◌∙◌, refl, ap, arith}
use Rattle.std.proofs.lemmas.Bool.{eq-eqb, ne_eqb}
use Rattle.std.proofs.lemmas.List.{map_push}
use Rattle.std.proofs.lemmas.Result.{err_from_is_err_and}
use Rattle.byte_view.specs.ElfDynamic as definition
use Rattle.elf_reader.specs.Elf.{dynamic_entry}
use Rattle.elf_reader.proofs.Entries.{no_checks, one_more, goes_more, checked_more, ended, unended, refused}
use Rattle.elf_reader.proofs.dynamic.dynamic_table.Goals as goal

pub loop-k-init : goal.loop-k-init
loop-k-init c = rw c.new-table.ensures (record { table = refl; going = λ k d h. absurd (omega arith); checked = no_checks })

pub returns-then-entry-eq-DT_NULL : goal.returns-then-entry-eq-DT_NULL
returns-then-entry-eq-DT_NULL c =
    let here = rw c.number64-start.ensures at c.entry_at-entry.ensures in
    let last : definition.is_end (dynamic_entry c.entry_at-entry.result) ≡ true = eq-eqb _ 0 c.if-entry-eq-DT_NULL.true in
    rw c.loop-k.invariant.table (ended c.args.bytes.now c.args.header c.loop-k.k (omega (arith, c.entry_count-count.ensures.count)) c.loop-k.invariant.going c.loop-k.invariant.checked (ap definition.is_end (sym here) ∙ last))

pub returns-in_err-check_entry : goal.returns-in_err-check_entry
returns-in_err-check_entry c =
    let p = err_from_is_err_and c.from_residual.result c.from_residual.ensures.1 in
    let here = rw c.number64-start.ensures at c.entry_at-entry.ensures in
    let more : definition.is_end (dynamic_entry c.entry_at-entry.result) ≡ false = ne_eqb _ 0 c.if-entry-eq-DT_NULL.false in
    rw (p.1, p.2) (refused c.args.bytes.now c.args.header _ c.loop-k.k (omega (arith, c.entry_count-count.ensures.count)) c.loop-k.invariant.going c.loop-k.invariant.checked (ap definition.is_end (sym here) ∙ more) (rw here at c.in_err-check_entry.ensures))

pub loop-k-preserved : goal.loop-k-preserved
loop-k-preserved c =
    let here = rw c.number64-start.ensures at c.entry_at-entry.ensures in
    let within : c.loop-k.k < definition.entry_count c.args.bytes.now c.args.header = omega (arith, c.entry_count-count.ensures.count) in
    let more : definition.is_end (dynamic_entry c.entry_at-entry.result) ≡ false = ne_eqb _ 0 c.if-entry-eq-DT_NULL.false in
    record {
      table = rw (c.in_ok-push.ensures.ok, map_push dynamic_entry c.loop-k.table c.entry_at-entry.result, c.loop-k.invariant.table, here) (sym (one_more c.args.bytes.now c.args.header c.loop-k.k within));
      going = goes_more c.args.bytes.now c.args.header c.loop-k.k within c.loop-k.invariant.going (ap definition.is_end (sym here) ∙ more);
      checked = checked_more c.args.bytes.now c.args.header c.loop-k.k 0 within c.loop-k.invariant.checked (rw here at c.in_ok-check_entry.ensures);
    }

pub returns : goal.returns
returns c =
    rw (c.into.ensures, c.broken.ensures) (unended c.args.bytes.now c.args.header c.loop-k.k (omega (arith, c.entry_count-count.ensures.count)) c.loop-k.invariant.going c.loop-k.invariant.checked)
