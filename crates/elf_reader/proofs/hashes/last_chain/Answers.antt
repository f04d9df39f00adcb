use Rattle.std.proofs.Common.{◌≡◌, sym, ◌∙◌, inl, inr, arith}
use Rattle.std.specs.Prelude.{max, nat_le}
use Rattle.std.proofs.lemmas.Bool.{or_cases, leb-true}
use Rattle.elf_reader.proofs.Buckets.{greatest_more, any_more, max_is}
use Rattle.elf_reader.proofs.hashes.last_chain.Goals as goal

pub loop-k-preserved : goal.loop-k-preserved
loop-k-preserved c =
    let greatest : c.max-greatest.result ≡ max c.loop-k.greatest c.number32-start.result = c.max-greatest.ensures ∙ max_is c.loop-k.greatest c.number32-start.result in
    record {
      greatest = rw (greatest, c.loop-k.invariant.greatest, c.number32-start.ensures) (sym (greatest_more c.args.bytes.now c.args.at c.loop-k.k));
      any = rw (c.loop-k.invariant.any, c.number32-start.ensures) (sym (any_more c.args.bytes.now c.args.at (λ start. nat_le c.args.first start) c.loop-k.k));
      above = λ e. elim (or_cases _ _ e) [
        | inl before ↦ (let h = c.loop-k.invariant.above before in omega (arith, greatest))
        | inr here ↦ (let h = leb-true _ _ here in omega (arith, greatest))
      ];
    }
