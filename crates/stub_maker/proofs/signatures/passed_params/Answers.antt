use Rattle.std.proofs.Common.{ℕ, ◌<◌, List, [], ◌∷◌, ◌++◌, map, length, take, sym, ap, ◌∙◌, arith}
use Rattle.std.specs.List.{enumerate_from}
use Rattle.sig_reader.specs.declared.signature.TypeSig.{TypeSig}
use Rattle.stub_maker.specs.declared.kinds.Passed.{Passed}
use Rattle.stub_maker.specs.Described.{passed_at}
use Rattle.stub_maker.proofs.Numbered.{numbered_taken}
use Rattle.stub_maker.proofs.signatures.passed_params.Goals as goal

pub loop-index-preserved : goal.loop-index-preserved
loop-index-preserved c =
    let f : ℕ × TypeSig → Passed = λ numbered. passed_at c.args.types.now c.args.method numbered.0 numbered.1 in
    let within : c.loop-index.index < length c.args.sigs.now = omega arith in
    c.in_ok-push.ensures.ok
    ∙ ap (λ (l : List Passed). l ++ c.passed_at.result ∷ []) c.loop-index.invariant
    ∙ ap (λ (p : Passed). map f (enumerate_from 1 (take c.loop-index.index c.args.sigs.now)) ++ p ∷ []) (c.passed_at.ensures ∙ ap (λ (n : ℕ). f (n, c.index-sigs-index.result)) c.in_ok-place.ensures)
    ∙ sym (numbered_taken f c.args.sigs.now c.loop-index.index c.index-sigs-index.result within c.index-sigs-index.is)
