use Rattle.std.proofs.Common.{◌≡◌, ℕ, List, ◌∷◌, [], ◌++◌, map, ap, sym, ◌∙◌, subst, append_assoc}
use Rattle.std.specs.Prelude.{OnOk}
use Rattle.sig_reader.specs.declared.signature.TypeSig.{TypeSig}
use Rattle.sig_reader.specs.declared.signature.Sig.{Sig}
use Rattle.type_model.specs.Module.{Module}
use Rattle.type_members.specs.Spelled.{said, type_words, sig_words, counted}
use Rattle.type_members.proofs.Spellings.{inst_parts, fn_ptr_parts}
use Rattle.type_members.proofs.spelling.+spelling.Goals as goal

pub spell_parts-returns-in_ok-spell_held-in-Inst : goal.spell_parts-returns-in_ok-spell_held-in-Inst
spell_parts-returns-in_ok-spell_held-in-Inst t c =
    let m : Module = c.args.types.now in
    let before : List ℕ = c.args.words.now in
    let held : c.spell_held-in-Inst.new.words ≡ before ++ 0x15 ∷ type_words m c.get-in-Inst.result.now = c.in_ok-spell_held-in-Inst.ensures in
    let is : (said m c.args.sig.now).parts ≡ 0x15 ∷ type_words m c.in-Inst.generic ++ counted (map (type_words m) c.in-Inst.arguments) =
    ap (λ (s : TypeSig). (said m s).parts) c.in-Inst.is ∙ inst_parts m c.in-Inst.generic c.in-Inst.arguments in
    subst (λ (w : List ℕ). OnOk c.spell_types.result (c.spell_types.new.words ≡ w))
    (ap (λ (w : List ℕ). w ++ counted (map (type_words m) c.as_slice-in-Inst.result.now)) held
    ∙ append_assoc before (0x15 ∷ type_words m c.get-in-Inst.result.now) (counted (map (type_words m) c.as_slice-in-Inst.result.now))
    ∙ ap (λ (g : TypeSig). before ++ (0x15 ∷ type_words m g ++ counted (map (type_words m) c.as_slice-in-Inst.result.now))) c.get-in-Inst.ensures
    ∙ ap (λ (a : List TypeSig). before ++ (0x15 ∷ type_words m c.in-Inst.generic ++ counted (map (type_words m) a))) c.as_slice-in-Inst.ensures
    ∙ ap (λ (w : List ℕ). before ++ w) (sym is))
    c.spell_types.ensures

pub spell_parts-returns-in_ok-push-in-FnPtr : goal.spell_parts-returns-in_ok-push-in-FnPtr
spell_parts-returns-in_ok-push-in-FnPtr t c =
    let m : Module = c.args.types.now in
    let before : List ℕ = c.args.words.now in
    let is : (said m c.args.sig.now).parts ≡ 0x1B ∷ sig_words m c.in-FnPtr.sig =
    ap (λ (s : TypeSig). (said m s).parts) c.in-FnPtr.is ∙ fn_ptr_parts m c.in-FnPtr.sig in
    subst (λ (w : List ℕ). OnOk c.spell_sig.result (c.spell_sig.new.words ≡ w))
    (ap (λ (w : List ℕ). w ++ sig_words m c.get-in-FnPtr.result.now) c.in_ok-push-in-FnPtr.ensures.ok
    ∙ append_assoc before (0x1B ∷ []) (sig_words m c.get-in-FnPtr.result.now)
    ∙ ap (λ (s : Sig). before ++ (0x1B ∷ sig_words m s)) c.get-in-FnPtr.ensures
    ∙ ap (λ (w : List ℕ). before ++ w) (sym is))
    c.spell_sig.ensures
