-- One level of a spelling.
use Rattle.std.proofs.Common.{◌≡◌, ℕ, List, ◌∷◌, ◌++◌, map, rules, ap, ◌∙◌}
use Rattle.std.proofs.lemmas.Simd.{map-map}
use Rattle.sig_reader.specs.declared.signature.TypeSig.{TypeSig, Inst, FnPtr, the_lemmas}
use Rattle.sig_reader.specs.declared.signature.Sig.{Sig, out-Sig}
use Rattle.type_model.specs.Module.{Module}
use Rattle.type_members.specs.Spelled.{said, said_words, type_words, sig_words, counted, flag}

inst_said : (m : Module) (generic : TypeSig) (arguments : List TypeSig) → (said m (Inst generic arguments)).parts ≡ 0x15 ∷ said_words (said m generic) ++ counted (map said_words (map (said m) arguments))
unfolding said
inst_said m generic arguments = search (rules, the_lemmas)

fn_ptr_said : (m : Module) (sig : Sig) → (said m (FnPtr sig)).parts ≡ 0x1B ∷ flag (out-Sig sig).has_this ∷ flag (out-Sig sig).vararg ∷ (out-Sig sig).generic
    ∷ said_words (said m (out-Sig sig).result) ++ counted (map said_words (map (said m) (out-Sig sig).params))
unfolding said
fn_ptr_said m sig = search (rules, the_lemmas)

pub inst_parts : (m : Module) (generic : TypeSig) (arguments : List TypeSig) → (said m (Inst generic arguments)).parts ≡ 0x15 ∷ type_words m generic ++ counted (map (type_words m) arguments)
inst_parts m generic arguments =
    inst_said m generic arguments
    ∙ ap (λ (ls : List (List ℕ)). 0x15 ∷ type_words m generic ++ counted ls) (map-map said_words (said m) arguments)

pub fn_ptr_parts : (m : Module) (sig : Sig) → (said m (FnPtr sig)).parts ≡ 0x1B ∷ sig_words m sig
fn_ptr_parts m sig =
    fn_ptr_said m sig
    ∙ ap (λ (ls : List (List ℕ)). 0x1B ∷ flag (out-Sig sig).has_this ∷ flag (out-Sig sig).vararg ∷ (out-Sig sig).generic
    ∷ type_words m (out-Sig sig).result ++ counted ls) (map-map said_words (said m) (out-Sig sig).params)
