use Rattle.std.proofs.Common.{◌≡◌, ℕ, ◌++◌, sym, ap, ◌∙◌, arith}
use Rattle.type_model.specs.Types.{bases_within}
use Rattle.type_model.proofs.Chains.{chain_full}
use Rattle.type_members.proofs.members.Members.chain.Goals as goal

pub returns : goal.returns
returns c =
    let z : c.loop-left.left ≡ 0 = omega arith in
    sym (chain_full c.args.self.now c.loop-left.chain c.loop-left.at)
    ∙ ap (λ (n : ℕ). c.loop-left.chain ++ bases_within n c.args.self.now c.loop-left.at) (sym z)
    ∙ c.loop-left.invariant
