use Rattle.std.proofs.Common.{◌≡◌, ℕ, sym, ap, ◌∙◌, arith}
use Rattle.std.specs.List.{list_any}
use Rattle.type_model.specs.TypeIds.{same_type}
use Rattle.type_model.specs.Types.{bases_within}
use Rattle.type_model.proofs.Walks.{below_end}
use Rattle.type_model.proofs.bases.Bases.is_below.Goals as goal

pub returns : goal.returns
returns c =
    let z : c.loop-left.left ≡ 0 = omega arith in
    sym (below_end c.args.self.now c.args.base c.loop-left.at)
    ∙ ap (λ (n : ℕ). list_any (same_type c.args.base) (bases_within n c.args.self.now c.loop-left.at)) (sym z)
    ∙ c.loop-left.invariant
