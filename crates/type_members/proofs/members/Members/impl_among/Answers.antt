use Rattle.std.proofs.Common.{◌≡◌, ℕ, Bool, List, Option, sym, ap, ◌∙◌, eq-eqb}
use Rattle.std.specs.Prelude.{filter, find, option_and_then, slice_index, ◌==◌}
use Rattle.type_model.specs.Module.{Module, rows}
use Rattle.type_model.specs.Rows.{method_impls}
use Rattle.type_members.specs.declared.member.Member.{Member}
use Rattle.type_members.specs.Chosen.{is_for, method_at}
use Rattle.type_members.proofs.Entries.{row_here}
use Rattle.type_members.proofs.members.Members.impl_among.Goals as goal

pub returns-then-is_for : goal.returns-then-is_for
returns-then-is_for c =
    let m : Module = c.args.self.now in
    let own : List ℕ → Bool = λ (numbers : List ℕ). slice_index numbers 0 == c.args.t in
    let body : List ℕ → Option Member = λ (numbers : List ℕ). method_at m (slice_index numbers 1) in
    let all : c.rows-row-items.result.now ≡ rows m method_impls =
    c.rows-row-items.ensures.rows ∙ ap (λ (m : Module). rows m method_impls) (c.image.ensures ∙ c.types.ensures) in
    c.method_at.ensures
    ∙ sym (ap (λ (l : List (List ℕ)). option_and_then body (find (is_for m c.args.x) (filter own l))) (sym all)
    ∙ ap (option_and_then body) (c.loop-row.invariant
    ∙ row_here own (is_for m c.args.x) c.rows-row-items.result.now c.loop-row.row-index _ c.loop-row-test.true
    (eq-eqb _ c.args.t c.if-row-t.true) (sym c.is_for.ensures ∙ c.if-is_for.true)))
