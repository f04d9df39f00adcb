use Rattle.std.proofs.Common.{List, ℕ, ◌∷◌, [], ◌++◌, ap, ◌∙◌}
use Rattle.type_members.proofs.Marks.{rows_more}
use Rattle.type_members.proofs.method_keys.push_row_marks.Goals as goal

pub loop-before-preserved : goal.loop-before-preserved
loop-before-preserved c =
    rows_more c.args.types.now c.args.marks.now c.loop-before.marks c.push.new.self c.loop-before.before c.loop-before.invariant
    (c.in_ok-push.ensures.ok ∙ ap (λ (w : List ℕ). c.loop-before.marks ++ w ∷ []) c.in_ok-method_mark.ensures)
