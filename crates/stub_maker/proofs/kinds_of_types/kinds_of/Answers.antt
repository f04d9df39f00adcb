use Rattle.std.proofs.Common.{◌+◌, List, [], ◌∷◌, ◌++◌, map, sym, ap, ◌∙◌, arith}
use Rattle.std.specs.List.{range_with_len}
use Rattle.std.proofs.lemmas.List.FromFn.{map-range_with_len_more}
use Rattle.stub_maker.specs.declared.kinds.Kind.{Kind}
use Rattle.stub_maker.specs.Described.{file_kind}
use Rattle.stub_maker.proofs.kinds_of_types.kinds_of.Goals as goal

pub loop-t-preserved : goal.loop-t-preserved
loop-t-preserved c =
    let more = map-range_with_len_more (file_kind c.args.types.now) 1 c.loop-t.t (c.loop-t.t + 1) (omega arith) in
    c.in_ok-push.ensures.ok
    ∙ ap (λ (l : List Kind). l ++ c.in_ok-file_kind.field-0 ∷ []) c.loop-t.invariant
    ∙ ap (λ (k : Kind). map (file_kind c.args.types.now) (range_with_len 1 c.loop-t.t) ++ k ∷ []) c.in_ok-file_kind.ensures
    ∙ sym more
