use Rattle.std.proofs.Common.{rules, ◌≡◌, ◌<◌, length, Option, Some, None, false, refl, sym}
use Rattle.std.specs.Prelude.{is_some}
use Rattle.native_memory.specs.InPlace.{is_in_place_at, with_contents}
use Rattle.native_memory.proofs.Picks.{picked_within}
use Rattle.native_memory.proofs.Kept.{set_kept, contents_keep, takes_whole}
use Rattle.native_memory.proofs.Changes.{lent_found, lent_missing, taken_found}
use Rattle.native_memory.proofs.memory.Memory.take_back.Goals as goal

none_of : {X : Type 0} (o : Option X) → is_some o ≡ false → o ≡ None
none_of (Some x) none = cc
none_of None none = refl

pub returns-in_err-at-clause-bytes : goal.returns-in_err-at-clause-bytes
returns-in_err-at-clause-bytes c = rw (c.from_residual.ensures, lent_missing c.args.self.now.space c.args.base c.in_err-at.ensures) refl

pub index-requires : goal.index-requires
index-requires c =
    let within : c.in_ok-at.at < length c.self.inside.blocks.items = picked_within _ _ _ (rw (← c.self.view_is) at c.in_ok-at.ensures) in
    search rules

pub returns-then-not-has_contents-clause-bytes : goal.returns-then-not-has_contents-clause-bytes
returns-then-not-has_contents-clause-bytes c =
    rw (lent_found c.args.self.now.space c.args.base c.in_ok-at.at c.index.result.now c.in_ok-at.ensures, ← c.self.view_is, ← c.index.ensures)
    (sym (none_of _ (sym c.if-not-has_contents.ensures)))

pub index_mut-requires : goal.index_mut-requires
index_mut-requires c =
    let within : c.in_ok-at.at < length c.self.inside.blocks.items = picked_within _ _ _ (rw (← c.self.view_is) at c.in_ok-at.ensures) in
    search rules

pub returns-in_err-contents-clause-bytes : goal.returns-in_err-contents-clause-bytes
returns-in_err-contents-clause-bytes c =
    rw (
      c.from_residual-in_err-contents.ensures,
      lent_found c.args.self.now.space c.args.base c.in_ok-at.at c.index_mut.result.now c.in_ok-at.ensures,
      ← c.self.view_is,
      ← c.index_mut.ensures.value,
    ) c.in_err-contents.ensures.old

pub invariant_of-self-2 : goal.invariant_of-self-2
invariant_of-self-2 c =
    let picks = rw (← c.self.view_is) at c.in_ok-at.ensures in
    rw (c.replace.ensures.new, c.index_mut.ensures.value)
    (set_kept _ (is_in_place_at c.args.base) (with_contents None) c.in_ok-at.at c.index_mut.result.now c.self.inside.live
    c.self.invariant picks (contents_keep None) (takes_whole c.args.base))

pub returns-clause-bytes : goal.returns-clause-bytes
returns-clause-bytes c =
    rw (lent_found c.args.self.now.space c.args.base c.in_ok-at.at c.index_mut.result.now c.in_ok-at.ensures, ← c.self.view_is, ← c.index_mut.ensures.value, c.from_vec.ensures)
    c.in_ok-contents.ensures.old

pub returns-clause-taken : goal.returns-clause-taken
returns-clause-taken c =
    rw (taken_found c.args.self.now.space c.args.base c.in_ok-at.at c.index_mut.result.now c.in_ok-at.ensures, ← c.self.view_is, c.replace.ensures.new, ← c.index_mut.ensures.value) refl
