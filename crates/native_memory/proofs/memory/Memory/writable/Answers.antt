use Rattle.std.proofs.Common.{rules, arith, ◌≡◌, ◌<◌, true, false, Option, Some, None, length, refl, sym}
use Rattle.std.specs.Prelude.{is_some, option_map}
use Rattle.native_memory.specs.Ranges.{may_write}
use Rattle.native_memory.proofs.Picks.{picked_within, picked_true}
use Rattle.native_memory.proofs.RangesFound.{bytes_missing, bytes_found}
use Rattle.native_memory.proofs.memory.Memory.writable.Goals as goal

copied_some : {X Y : Type 0} (f : X → Y) (o : Option X) → is_some o ≡ true → is_some (option_map f o) ≡ true
copied_some f (Some x) some = refl
copied_some f None some = some

copied_none : {X Y : Type 0} (f : X → Y) (o : Option X) → is_some o ≡ false → option_map f o ≡ None
copied_none f (Some x) none = cc
copied_none f None none = refl

pub returns-in_err-at : goal.returns-in_err-at
returns-in_err-at c =
    rw c.from_residual.ensures (bytes_missing may_write c.args.self.now.space c.args.addr c.args.len (omega arith) c.in_err-at.ensures)

pub index-requires : goal.index-requires
index-requires c =
    let within : c.in_ok-at.at < length c.self.inside.blocks.items = picked_within _ _ _ (rw (← c.self.view_is) at c.in_ok-at.ensures) in
    search rules

pub part-requires-clause-covers : goal.part-requires-clause-covers
part-requires-clause-covers c =
    rw c.index.ensures (picked_true _ _ _ _ (rw (← c.self.view_is) at c.in_ok-at.ensures))

pub part-requires-clause-whole : goal.part-requires-clause-whole
part-requires-clause-whole c =
    rw c.index.ensures (c.self.invariant.sound.whole c.in_ok-at.at _ (picked_within _ _ _ (rw (← c.self.view_is) at c.in_ok-at.ensures)))

pub returns-then-is_some : goal.returns-then-is_some
returns-then-is_some c =
    let found = bytes_found may_write c.args.self.now.space c.args.addr c.args.len c.in_ok-at.at c.index.result.now (omega arith) c.in_ok-at.ensures in
    (c.in_ok-at.ensures, rw (found, ← c.self.view_is, ← c.index.ensures, ← c.part.ensures.value) (copied_some _ _ (sym c.if-is_some.ensures)))

pub returns-else-is_some : goal.returns-else-is_some
returns-else-is_some c =
    let found = bytes_found may_write c.args.self.now.space c.args.addr c.args.len c.in_ok-at.at c.index.result.now (omega arith) c.in_ok-at.ensures in
    rw (found, ← c.self.view_is, ← c.index.ensures, ← c.part.ensures.value) (copied_none _ _ (sym c.if-is_some.ensures))
