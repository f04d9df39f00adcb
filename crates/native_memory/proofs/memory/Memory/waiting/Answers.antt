use Rattle.std.proofs.Common.{rules, arith, ◌≡◌, ◌<◌, ◌≢◌, ℕ, true, false, not, ◌&&◌, ◌==◌, length, refl}
use Rattle.std.specs.Prelude.{is_some}
use Rattle.std.proofs.lemmas.Bool.Decides.{nat_tests}
use Rattle.native_memory.specs.InPlace.{is_in_place_at}
use Rattle.native_memory.proofs.Picks.{picked_within, fails_both, picked_both, unpicked_both}
use Rattle.native_memory.proofs.memory.Memory.waiting.Goals as goal
use Rattle.native_memory.proofs.memory.Memory.waiting.Goals.{else-not-has_contents-via-then-not-has_contents+else-size-len, else-not-has_contents-via-else-not-has_contents}

equal_is : (a b : ℕ) → a ≡ b → (a == b) ≡ true
equal_is a b same = grind (arith, nat_tests)

other_is : (a b : ℕ) → a ≢ b → (a == b) ≡ false
other_is a b other = grind (arith, nat_tests)

pub returns-in_err-at : goal.returns-in_err-at
returns-in_err-at c =
    rw c.from_residual.ensures (fails_both (is_in_place_at c.args.base) (λ block. not (is_some block.contents) && (block.size == c.args.len)) _ c.in_err-at.ensures)

pub index-block-requires : goal.index-block-requires
index-block-requires c =
    let within : c.in_ok-at.at < length c.self.inside.blocks.items = picked_within _ _ _ (rw (← c.self.view_is) at c.in_ok-at.ensures) in
    search rules

pub returns-then-size-len : goal.returns-then-size-len
returns-then-size-len c =
    picked_both (is_in_place_at c.args.base) (λ block. not (is_some block.contents) && (block.size == c.args.len)) _ _ c.index-block.result.now c.in_ok-at.ensures
    (rw (← c.self.view_is, ← c.index-block.ensures, ← c.if-not-has_contents.ensures, ← c.size.ensures) (equal_is _ _ c.if-size-len.true))

pub returns-else-not-has_contents : goal.returns-else-not-has_contents
returns-else-not-has_contents c =
    unpicked_both (is_in_place_at c.args.base) (λ block. not (is_some block.contents) && (block.size == c.args.len)) _ _ c.index-block.result.now c.in_ok-at.ensures
    (rw (← c.self.view_is, ← c.index-block.ensures) (elim c.else-not-has_contents.branch [
      | else-not-has_contents-via-then-not-has_contents+else-size-len w ↦ rw (← w.if-not-has_contents.ensures, ← w.size.ensures) (other_is _ _ w.if-size-len.false)
      | else-not-has_contents-via-else-not-has_contents w ↦ rw (← w.if-not-has_contents.ensures) refl
    ]))
