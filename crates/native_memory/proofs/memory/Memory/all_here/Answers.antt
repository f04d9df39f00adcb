use Rattle.std.proofs.Common.{rules, ◌≡◌, ◌+◌, ◌<◌, ℕ, false, ◌&&◌, List, length, drop, get_or, sym, ap, ◌∙◌}
use Rattle.std.specs.List.{list_all}
use Rattle.std.proofs.lemmas.List.{at_drop_more, at_drop_all}
use Rattle.native_memory.specs.AddressSpace.{Block}
use Rattle.native_memory.specs.InPlace.{is_here, are_all_here}
use Rattle.native_memory.proofs.memory.Memory.all_here.Goals as goal

one_away : (blocks : List Block) (at : ℕ) (d : Block) → at < length blocks → is_here (get_or blocks at d) ≡ false
    → list_all is_here (drop at blocks) ≡ list_all is_here blocks → false ≡ list_all is_here blocks
one_away blocks at d within away so_far =
    let here : list_all is_here (drop at blocks) ≡ (is_here (get_or blocks at d) && list_all is_here (drop (at + 1) blocks)) =
    at_drop_more (list_all is_here) blocks at d within in
    sym (ap (λ b. b && list_all is_here (drop (at + 1) blocks)) away) ∙ sym here ∙ so_far

pub returns-then-not-is_here : goal.returns-then-not-is_here
unfolding are_all_here
returns-then-not-is_here c = rw (← c.self.view_is) (one_away _ c.loop-at.at c.index.result.now (search rules) (rw (← c.index.ensures) (sym c.if-not-is_here.ensures)) c.loop-at.invariant)

pub returns : goal.returns
unfolding are_all_here
returns c =
    rw (← c.self.view_is) (sym (at_drop_all (list_all is_here) _ c.loop-at.at (search rules)) ∙ c.loop-at.invariant)
