use Rattle.std.proofs.Common.{◌≡◌, false, get_or, sym}
use Rattle.graph_cycles.proofs.Searching.{reached_more}
use Rattle.graph_cycles.proofs.search.Search.reach.Goals as goal

pub returns-in_ok-push-clause-search : goal.returns-in_ok-push-clause-search
returns-in_ok-push-clause-search c = λ edges start leads search.
    let unmarked : get_or c.args.self.now.marks.items c.args.node false ≡ false = sym (rw c.if-not-index.true at c.index.ensures) in
    rw c.in_ok-push.ensures.items
    (reached_more edges start c.args.node c.args.self.now.marks.items c.args.self.now.queue.items c.requires unmarked leads search)
