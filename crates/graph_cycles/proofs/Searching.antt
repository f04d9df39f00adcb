-- Searches: what reaching one more node keeps, and what a search that is over has reached.
use Rattle.std.proofs.Common.{◌≡◌, ℕ, ◌+◌, ◌<◌, ◌≤◌, inl, inr, Bool, true, false, not, cond, List, [], ◌∷◌, ◌++◌, length, get_or, set, sym, ap, ◌∙◌, subst, arith, append_assoc, length-append, length-set, get_or-set_other}
use Rattle.std.specs.Prelude.{Contains, count_by}
use Rattle.std.proofs.lemmas.Bool.Decides.{eqb_tells}
use Rattle.std.proofs.lemmas.List.{get_or_default, get_or_append_left}
use Rattle.std.proofs.lemmas.List.Elements.{All-push, All-contains, Contains-push, Contains-append_left}
use Rattle.std.proofs.lemmas.List.Sums.{sum_by-set}
use Rattle.graph_cycles.specs.declared.graph.Edge.{Edge}
use Rattle.graph_cycles.specs.Cycles.{Leads}
use Rattle.graph_cycles.specs.Cycles.Leads.{Along, Further}
use Rattle.graph_cycles.specs.Parts.{Continues, IsFollowed, IsSearch, Grows}

module _ (edges : List Edge) (start node : ℕ) (marks : List Bool) (queue : List ℕ) (within : node < length marks)
    (unmarked : get_or marks node false ≡ false) (leads : Leads edges start node) (search : IsSearch edges start marks queue)
  where
    still_queued : (other : ℕ) → get_or (set marks node true) other false ≡ true → Contains (queue ++ node ∷ []) other
    still_queued other marked =
        elim (eqb_tells other node) [
          | inl same ↦ subst (λ n. Contains (queue ++ node ∷ []) n) (sym same.1) (Contains-push queue node)
          | inr not_same ↦
              Contains-append_left queue (node ∷ []) other
              (search.queued other (sym (get_or-set_other marks node other true false not_same.1) ∙ marked))
        ]

    still_counted : length (queue ++ node ∷ []) + count_by not (set marks node true) ≡ length (set marks node true)
    still_counted =
        let sums = sum_by-set (λ (mark : Bool). cond (not mark) 1 0) marks node true false within in
        let one = ap (λ (mark : Bool). let n : ℕ = cond (not mark) 1 0 in n) unmarked in
        simp (length-append, length-set) (omega (arith, sums, one, search.counted))

    pub reached_more : IsSearch edges start (set marks node true) (queue ++ node ∷ [])
    reached_more = record {
      reached = All-push (Leads edges start) queue node search.reached leads;
      queued = still_queued;
      counted = still_counted;
    }

pub Grows-trans : (a b c : List Bool) (p q r : List ℕ) → Grows a b p q → Grows b c q r → Grows a c p r
Grows-trans a b c p q r first second = record {
  marks = second.marks ∙ first.marks;
  kept = λ node marked. second.kept node (first.kept node marked);
  added = first.added ++ second.added;
  places = second.places ∙ ap (λ (l : List ℕ). l ++ second.added) first.places ∙ append_assoc p first.added second.added;
}

-- the places that a queue had are the same after it has grown
pub kept_place : (a b : List Bool) (p q : List ℕ) (k : ℕ) → Grows a b p q → k < length p → get_or q k 0 ≡ get_or p k 0
kept_place a b p q k grows within = rw grows.places (get_or_append_left p grows.added 0 k within)

pub longer : (a b : List Bool) (p q : List ℕ) → Grows a b p q → length p ≤ length q
longer a b p q grows = rw grows.places (simp length-append (omega arith))

module _ (edges : List Edge) (start : ℕ) (marks : List Bool) (queue : List ℕ) (search : IsSearch edges start marks queue) where
  pub reached_leads : (to : ℕ) → get_or marks to false ≡ true → Leads edges start to
  reached_leads to marked = All-contains (Leads edges start) queue to search.reached (search.queued to marked)

  -- what a queued node's edges lead to ends a walk from the start
  pub continues : (k : ℕ) → k < length queue → Continues edges start (get_or queue k 0)
  continues k within to edge = Further (search.reached k 0 within) edge

  module _ (first : IsFollowed edges marks start) (done : (k : ℕ) → k < length queue → IsFollowed edges marks (get_or queue k 0)) where
    pub all_reached : (to : ℕ) → Leads edges start to → get_or marks to false ≡ true
    all_reached to (Along edge) = first to edge
    all_reached to (Further {v = v} walk edge) =
        let place = search.queued v (all_reached v walk) in
        subst (λ n. IsFollowed edges marks n) (get_or_default queue place.0 0 v place.1 ∙ place.2) (done place.0 place.1) to edge
