-- What the functions that look for cycles say to one another.
use Rattle.std.specs.Prelude.{◌≡◌, ℕ, ◌+◌, ◌≤◌, ◌==◌, ◌||◌, Bool, true, false, not, List, ◌++◌, length, Contains, All, count_by, slice_index_or}
use Rattle.graph_cycles.specs.declared.graph.Edge.{Edge}
use Rattle.graph_cycles.specs.Cycles.{HasEdge, Leads}

-- these are the edges that come from a node
pub record AreEdgesFrom (edges : List Edge) (node : ℕ) (found : List Edge) : Type 0 where
  pub only : All (λ edge. (edge.from ≡ node) × HasEdge edges node edge.to) found
  pub all : (to : ℕ) → HasEdge edges node to → Contains found (record { from = node; to = to })

-- each edge that comes from a node ends a walk from the start
abbrev pub Continues : List Edge → ℕ → ℕ → Type 0
Continues edges start node = (to : ℕ) → HasEdge edges node to → Leads edges start to

-- each edge that comes from a node leads to one that is marked
abbrev pub IsFollowed : List Edge → List Bool → ℕ → Type 0
IsFollowed edges marks node = (to : ℕ) → HasEdge edges node to → slice_index_or marks to false ≡ true

-- The nodes of a queue are reached from a start, the marked nodes stand in it, and with those that
-- aren't marked it is as long as the marks.
pub record IsSearch (edges : List Edge) (start : ℕ) (marks : List Bool) (queue : List ℕ) : Type 0 where
  pub reached : All (Leads edges start) queue
  pub queued : (node : ℕ) → slice_index_or marks node false ≡ true → Contains queue node
  pub counted : length queue + count_by not marks ≡ length marks

-- no mark and no place of the queue is lost
pub record Grows (old new : List Bool) (queue longer : List ℕ) : Type 0 where
  pub marks : length new ≡ length old
  pub kept : (node : ℕ) → slice_index_or old node false ≡ true → slice_index_or new node false ≡ true
  pub added : List ℕ
  pub places : longer ≡ queue ++ added

-- the number of a node, 0 where it has none
abbrev pub number_of : List ℕ → ℕ → ℕ
number_of numbers node = slice_index_or numbers node 0

-- no edge leads to a lesser number
abbrev pub IsRising : List ℕ → List Edge → Type 0
IsRising numbers edges = All (λ edge. number_of numbers edge.from ≤ number_of numbers edge.to) edges

-- The edge may be one of a cycle: where no edge leads to a lesser number, the edges of a cycle
-- lead to equal ones.
abbrev pub may_close : Bool → List ℕ → Edge → Bool
may_close rising numbers edge = not rising || number_of numbers edge.from == number_of numbers edge.to
