-- What is kept beside a module: what each row of MemberRef finds, the graphs of types and those right above them, and numbers by
-- which methods are told that are like each other.
use Rattle.std.specs.Prelude.{◌≡◌, ℕ, true, false, List, Option, map}
use Rattle.std.specs.List.Sorted.{IsPermutation}
use Rattle.graph_cycles.specs.declared.graph.Edge.{Edge}
use Rattle.type_model.specs.Module.{Module}
use Rattle.type_model.specs.Rows.{member_refs}
use Rattle.type_model.specs.Names.{numbers}
use Rattle.type_members.specs.declared.member.Member.{Member}
use Rattle.type_members.specs.Found.{ref_found}
use Rattle.type_members.specs.Subtypes.{type_edges}
use Rattle.type_members.specs.Akin.{TellsLike}

-- row after row
abbrev pub found_refs : Module → List (Option Member)
found_refs m = map (ref_found m) (numbers m member_refs)

-- the edges from types to those right above them, and those by which arrays follow their elements, in whatever order
pub record HoldsMembers (m : Module) (refs : List (Option Member)) (plain elements : List Edge) (keys : List ℕ) : Type 0 where
  pub refs_found : refs ≡ found_refs m
  pub plain_edges : IsPermutation (type_edges m false) plain
  pub element_edges : IsPermutation (type_edges m true) elements
  pub likeness : TellsLike m keys
