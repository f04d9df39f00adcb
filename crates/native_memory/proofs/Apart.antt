-- Blocks of a sound memory lie apart.
use Rattle.std.proofs.Common.{◌≡◌, ℕ, zero, suc, ◌<◌, ◌≤◌, List, [], ◌∷◌, Some, arith}
use Rattle.std.specs.Prelude.{slice_get}
use Rattle.native_memory.specs.AddressSpace.{Block, AddressSpace}
use Rattle.native_memory.specs.Placement.{edge_of}
use Rattle.native_memory.specs.Sound.{LieBetween, IsSound}
use Rattle.native_memory.specs.Laws.{LieApart}

first_at : (from end : ℕ) (blocks : List Block) (i : ℕ) (a : Block) → LieBetween from blocks end → slice_get blocks i ≡ Some a → from ≤ a.base
first_at from end [] i a lie is = cc
first_at from end (block ∷ rest) zero a lie is = let e : block ≡ a = cc in rw (← e) lie.0
first_at from end (block ∷ rest) (suc i) a lie is =
    let more : edge_of block ≤ a.base = first_at (edge_of block) end rest i a lie.1 is in
    let low : from ≤ block.base = lie.0 in omega arith

whole_at : (from end : ℕ) (blocks : List Block) → LieBetween from blocks end → from ≤ end
whole_at from end [] lie = lie
whole_at from end (block ∷ rest) lie =
    let more : edge_of block ≤ end = whole_at (edge_of block) end rest lie.1 in
    let low : from ≤ block.base = lie.0 in omega arith

last_at : (from end : ℕ) (blocks : List Block) (i : ℕ) (a : Block) → LieBetween from blocks end → slice_get blocks i ≡ Some a → edge_of a ≤ end
last_at from end [] i a lie is = cc
last_at from end (block ∷ rest) zero a lie is = let e : block ≡ a = cc in rw (← e) (whole_at (edge_of block) end rest lie.1)
last_at from end (block ∷ rest) (suc i) a lie is = last_at (edge_of block) end rest i a lie.1 is

apart_at : (from end : ℕ) (blocks : List Block) (i j : ℕ) (a b : Block) → LieBetween from blocks end → i < j → slice_get blocks i ≡ Some a → slice_get blocks j ≡ Some b → edge_of a ≤ b.base
apart_at from end [] i j a b lie order is there = cc
apart_at from end (block ∷ rest) i zero a b lie order is there = absurd (omega arith)
apart_at from end (block ∷ rest) zero (suc j) a b lie order is there =
    let e : block ≡ a = cc in rw (← e) (first_at (edge_of block) end rest j b lie.1 there)
apart_at from end (block ∷ rest) (suc i) (suc j) a b lie order is there = apart_at (edge_of block) end rest i j a b lie.1 (omega arith) is there

pub lie_apart : (space : AddressSpace) → IsSound space → LieApart space
lie_apart space sound = record {
  apart = λ i j a b order is there. apart_at _ _ space.blocks i j a b sound.apart order is there;
  low = λ i a is. first_at _ _ space.blocks i a sound.apart is;
  high = λ i a is. let e : edge_of a ≤ space.edge = last_at _ _ space.blocks i a sound.apart is in omega (arith, sound.edge);
  room = sound.room;
}
