use Rattle.std.proofs.Common.{◌≡◌, ℕ, List, map, take}
use Rattle.type_members.specs.Akin.{number_in}
use Rattle.type_members.specs.FirstPlaces.{known_place}
use Rattle.type_members.proofs.FirstPlaces.{seen}
use Rattle.type_members.proofs.method_keys.numbers_of.Given as goal

abbrev pub invariant-loop-place : goal.invariant-loop-place
invariant-loop-place l = record {
  numbers : l.numbers ≡ map (number_in l.marks) (take l.place l.marks);
  known : (w : List ℕ) → known_place w l.firsts ≡ seen w (take l.place l.marks);
}
