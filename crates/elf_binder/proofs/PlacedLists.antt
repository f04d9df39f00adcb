-- The list of the libraries and their bases.
use Rattle.std.proofs.Common.{◌≡◌, ℕ, zero, suc, ◌+◌, ◌<◌, ◌≤◌, List, [], ◌∷◌, ◌++◌, length, get_or, map, drop, Some, refl, sym, ap, ◌∙◌, append_assoc, append-nil, add-one, arith}
use Rattle.std.specs.Prelude.{slice_get, zip}
use Rattle.std.proofs.lemmas.List.{length_push}
use Rattle.std.proofs.lemmas.Option.{slice_get-get_or}
use Rattle.elf_binder.specs.Modules.{Module}
use Rattle.elf_binder.specs.Loading.{Source}
use Rattle.elf_binder.specs.Binding.{module_of}
use Rattle.elf_binder.proofs.StepByStep.{next_is, all_gone}

pub zip_at : {A B : Type 0} (xs : List A) (ys : List B) (k : ℕ) (x : A) (y : B) → slice_get xs k ≡ Some x → slice_get ys k ≡ Some y → slice_get (zip xs ys) k ≡ Some (x, y)
zip_at [] ys k x y first second = absurd (cc)
zip_at (a ∷ xs) [] k x y first second = absurd (cc)
zip_at (a ∷ xs) (b ∷ ys) zero x y first second = let one : a ≡ x = cc in let other : b ≡ y = cc in rw (one, other) refl
zip_at (a ∷ xs) (b ∷ ys) (suc k) x y first second = zip_at xs ys k x y first second

pub length-placed : {A B : Type 0} (xs : List A) (ys : List B) → length xs ≡ length ys → length (zip xs ys) ≡ length ys
length-placed [] [] same = refl
length-placed [] (b ∷ ys) same = absurd (omega arith)
length-placed (a ∷ xs) [] same = absurd (omega arith)
length-placed (a ∷ xs) (b ∷ ys) same = ap suc (length-placed xs ys (omega arith))

-- the library of a number, and its base
pub placed_is : (sources : List Source) (bases : List ℕ) (k : ℕ) (source : Source) → slice_get sources k ≡ Some source → k < length bases
    → slice_get (zip sources bases) k ≡ Some (source, get_or bases k 0)
placed_is sources bases k source is within = zip_at sources bases k source (get_or bases k 0) is (slice_get-get_or bases k 0 within)

-- ---- the modules

pub record Named (placed : List (Source × ℕ)) (now : List Module) (k : ℕ) : Type 0 where
  pub left : map module_of placed ≡ now ++ map module_of (drop k placed)
  pub count : length now ≡ k

pub none_named : (placed : List (Source × ℕ)) → Named placed [] 0
none_named placed = record { left = refl; count = refl }

pub one_named : (placed : List (Source × ℕ)) (now : List Module) (k : ℕ) (p : Source × ℕ) (m : Module) (new : List Module)
    → Named placed now k → slice_get placed k ≡ Some p → m ≡ module_of p → new ≡ now ++ m ∷ [] → Named placed new (k + 1)
one_named placed now k p m new came is_placed is pushed =
    record {
      left = came.left ∙ rw (next_is placed k p is_placed, pushed, is, add-one, append_assoc) refl;
      count = rw pushed (omega (arith, length_push now m, came.count));
    }

pub all_named : (placed : List (Source × ℕ)) (now : List Module) (k : ℕ) → Named placed now k → length placed ≤ k → now ≡ map module_of placed
all_named placed now k came done = sym (came.left ∙ rw (all_gone placed k done) (append-nil now))
