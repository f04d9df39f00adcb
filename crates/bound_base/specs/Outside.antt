-- What a store holds and a sink has got, where they tell it, and their counts of faults.
use Rattle.std.specs.Prelude.{◌≡◌, ◌⊎◌, ℕ, ◌<◌, ◌≤◌, ◌^◌, ◌-◌, List, ◌++◌, length, take, drop, Option, Some, None, Result, Ok, Err, ⊤}
use Rattle.bound_base.specs.declared.outside.StoreFault.{StoreFault}
use Rattle.bound_base.specs.declared.outside.StoreFault.TheVariants.{Absent, Failed, Memory}

-- the contents under each name, None where the name isn't held
abbrev pub Files : Type 0
Files = List ℕ → Option (List ℕ)

-- what a store tells of one name: nothing, that it isn't held, or its contents
abbrev pub contents_under : Option Files → List ℕ → Option (Option (List ℕ))
contents_under None name = None
contents_under (Some files) name = Some (files name)

-- The answer of a read at an offset into a slice, which is `into` afterwards, by what is told of the name.
-- Where nothing is told, any answer is.
abbrev pub IsReadOf : Option (Option (List ℕ)) → ℕ → List ℕ → Result ℕ StoreFault → Type 0
IsReadOf None at into result = ⊤
IsReadOf (Some None) at into (Ok n) = ⊥
IsReadOf (Some None) at into (Err Absent) = ⊤
IsReadOf (Some None) at into (Err Failed) = ⊤
IsReadOf (Some None) at into (Err Memory) = ⊥
IsReadOf (Some (Some contents)) at into (Ok n) =
    (take n into ≡ take n (drop at contents)) × (n ≡ 0 → (length into ≡ 0) ⊎ (length contents ≤ at))
IsReadOf (Some (Some contents)) at into (Err Absent) = ⊥
IsReadOf (Some (Some contents)) at into (Err Failed) = ⊤
IsReadOf (Some (Some contents)) at into (Err Memory) = ⊤

-- a count of faults rose in a call: it is greater after it, or stands at its greatest
abbrev pub Rose : ℕ → ℕ → Type 0
Rose before after = (before < after) ⊎ (after ≡ 2 ^ 64 - 1)

-- a read that doesn't fail leaves the count
abbrev pub CountsOnlyFailed : Result ℕ StoreFault → ℕ → ℕ → Type 0
CountsOnlyFailed (Ok n) before after = after ≡ before
CountsOnlyFailed (Err Absent) before after = after ≡ before
CountsOnlyFailed (Err Failed) before after = ⊤
CountsOnlyFailed (Err Memory) before after = after ≡ before

-- what is told of a sink after a piece was appended
abbrev pub appended : Option (List ℕ) → List ℕ → Option (List ℕ)
appended None piece = None
appended (Some bytes) piece = Some (bytes ++ piece)

-- a front of the piece, at most the whole, was appended
abbrev pub AppendsFront : Option (List ℕ) → Option (List ℕ) → List ℕ → Type 0
AppendsFront old new piece =
    (front : List ℕ) × (rest : List ℕ) × (piece ≡ front ++ rest) × (new ≡ appended old front)
