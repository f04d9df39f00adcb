-- A type of the file with the types that enclose it, and the name that they make.
use Rattle.std.specs.Prelude.{ℕ, zero, suc, ◌==◌, List, [], ◌∷◌, ◌++◌, if◌then◌else◌}
use Rattle.type_model.specs.Module.{Module}
use Rattle.type_model.specs.Rows.{encloser}
use Rattle.type_model.specs.FullNames.{own_name}

-- a type and so many of the types that enclose it
abbrev pub chain_within : ℕ → Module → ℕ → List ℕ
chain_within zero m t = t ∷ []
chain_within (suc n) m t =
    t ∷ (if encloser m t == 0 then [] else chain_within n m (encloser m t))

-- the names of a chain, the last first, each other one after a plus
abbrev pub chain_name : Module → List ℕ → List ℕ
chain_name m [] = []
chain_name m (t ∷ []) = own_name m t
chain_name m (t ∷ outer ∷ more) = chain_name m (outer ∷ more) ++ 43 ∷ own_name m t
