-- The first section of the definitions that holds a range is the first section of the code that does.
use Rattle.std.proofs.Common.{◌≡◌, ℕ, Bool, true, false, cond, List, [], ◌∷◌, map, find, Option, Some, option_map, refl}
use Rattle.byte_view.specs.Headers as definition
use Rattle.pe_reader.specs.declared.sections.Section.{Section}
use Rattle.pe_reader.specs.Pe.{section_of}

chosen : {A B : Type 0} (f : A → B) (x : A) (b : Bool) (o : Option A) (p : Option B) → option_map f o ≡ p → option_map f (cond b (Some x) o) ≡ cond b (Some (f x)) p
chosen f x true o p e = refl
chosen f x false o p e = e

find_mapped : {A B : Type 0} (p : B → Bool) (f : A → B) (xs : List A) → option_map f (find (λ x. p (f x)) xs) ≡ find p (map f xs)
find_mapped p f [] = refl
find_mapped p f (x ∷ xs) = chosen f x (p (f x)) _ _ (find_mapped p f xs)

pub first_section : (size rva len : ℕ) (sections : List Section) → option_map section_of (find (λ section. definition.holds_range size rva len (section_of section)) sections) ≡ find (definition.holds_range size rva len) (map section_of sections)
first_section size rva len sections = find_mapped (definition.holds_range size rva len) section_of sections
