-- Names in the scope of libraries, one library after another.
use Rattle.std.proofs.Common.{◌≡◌, ℕ, ◌+◌, ◌<◌, ◌≤◌, List, [], ◌∷◌, ◌++◌, length, get_or, drop, Option, Some, None, refl, sym, ap, ◌∙◌}
use Rattle.std.proofs.lemmas.List.{at_drop_more, at_drop_all}
use Rattle.std.proofs.lemmas.List.Elements.{All-head, All-tail}
use Rattle.elf_binder.specs.Modules.{Module, defined_in, address_of}
use Rattle.host_functions.specs.HostFunctions.{place_named}
use Rattle.elf_binder.specs.Laws.{FirstLibraryCounts, NamesStayDefined}

-- a library that defines the name gives the address
pub first_defines : (m : Module) (more : List Module) (name : List ℕ) (address : ℕ) → defined_in name m ≡ Some address → address_of (m ∷ more) name ≡ Some address
unfolding address_of
first_defines m more name address defined =
    ap (λ (found : Option ℕ). elim found as (λ _. Option ℕ) [ Some a ↦ Some a | None ↦ address_of more name ]) defined

-- one that doesn't is passed over
pub first_passed : (m : Module) (more : List Module) (name : List ℕ) → defined_in name m ≡ None → address_of (m ∷ more) name ≡ address_of more name
unfolding address_of
first_passed m more name undefined =
    ap (λ (found : Option ℕ). elim found as (λ _. Option ℕ) [ Some a ↦ Some a | None ↦ address_of more name ]) undefined

pub none_left : (name : List ℕ) → address_of [] name ≡ place_named name
unfolding address_of
none_left name = refl

-- the same at a place in a list
module _ (modules : List Module) (name : List ℕ) (k : ℕ) where
  pub place_defines : (m : Module) (address : ℕ) → k < length modules → m ≡ get_or modules k m → defined_in name m ≡ Some address
      → address_of (drop k modules) name ≡ Some address
  place_defines m address within here defined =
      at_drop_more (λ (l : List Module). address_of l name) modules k m within
      ∙ first_defines (get_or modules k m) (drop (k + 1) modules) name address (ap (defined_in name) (sym here) ∙ defined)

  pub place_passed : (m : Module) → k < length modules → m ≡ get_or modules k m → defined_in name m ≡ None
      → address_of (drop k modules) name ≡ address_of (drop (k + 1) modules) name
  place_passed m within here undefined =
      at_drop_more (λ (l : List Module). address_of l name) modules k m within
      ∙ first_passed (get_or modules k m) (drop (k + 1) modules) name (ap (defined_in name) (sym here) ∙ undefined)

  pub past_all : length modules ≤ k → address_of (drop k modules) name ≡ place_named name
  past_all end = at_drop_all (λ (l : List Module). address_of l name) modules k end ∙ none_left name

-- ---- laws

passed_if : (x : Module) (rest : List Module) (name : List ℕ) (address : ℕ) → defined_in name x ≡ None → address_of rest name ≡ Some address → address_of (x ∷ rest) name ≡ Some address
passed_if x rest name address undefined there = first_passed x rest name undefined ∙ there

pub first_counts : FirstLibraryCounts
first_counts [] after m name address passed defined = first_defines m after name address defined
first_counts (x ∷ before) after m name address passed defined =
    passed_if x (before ++ m ∷ after) name address (All-head (λ l. defined_in name l ≡ None) x before passed)
    (first_counts before after m name address (All-tail (λ l. defined_in name l ≡ None) x before passed) defined)

pub stay_defined : NamesStayDefined
unfolding address_of
stay_defined [] after m name address defined = first_defines m after name address defined ∙ sym (first_defines m [] name address defined)
stay_defined (x ∷ before) after m name address defined =
    ap (λ (later : Option ℕ). elim (defined_in name x) as (λ _. Option ℕ) [ Some a ↦ Some a | None ↦ later ]) (stay_defined before after m name address defined)
