-- When a plan fits, by its tests.
use Rattle.std.proofs.Common.{◌≡◌, ℕ, ◌+◌, ◌-◌, ◌^◌, ◌<◌, ◌≤◌, false, List, length, get_or, sym, ap, ◌∙◌, subst, inl, inr, arith}
use Rattle.std.specs.Prelude.{◌↔◌, IsTrue, IsSome, All, Contains, nat_le, min}
use Rattle.std.proofs.lemmas.Bool.{cases_lt, le-leb, leb-true, false≢true}
use Rattle.std.proofs.lemmas.List.{get_or_default}
use Rattle.rv_decode.specs.declared.instr.Instr.{Instr}
use Rattle.rv_decode.specs.Encoding.{encoding}
use Rattle.image_kit.specs.declared.library_plan.NamedPlace.{NamedPlace}
use Rattle.image_kit.specs.declared.library_plan.LibraryPlan.{LibraryPlan}
use Rattle.image_kit.specs.LibraryFile.{file_end}
use Rattle.image_kit.specs.LibraryReads.{Fits}

-- the first names hold no zero
abbrev pub AreFree : List NamedPlace → ℕ → Type 0
AreFree names n = (k : ℕ) (d : NamedPlace) → k < n → ¬ Contains (get_or names k d).name 0

pub free_more : (names : List NamedPlace) (i : ℕ) (place : NamedPlace) (name : List ℕ) → AreFree names i → i < length names → place ≡ get_or names i place → name ≡ place.name → (Contains name 0 → IsTrue false) → AreFree names (i + 1)
free_more names i place name before h e same free k d below holds =
    elim (cases_lt k i) [
      | inl l ↦ before k d l holds
      | inr g ↦ (let here : k ≡ i = omega arith in
          let there : get_or names k d ≡ place = ap (λ n. get_or names n d) here ∙ get_or_default names i d place h ∙ sym e in
          let found : Contains name 0 = subst (λ (xs : List ℕ). Contains xs 0) (ap (λ (p : NamedPlace). p.name) there ∙ sym same) holds in
          absurd (false≢true (free found)))
    ]

pub not_all_free : (names : List NamedPlace) (i : ℕ) (place : NamedPlace) (name : List ℕ) → i < length names → place ≡ get_or names i place → name ≡ place.name → Contains name 0 → (All (λ place. ¬ Contains place.name 0) names) → IsTrue false
not_all_free names i place name h e same holds free =
    let there : Contains (get_or names i place).name 0 = subst (λ (xs : List ℕ). Contains xs 0) (same ∙ ap (λ (p : NamedPlace). p.name) e) holds in
    absurd (free i place h there)

-- a plan whose names don't fit
pub names_fail : (plan : LibraryPlan) (names : List NamedPlace) → names ≡ plan.names → (All (λ place. ¬ Contains place.name 0) names → IsTrue false) → Fits plan → IsTrue false
names_fail plan names same fail fits = fail (subst (λ (names : List NamedPlace). All (λ place. ¬ Contains place.name 0) names) (sym same) fits.names)

-- a plan whose instructions and names fit, by its size
pub fits_by_size : (plan : LibraryPlan) (code : List Instr) (names : List NamedPlace) (size : ℕ) → code ≡ plan.code → names ≡ plan.names → All (λ instr. IsSome (encoding instr)) code → All (λ place. ¬ Contains place.name 0) names → size ≡ min (file_end plan) (2 ^ 64 - 1) → IsTrue (nat_le size 67108864) ↔ Fits plan
fits_by_size plan code names size same_code same_names encode free is = (
  λ e. let small : size ≤ 67108864 = leb-true size 67108864 e in
      record {
        encode = subst (λ (code : List Instr). All (λ instr. IsSome (encoding instr)) code) same_code encode;
        names = subst (λ (names : List NamedPlace). All (λ place. ¬ Contains place.name 0) names) same_names free;
        small = omega arith;
      },
  λ fits. let small = fits.small in le-leb size 67108864 (omega arith),
)
