-- SafeHandle is the one core type that has an interface.
use Rattle.std.proofs.Common.{◌≡◌, ℕ, zero, suc, ◌+◌, ◌<◌, Bool, true, false, cond, ◌&&◌, ◌||◌, eqb, ltb, List, [], ◌∷◌, map, slice_get, refl, sym, ap, ◌∙◌, arith, ltb-true}
use Rattle.std.specs.Prelude.{bytes_eq}
use Rattle.std.specs.List.{list_any}
use Rattle.std.proofs.lemmas.Bool.{and_parts, ne_eqb}
use Rattle.std.proofs.lemmas.Slice.Eq.{bytes_eq-Decides}
use Rattle.managed_value.specs.declared.names.TypeId.{TypeId}
use Rattle.type_model.specs.Core.{CoreType, core_at, core_types}
use Rattle.type_model.specs.TypeIds.{core_id, same_type}
use Rattle.type_members.specs.Subtypes.{core_interfaces}

abbrev interfaces_at : ℕ → List ℕ
interfaces_at k = cond (eqb k 30) (24 ∷ []) []

abbrev told : List CoreType → ℕ → Bool
told [] k = ltb 30 k
told (t ∷ ts) k = bytes_eq t.interfaces (interfaces_at k) && told ts (suc k)

as_told : (ts : List CoreType) (k p at : ℕ) → at ≡ k + p → told ts k ≡ true → core_interfaces (slice_get ts p) ≡ interfaces_at at
as_told [] k p at is good =
    let past : 30 < k = ltb-true 30 k good in
    let other : eqb at 30 ≡ false = ne_eqb at 30 (λ same. omega (arith, past, same, is)) in
    sym (ap (λ (b : Bool). cond b (24 ∷ []) []) other)
as_told (t ∷ ts) k zero at is good =
    let same : k ≡ at = omega (arith, is) in
    (bytes_eq-Decides t.interfaces (interfaces_at k)).0 (and_parts (bytes_eq t.interfaces (interfaces_at k)) (told ts (suc k)) good).0
    ∙ ap interfaces_at same
as_told (t ∷ ts) k (suc p) at is good =
    as_told ts (suc k) p at (omega (arith, is)) (and_parts (bytes_eq t.interfaces (interfaces_at k)) (told ts (suc k)) good).1

interfaces_of_core : (p : ℕ) → core_interfaces (core_at p) ≡ interfaces_at p
unfolding core_at core_types
interfaces_of_core p = as_told core_types 0 p p (omega arith) refl

or_none : (b : Bool) → (b || false) ≡ b
or_none true = refl
or_none false = refl

any_of : (i : TypeId) (b : Bool) → list_any (same_type i) (map core_id (cond b (24 ∷ []) [])) ≡ (b && same_type i (core_id 24))
any_of i true = or_none (same_type i (core_id 24))
any_of i false = refl

pub core_has : (i : TypeId) (p : ℕ) → list_any (same_type i) (map core_id (core_interfaces (core_at p))) ≡ (eqb p 30 && same_type i (core_id 24))
core_has i p = ap (λ (l : List ℕ). list_any (same_type i) (map core_id l)) (interfaces_of_core p) ∙ any_of i (eqb p 30)
