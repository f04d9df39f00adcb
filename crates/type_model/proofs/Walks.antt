-- Walks along tokens, and along bases.
use Rattle.std.proofs.Common.{◌≡◌, ℕ, zero, suc, ◌-◌, ◌<◌, true, false, Some, None, option_and_then, refl, ap, ◌∙◌, arith}
use Rattle.std.specs.List.{list_any}
use Rattle.managed_value.specs.declared.names.TypeId.{TypeId}
use Rattle.type_model.specs.Module.{Module}
use Rattle.type_model.specs.TypeIds.{named_within, named_plainly, is_type_spec, bracketed, spec_leaf, token_row, same_type}
use Rattle.type_model.specs.Types.{extends_of, bases_within, and_bases}

-- through a row of TypeSpec
pub named_through : (m : Module) (n token : ℕ) → 0 < n → is_type_spec m token ≡ true → named_within n m token ≡ option_and_then (bracketed (named_within (n - 1) m)) (spec_leaf m (token_row token))
unfolding named_within
named_through m zero token l is = absurd (omega arith)
named_through m (suc n) token l is = let e : suc n - 1 ≡ n = omega arith in rw (is, e) refl

pub named_at_last : (m : Module) (n token : ℕ) → is_type_spec m token ≡ false → named_within n m token ≡ named_plainly m token
unfolding named_within
named_at_last m zero token is = refl
named_at_last m (suc n) token is = rw is refl

pub named_no_more : (m : Module) (token : ℕ) → named_within 0 m token ≡ named_plainly m token
unfolding named_within
named_no_more m token = refl

pub bases_step : (m : Module) (n : ℕ) (id : TypeId) → 0 < n → bases_within n m id ≡ and_bases (bases_within (n - 1) m) (extends_of m id)
unfolding bases_within
bases_step m zero id l = absurd (omega arith)
bases_step m (suc n) id l = let e : suc n - 1 ≡ n = omega arith in rw e refl

module _ (m : Module) (base : TypeId) where
  pub below_none : (left : ℕ) (at : TypeId) → extends_of m at ≡ None → list_any (same_type base) (bases_within left m at) ≡ false
  unfolding bases_within
  below_none zero at e = refl
  below_none (suc n) at e = ap (λ found. list_any (same_type base) (and_bases (bases_within n m) found)) e

  pub below_here : (left : ℕ) (at next : TypeId) → 0 < left → extends_of m at ≡ Some next → same_type base next ≡ true → list_any (same_type base) (bases_within left m at) ≡ true
  unfolding bases_within
  below_here zero at next l e is = absurd (omega arith)
  below_here (suc n) at next l e is = ap (λ found. list_any (same_type base) (and_bases (bases_within n m) found)) e ∙ rw is refl

  pub below_next : (left : ℕ) (at next : TypeId) → 0 < left → extends_of m at ≡ Some next → same_type base next ≡ false → list_any (same_type base) (bases_within left m at) ≡ list_any (same_type base) (bases_within (left - 1) m next)
  unfolding bases_within
  below_next zero at next l e is = absurd (omega arith)
  below_next (suc n) at next l e is = let p : suc n - 1 ≡ n = omega arith in ap (λ found. list_any (same_type base) (and_bases (bases_within n m) found)) e ∙ rw (is, p) refl

  pub below_end : (at : TypeId) → list_any (same_type base) (bases_within 0 m at) ≡ false
  unfolding bases_within
  below_end at = refl
