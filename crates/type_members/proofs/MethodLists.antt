-- Lists of the methods of types.
use Rattle.std.proofs.Common.{◌≡◌, ℕ, ◌+◌, ◌-◌, ◌≤◌, Bool, List, [], ◌∷◌, ◌++◌, map, filter, sym, ap, ◌∙◌, arith}
use Rattle.std.specs.List.{range_with_len}
use Rattle.std.proofs.lemmas.List.{map-append, map-id}
use Rattle.std.proofs.lemmas.List.Elements.{filter-append}
use Rattle.std.proofs.lemmas.List.FromFn.{map-range_with_len_more}
use Rattle.type_model.specs.Types.{run}
use Rattle.type_members.specs.declared.member.Member.{Member}
use Rattle.type_members.specs.declared.member.Member.TheVariants.{Method, Core}

pub declared_more : (first at : ℕ) → first ≤ at → map Method (run first (at + 1)) ≡ map Method (run first at) ++ Method at ∷ []
declared_more first at l =
    let more : at + 1 - first ≡ (at - first) + 1 = omega arith in
    ap (λ (n : ℕ). map Method (range_with_len first n)) more
    ∙ map-range_with_len_more Method first (at - first) at (omega arith)

range_more : (k : ℕ) → range_with_len 0 (k + 1) ≡ range_with_len 0 k ++ k ∷ []
range_more k =
    sym (map-id (range_with_len 0 (k + 1))) ∙ map-range_with_len_more (λ n. n) 0 k k (omega arith)
    ∙ ap (λ (xs : List ℕ). xs ++ k ∷ []) (map-id (range_with_len 0 k))

pub owned_more : (p : ℕ → Bool) (k : ℕ) (now new : List Member) → now ≡ map Core (filter p (range_with_len 0 k))
    → new ≡ now ++ map Core (filter p (k ∷ [])) → new ≡ map Core (filter p (range_with_len 0 (k + 1)))
owned_more p k now new before after =
    after ∙ ap (λ (xs : List Member). xs ++ map Core (filter p (k ∷ []))) before
    ∙ sym (ap (λ (xs : List ℕ). map Core (filter p xs)) (range_more k)
    ∙ ap (map Core) (filter-append p (range_with_len 0 k) (k ∷ []))
    ∙ map-append Core (filter p (range_with_len 0 k)) (filter p (k ∷ [])))

pub all_owned : (p : ℕ → Bool) (k n : ℕ) (now : List Member) → k ≡ n → now ≡ map Core (filter p (range_with_len 0 k)) → now ≡ map Core (filter p (range_with_len 0 n))
all_owned p k n now all is = is ∙ ap (λ (n : ℕ). map Core (filter p (range_with_len 0 n))) all
