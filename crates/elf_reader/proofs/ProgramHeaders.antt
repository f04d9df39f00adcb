-- The program header of the dynamic section among the program headers, one after another.
use Rattle.std.proofs.Common.{◌≡◌, ℕ, ◌+◌, ◌*◌, ◌<◌, Bool, true, false, List, Option, Some, None, Result, Ok, Err, refl, suc, ◌∙◌}
use Rattle.std.specs.Prelude.{is_some, not}
use Rattle.byte_view.specs.Reading.{Broken, must}
use Rattle.byte_view.specs.ElfLoads.{is_of_type, pt_dynamic}
use Rattle.byte_view.specs.ElfDynamic.{and_dynamic, dynamic_among}
use Rattle.byte_view.specs.ElfParts as parts
use Rattle.byte_view.proofs.Reading.{bind_read}
use Rattle.byte_view.proofs.Refusals.{chain_failed, chain_more}

another : (bytes : List ℕ) (before : Option ℕ) (is_first : Bool) (at : ℕ) (d : Broken) → is_some before ≡ not is_first → is_of_type pt_dynamic bytes at ≡ true → must is_first (parts.dynamic, at) ≡ Err d → and_dynamic bytes before at ≡ Err d
another bytes None true at d s e f = absurd (cc)
another bytes None false at d s e f = absurd (cc)
another bytes (Some x) true at d s e f = absurd (cc)
another bytes (Some x) false at d s e f = let same : (parts.dynamic, at) ≡ d = cc in rw (e, same) refl

this : (bytes : List ℕ) (before : Option ℕ) (is_first : Bool) (at y : ℕ) → is_some before ≡ not is_first → is_of_type pt_dynamic bytes at ≡ true → must {R = Broken} is_first (parts.dynamic, at) ≡ Ok y → and_dynamic bytes before at ≡ Ok (Some at)
this bytes None is_first at y s e f = rw e refl
this bytes (Some x) true at y s e f = absurd (cc)
this bytes (Some x) false at y s e f = absurd (cc)

other : (bytes : List ℕ) (before : Option ℕ) (at : ℕ) → is_of_type pt_dynamic bytes at ≡ false → and_dynamic bytes before at ≡ Ok before
other bytes None at e = rw e refl
other bytes (Some x) at e = rw e refl

pub among_none : (bytes : List ℕ) (start : ℕ) → dynamic_among bytes start 0 ≡ Ok None
unfolding dynamic_among
among_none bytes start = refl

pub among_refused : (bytes : List ℕ) (start : ℕ) (d : Broken) (k m : ℕ) (before : Option ℕ) (is_first : Bool)
    → is_some before ≡ not is_first → dynamic_among bytes start k ≡ Ok before → k < m
    → is_of_type pt_dynamic bytes (start + 56 * k) ≡ true
    → must is_first (parts.dynamic, start + 56 * k) ≡ Err d → dynamic_among bytes start m ≡ Err d
unfolding dynamic_among
among_refused bytes start d k m before is_first s so_far h here r =
    let F : ℕ → Result (Option ℕ) Broken = dynamic_among bytes start in
    let G : ℕ → Option ℕ → Result (Option ℕ) Broken = λ n x. and_dynamic bytes x (start + 56 * n) in
    chain_failed F G (λ n. refl) (suc k) m d
    (bind_read (F k) (G k) before so_far ∙ another bytes before is_first (start + 56 * k) d s here r) h

pub among_found : (bytes : List ℕ) (start k y : ℕ) (before : Option ℕ) (is_first : Bool) → is_some before ≡ not is_first → dynamic_among bytes start k ≡ Ok before → is_of_type pt_dynamic bytes (start + 56 * k) ≡ true → must {R = Broken} is_first (parts.dynamic, start + 56 * k) ≡ Ok y → dynamic_among bytes start (k + 1) ≡ Ok (Some (start + 56 * k))
unfolding dynamic_among
among_found bytes start k y before is_first s so_far here f =
    chain_more (dynamic_among bytes start) (λ n x. and_dynamic bytes x (start + 56 * n)) (λ n. refl) k before (Some (start + 56 * k)) so_far (this bytes before is_first (start + 56 * k) y s here f)

pub among_passed : (bytes : List ℕ) (start k : ℕ) (before : Option ℕ) → dynamic_among bytes start k ≡ Ok before → is_of_type pt_dynamic bytes (start + 56 * k) ≡ false → dynamic_among bytes start (k + 1) ≡ Ok before
unfolding dynamic_among
among_passed bytes start k before so_far here =
    chain_more (dynamic_among bytes start) (λ n x. and_dynamic bytes x (start + 56 * n)) (λ n. refl) k before before so_far (other bytes before (start + 56 * k) here)
