-- Lists that are read element by element.
use Rattle.std.proofs.Common.{◌≡◌, ℕ, suc, ◌+◌, ◌-◌, ◌<◌, ◌≤◌, Bool, true, false, cond, ◌&&◌, List, [], ◌∷◌, ◌++◌, Ok, Err, refl, sym, ◌∙◌, ap, append_assoc, append-nil, arith}
use Rattle.byte_view.specs.Reading.{◌>>=◌, Refuses}
use Rattle.sig_reader.specs.declared.parts.Stop.{Stop}
use Rattle.sig_reader.specs.declared.parts.Stop.TheVariants as stops
use Rattle.sig_reader.specs.declared.signature.TypeSig.{TypeSig}
use Rattle.sig_reader.specs.Elements.{is_sentinel}
use Rattle.sig_reader.specs.Reading.{Read, comes, after_first, many, param_in, params_in, after_sentinel}
use Rattle.sig_reader.specs.View.{left_at}

-- what is read after these elements
abbrev pub behind : {A : Type 0} → List A → Read (List A) → Read (List A)
behind xs m = m >>= λ r. Ok (xs ++ r.0, r.1)

behind_nil : {A : Type 0} (m : Read (List A)) → behind [] m ≡ m
behind_nil (Ok r) = refl
behind_nil (Err left) = refl

behind_more : {A : Type 0} (xs : List A) (x : A) (m : Read (List A)) → behind xs (m >>= λ s. Ok (x ∷ s.0, s.1)) ≡ behind (xs ++ x ∷ []) m
behind_more xs x (Ok r) = ap (λ l. Ok (l, r.1)) (sym (append_assoc xs (x ∷ []) r.0))
behind_more xs x (Err left) = refl

module _ {A : Type 0} (p : List ℕ → Read A) where
  pub many_first : (n : ℕ) (bytes : List ℕ) → behind [] (many p (n - 0) bytes) ≡ many p n bytes
  many_first n bytes =
      let same : n - 0 ≡ n = omega arith in
      rw same (behind_nil (many p n bytes))

  pub many_next : (n i : ℕ) (xs : List A) (bytes : List ℕ) (m : Read (List A)) → behind xs (many p (n - i) bytes) ≡ m → i < n → (x : A) (rest : List ℕ) → p bytes ≡ Ok (x, rest) → behind (xs ++ x ∷ []) (many p (n - (i + 1)) rest) ≡ m
  many_next n i xs bytes m e h x rest r =
      let one : n - i ≡ suc (n - (i + 1)) = omega arith in
      sym (behind_more xs x (many p (n - (i + 1)) rest))
      ∙ ap (λ v. behind xs (v >>= λ r. many p (n - (i + 1)) r.1 >>= λ s. Ok (r.0 ∷ s.0, s.1))) (sym r)
      ∙ ap (λ k. behind xs (many p k bytes)) (sym one)
      ∙ e

  pub many_last : (n i : ℕ) (xs : List A) (bytes : List ℕ) (m : Read (List A)) → behind xs (many p (n - i) bytes) ≡ m → n ≤ i → m ≡ Ok (xs, bytes)
  many_last n i xs bytes m e h =
      let none : n - i ≡ 0 = omega arith in
      sym e ∙ ap (λ k. behind xs (many p k bytes)) none ∙ ap (λ l. Ok (l, bytes)) (append-nil xs)

  many_err : (n i : ℕ) (xs : List A) (bytes : List ℕ) (m : Read (List A)) (left : ℕ) → behind xs (many p (n - i) bytes) ≡ m → i < n → p bytes ≡ Err left → m ≡ Err left
  many_err n i xs bytes m left e h r =
      let one : n - i ≡ suc (n - (i + 1)) = omega arith in
      sym e ∙ ap (λ k. behind xs (many p k bytes)) one
      ∙ ap (λ v. behind xs (v >>= λ r. many p (n - (i + 1)) r.1 >>= λ s. Ok (r.0 ∷ s.0, s.1))) r

  pub many_refused : (e : Stop) (n i : ℕ) (xs : List A) (bytes : List ℕ) (m : Read (List A)) → behind xs (many p (n - i) bytes) ≡ m → i < n → Refuses left_at e (p bytes) → Refuses left_at e m
  many_refused (stops.Left left) n i xs bytes m w h r = many_err n i xs bytes m left w h r
  many_refused stops.Memory n i xs bytes m w h r = tt

module _ (t : List ℕ → Read TypeSig) where
  abbrev one_and_more : Bool × List ℕ → ℕ → Read (List TypeSig)
  one_and_more at n = param_in t at.1 >>= λ r. params_in t at.0 n r.1 >>= λ s. Ok (r.0 ∷ s.0, s.1)

  step_by : (b sentinel : Bool) (n : ℕ) (a bytes : List ℕ) → cond b (param_in t a >>= λ r. params_in t false n r.1 >>= λ s. Ok (r.0 ∷ s.0, s.1)) (param_in t bytes >>= λ r. params_in t sentinel n r.1 >>= λ s. Ok (r.0 ∷ s.0, s.1)) ≡ one_and_more (cond b (false, a) (sentinel, bytes)) n
  step_by true sentinel n a bytes = refl
  step_by false sentinel n a bytes = refl

  -- one parameter and those after it
  params_step : (sentinel : Bool) (n : ℕ) (bytes : List ℕ) → params_in t sentinel (suc n) bytes ≡ one_and_more (after_sentinel sentinel bytes) n
  unfolding params_in
  params_step sentinel n bytes = step_by (comes (λ e. sentinel && is_sentinel e) bytes) sentinel n (after_first bytes) bytes

  pub params_first : (sentinel : Bool) (n : ℕ) (bytes : List ℕ) → behind [] (params_in t sentinel (n - 0) bytes) ≡ params_in t sentinel n bytes
  params_first sentinel n bytes =
      let same : n - 0 ≡ n = omega arith in
      rw same (behind_nil (params_in t sentinel n bytes))

  pub params_next : (sentinel : Bool) (n i : ℕ) (xs : List TypeSig) (bytes : List ℕ) (m : Read (List TypeSig)) → behind xs (params_in t sentinel (n - i) bytes) ≡ m → i < n → (x : TypeSig) (rest : List ℕ) → param_in t (after_sentinel sentinel bytes).1 ≡ Ok (x, rest) → behind (xs ++ x ∷ []) (params_in t (after_sentinel sentinel bytes).0 (n - (i + 1)) rest) ≡ m
  params_next sentinel n i xs bytes m e h x rest r =
      let one : n - i ≡ suc (n - (i + 1)) = omega arith in
      let left = (after_sentinel sentinel bytes).0 in
      sym (behind_more xs x (params_in t left (n - (i + 1)) rest))
      ∙ ap (λ v. behind xs (v >>= λ r. params_in t left (n - (i + 1)) r.1 >>= λ s. Ok (r.0 ∷ s.0, s.1))) (sym r)
      ∙ ap (behind xs) (sym (params_step sentinel (n - (i + 1)) bytes))
      ∙ ap (λ k. behind xs (params_in t sentinel k bytes)) (sym one)
      ∙ e

  pub params_last : (sentinel : Bool) (n i : ℕ) (xs : List TypeSig) (bytes : List ℕ) (m : Read (List TypeSig)) → behind xs (params_in t sentinel (n - i) bytes) ≡ m → n ≤ i → m ≡ Ok (xs, bytes)
  unfolding params_in
  params_last sentinel n i xs bytes m e h =
      let none : n - i ≡ 0 = omega arith in
      sym e ∙ ap (λ k. behind xs (params_in t sentinel k bytes)) none ∙ ap (λ l. Ok (l, bytes)) (append-nil xs)

  params_err : (sentinel : Bool) (n i : ℕ) (xs : List TypeSig) (bytes : List ℕ) (m : Read (List TypeSig)) (left : ℕ) → behind xs (params_in t sentinel (n - i) bytes) ≡ m → i < n → param_in t (after_sentinel sentinel bytes).1 ≡ Err left → m ≡ Err left
  params_err sentinel n i xs bytes m left e h r =
      let one : n - i ≡ suc (n - (i + 1)) = omega arith in
      let after = (after_sentinel sentinel bytes).0 in
      sym e ∙ ap (λ k. behind xs (params_in t sentinel k bytes)) one
      ∙ ap (behind xs) (params_step sentinel (n - (i + 1)) bytes)
      ∙ ap (λ v. behind xs (v >>= λ r. params_in t after (n - (i + 1)) r.1 >>= λ s. Ok (r.0 ∷ s.0, s.1))) r

  pub params_refused : (e : Stop) (sentinel : Bool) (n i : ℕ) (xs : List TypeSig) (bytes : List ℕ) (m : Read (List TypeSig)) → behind xs (params_in t sentinel (n - i) bytes) ≡ m → i < n → Refuses left_at e (param_in t (after_sentinel sentinel bytes).1) → Refuses left_at e m
  params_refused (stops.Left left) sentinel n i xs bytes m w h r = params_err sentinel n i xs bytes m left w h r
  params_refused stops.Memory sentinel n i xs bytes m w h r = tt

  pub params_next_at : (sentinel : Bool) (n i : ℕ) (xs : List TypeSig) (bytes : List ℕ) (m : Read (List TypeSig)) → behind xs (params_in t sentinel (n - i) bytes) ≡ m → i < n → (allowed : Bool) (at : List ℕ) → ◌≡◌ {A = Bool × List ℕ} (allowed, at) (after_sentinel sentinel bytes) → (x : TypeSig) (rest : List ℕ) → param_in t at ≡ Ok (x, rest) → behind (xs ++ x ∷ []) (params_in t allowed (n - (i + 1)) rest) ≡ m
  params_next_at sentinel n i xs bytes m e h allowed at s x rest r =
      ap (λ v. behind (xs ++ x ∷ []) (params_in t v.0 (n - (i + 1)) rest)) s
      ∙ params_next sentinel n i xs bytes m e h x rest (ap (λ v. param_in t v.1) (sym s) ∙ r)

  pub params_refused_at : (e : Stop) (sentinel : Bool) (n i : ℕ) (xs : List TypeSig) (bytes : List ℕ) (m : Read (List TypeSig)) → behind xs (params_in t sentinel (n - i) bytes) ≡ m → i < n → (allowed : Bool) (at : List ℕ) → ◌≡◌ {A = Bool × List ℕ} (allowed, at) (after_sentinel sentinel bytes) → Refuses left_at e (param_in t at) → Refuses left_at e m
  params_refused_at (stops.Left left) sentinel n i xs bytes m w h allowed at s r =
      params_refused (stops.Left left) sentinel n i xs bytes m w h (ap (λ v. param_in t v.1) (sym s) ∙ r)
  params_refused_at stops.Memory sentinel n i xs bytes m w h allowed at s r = tt
