-- The loads of the program headers, one after another.
use Rattle.std.proofs.Common.{◌≡◌, ℕ, ◌+◌, ◌*◌, ◌^◌, ◌<◌, ◌≤◌, true, false, List, [], ◌∷◌, ◌++◌, Result, Ok, Err, refl, suc, ◌∙◌, arith}
use Rattle.std.specs.Prelude.{All}
use Rattle.std.proofs.lemmas.List.Elements.{All-push, All-weaker}
use Rattle.std.proofs.lemmas.List.Quantifiers.{all_pairs_push}
use Rattle.byte_view.specs.Reading.{Broken}
use Rattle.byte_view.specs.ElfLoads as definition
use Rattle.elf_reader.specs.declared.elf.Load.{Load}
use Rattle.elf_reader.specs.Loads.{AreSound, file_end}
use Rattle.byte_view.proofs.Reading.{bind_read}
use Rattle.byte_view.proofs.Refusals.{chain_failed, chain_more}

pub last_end_push : (loads : List definition.Load) (load : definition.Load) → definition.last_end (loads ++ load ∷ []) ≡ definition.end_of load
last_end_push [] load = refl
last_end_push (one ∷ []) load = refl
last_end_push (one ∷ next ∷ more) load = last_end_push (next ∷ more) load

module _ (bytes : List ℕ) (start : ℕ) where
  pub no_loads : definition.loads bytes start 0 ≡ Ok []
  unfolding definition.loads
  no_loads = refl

  and_more : (before : List definition.Load) (load : definition.Load) (at : ℕ) → definition.is_of_type definition.pt_load bytes at ≡ true → definition.load_at bytes (definition.last_end before) at ≡ Ok load → definition.and_load bytes before at ≡ Ok (before ++ load ∷ [])
  unfolding definition.and_load
  and_more before load at here e = rw (here, e) refl

  and_refused : (before : List definition.Load) (d : Broken) (at : ℕ) → definition.is_of_type definition.pt_load bytes at ≡ true → definition.load_at bytes (definition.last_end before) at ≡ Err d → definition.and_load bytes before at ≡ Err d
  unfolding definition.and_load
  and_refused before d at here e = rw (here, e) refl

  and_passed : (before : List definition.Load) (at : ℕ) → definition.is_of_type definition.pt_load bytes at ≡ false → definition.and_load bytes before at ≡ Ok before
  unfolding definition.and_load
  and_passed before at here = rw here refl

  pub one_more : (k : ℕ) (before : List definition.Load) (load : definition.Load) → definition.loads bytes start k ≡ Ok before → definition.is_of_type definition.pt_load bytes (start + 56 * k) ≡ true → definition.load_at bytes (definition.last_end before) (start + 56 * k) ≡ Ok load → definition.loads bytes start (k + 1) ≡ Ok (before ++ load ∷ [])
  unfolding definition.loads
  one_more k before load so_far here e =
      chain_more (definition.loads bytes start) (λ n x. definition.and_load bytes x (start + 56 * n)) (λ n. refl) k before (before ++ load ∷ []) so_far (and_more before load (start + 56 * k) here e)

  pub passed : (k : ℕ) (before : List definition.Load) → definition.loads bytes start k ≡ Ok before → definition.is_of_type definition.pt_load bytes (start + 56 * k) ≡ false → definition.loads bytes start (k + 1) ≡ Ok before
  unfolding definition.loads
  passed k before so_far here =
      chain_more (definition.loads bytes start) (λ n x. definition.and_load bytes x (start + 56 * n)) (λ n. refl) k before before so_far (and_passed before (start + 56 * k) here)

  pub refused : (d : Broken) (k m : ℕ) (before : List definition.Load) → definition.loads bytes start k ≡ Ok before → k < m
      → definition.is_of_type definition.pt_load bytes (start + 56 * k) ≡ true
      → definition.load_at bytes (definition.last_end before) (start + 56 * k) ≡ Err d
      → definition.loads bytes start m ≡ Err d
  unfolding definition.loads
  refused d k m before so_far h here r =
      let F : ℕ → Result (List definition.Load) Broken = definition.loads bytes start in
      let G : ℕ → List definition.Load → Result (List definition.Load) Broken =
      λ n x. definition.and_load bytes x (start + 56 * n) in
      chain_failed F G (λ n. refl) (suc k) m d
      (bind_read (F k) (G k) before so_far ∙ and_refused before d (start + 56 * k) here r) h

-- one more load after the others
pub sound_push : (size end : ℕ) (loads : List Load) (load : Load) → AreSound size loads → All (λ one. file_end one ≤ end) loads → load.file_at + load.file_size ≤ size → file_end load < 2 ^ 32 → end ≤ load.vaddr → AreSound size (loads ++ load ∷ [])
sound_push size end loads load sound before in_file low after = record {
  in_file = All-push (λ one. one.file_at + one.file_size ≤ size) loads load sound.in_file in_file;
  low = All-push (λ one. file_end one < 2 ^ 32) loads load sound.low low;
  apart = all_pairs_push (λ one later. file_end one ≤ later.vaddr) loads load sound.apart (λ k d h. let ends = before k d h in omega arith);
}

pub before_push : (end next : ℕ) (loads : List Load) (load : Load) → All (λ one. file_end one ≤ end) loads → end ≤ next → file_end load ≤ next → All (λ one. file_end one ≤ next) (loads ++ load ∷ [])
before_push end next loads load before le here = All-push (λ one. file_end one ≤ next) loads load (All-weaker (λ one. file_end one ≤ end) (λ one. file_end one ≤ next) (λ one h. omega arith) loads before) here

pub sound_none : (size : ℕ) → AreSound size []
sound_none size = record { in_file = λ k d h. absurd (omega arith); low = λ k d h. absurd (omega arith); apart = λ i j d l h. absurd (omega arith) }
