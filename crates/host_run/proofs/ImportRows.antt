-- A text for each row of ImplMap, one after another.
use Rattle.std.proofs.Common.{◌≡◌, refl, sym, ap, ◌∙◌, ℕ, suc, ◌+◌, ◌-◌, false, List, ◌++◌, take, drop, Option, Some, None, arith}
use Rattle.std.specs.Prelude.{◌==◌, slice_get, option_map, if◌then◌else◌}
use Rattle.std.proofs.lemmas.Bool.{ne_eqb}
use Rattle.std.specs.List.{flat_map}
use Rattle.bound_base.specs.Outside.{appended}
use Rattle.type_model.specs.Module.{Module, rows, row}
use Rattle.type_model.specs.Rows.{impl_maps}
use Rattle.type_model.specs.ImportRows.{ImportRow, import_row, import_row_in}
use Rattle.host_run.specs.Imports.{for_each_import}
use Rattle.host_run.proofs.Puts.{texts-split, lines-more, lines-past}

-- the text of a row by its numbers
abbrev pub text_in : (ImportRow → List ℕ) → Module → List ℕ → List ℕ
text_in text m numbers = text (import_row_in m numbers)

-- the texts of the first n rows
abbrev pub first_texts : (ImportRow → List ℕ) → Module → ℕ → List ℕ
first_texts text m n = flat_map (text_in text m) (take n (rows m impl_maps))

-- the row numbered n + 1 stands at place n
row_place : (m : Module) (n : ℕ) → row m impl_maps (n + 1) ≡ slice_get (rows m impl_maps) n
row_place m n =
    let later : (n + 1 == 0) ≡ false = ne_eqb (n + 1) 0 (λ (e : n + 1 ≡ 0). omega (arith, e)) in
    let place : n + 1 - 1 ≡ n = omega arith in
    rw (later, place) refl

of_mapped : (text : ImportRow → List ℕ) (m : Module) (o : Option (List ℕ)) (i : ImportRow) → Some i ≡ option_map (import_row_in m) o
    → (numbers : List ℕ) × (o ≡ Some numbers) × (text_in text m numbers ≡ text i)
of_mapped text m (Some numbers) i e = let same : import_row_in m numbers ≡ i = cc in (numbers, refl, ap text same)
of_mapped text m None i e = absurd (cc)

of_none : (m : Module) (o : Option (List ℕ)) → None ≡ option_map (import_row_in m) o → o ≡ None
of_none m (Some numbers) e = absurd (cc)
of_none m None e = refl

module _ (text : ImportRow → List ℕ) (m : Module) (n : ℕ) where
  -- the row that an import is
  import_at : (i : ImportRow) → Some i ≡ import_row m (n + 1) → (numbers : List ℕ) × (slice_get (rows m impl_maps) n ≡ Some numbers) × (text_in text m numbers ≡ text i)
  unfolding import_row
  import_at i e = of_mapped text m (slice_get (rows m impl_maps) n) i (e ∙ ap (option_map (import_row_in m)) (row_place m n))

  -- the text in three: before a row, its own, and the rest
  pub texts_split : (i : ImportRow) → Some i ≡ import_row m (n + 1) → (rest : List ℕ) × (for_each_import text m ≡ first_texts text m n ++ (text i ++ rest))
  texts_split i e =
      let at = import_at i e in
      let split = texts-split (text_in text m) (rows m impl_maps) n at.0 at.1 in
      let rest : List ℕ = flat_map (text_in text m) (drop (suc n) (rows m impl_maps)) in
      (rest, split ∙ ap (λ (x : List ℕ). first_texts text m n ++ (x ++ rest)) at.2)

  -- one more text is put
  pub text_more : (s t u : Option (List ℕ)) (i : ImportRow) → t ≡ appended s (first_texts text m n)
      → Some i ≡ import_row m (n + 1) → u ≡ appended t (text i) → u ≡ appended s (first_texts text m (n + 1))
  text_more s t u i before e put =
      let at = import_at i e in
      lines-more (text_in text m) s t u (rows m impl_maps) n at.0 before at.1 (put ∙ ap (appended t) (sym at.2))

  -- past the last row there is none
  pub text_past : (s t : Option (List ℕ)) → t ≡ appended s (first_texts text m n)
      → None ≡ import_row m (n + 1) → t ≡ appended s (first_texts text m (n + 1))
  unfolding import_row
  text_past s t before e =
      lines-past (text_in text m) s t (rows m impl_maps) n before (of_none m (slice_get (rows m impl_maps) n) (e ∙ ap (option_map (import_row_in m)) (row_place m n)))
