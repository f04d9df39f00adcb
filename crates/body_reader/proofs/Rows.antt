-- Rows of opcodes, and the tables of the code.
use Rattle.std.proofs.Common.{◌≡◌, ℕ, ◌<◌, ◌≤◌, true, false, List, [], ◌∷◌, length, map, Option, Some, None, refl, sym, ap, ◌∙◌, inl, inr, arith}
use Rattle.std.specs.Prelude.{nat_lt, ◌==◌, slice_get, option_map}
use Rattle.std.specs.Option.{option_flatten}
use Rattle.std.specs.List.{list_all, range_with_len}
use Rattle.std.proofs.lemmas.Bool.{cases_lt, ltb-true, ne_eqb, and_parts}
use Rattle.std.proofs.lemmas.List.{length-map}
use Rattle.std.proofs.lemmas.List.FromFn.{get_or-map-range_with_len, length-map-range_with_len}
use Rattle.std.proofs.lemmas.Option.{slice_get-map, slice_get-get_or, slice_get_past}
use Rattle.body_reader.specs.declared.forms.Form.{Form as CodeForm}
use Rattle.body_reader.specs.Opcodes.{Form, form_among}
use Rattle.body_reader.specs.Forms.{form_of}

-- no opcode past the last
form_past : (rows : List (ℕ × Form)) (n b : ℕ) → list_all (λ row. nat_lt row.0 n) rows ≡ true → n ≤ b → form_among rows b ≡ None
unfolding form_among
form_past [] n b all h = refl
form_past (row ∷ rows) n b all h =
    let parts = and_parts (nat_lt row.0 n) (list_all (λ row. nat_lt row.0 n) rows) all in
    let other : (row.0 == b) ≡ false = ne_eqb row.0 b (λ e. let below : row.0 < n = ltb-true row.0 n parts.0 in omega (arith, e, below, h)) in
    rw other (form_past rows n b parts.1 h)

found : (o : Option (Option CodeForm)) (y : Option Form) → option_map (λ x. option_map form_of x) o ≡ Some y → option_map form_of (option_flatten o) ≡ y
found (Some x) y e = cc
found None y e = absurd (cc)

-- a table of forms by bytes says what rows say, where it has the form of each byte below its length
pub table_agrees : (table : List (Option CodeForm)) (rows : List (ℕ × Form)) (n b : ℕ) → map (λ x. option_map form_of x) table ≡ map (form_among rows) (range_with_len 0 n) → list_all (λ row. nat_lt row.0 n) rows ≡ true → option_map form_of (option_flatten (slice_get table b)) ≡ form_among rows b
table_agrees table rows n b e all =
    let size : length table ≡ n = sym (length-map table (λ x. option_map form_of x)) ∙ ap length e ∙ length-map-range_with_len (form_among rows) 0 n in
    elim (cases_lt b n) [
      | inl l ↦ (
          let row : slice_get (map (form_among rows) (range_with_len 0 n)) b ≡ Some (form_among rows b) =
          slice_get-get_or (map (form_among rows) (range_with_len 0 n)) b None (rw (length-map-range_with_len (form_among rows) 0 n) l)
          ∙ ap Some (get_or-map-range_with_len (form_among rows) 0 n b b None l (omega arith)) in
          found (slice_get table b) (form_among rows b) (sym (slice_get-map (λ x. option_map form_of x) table b) ∙ ap (λ xs. slice_get xs b) e ∙ row))
      | inr g ↦ (
          let past : slice_get table b ≡ None = slice_get_past table b (rw size g) in
          rw past (sym (form_past rows n b all g)))
    ]
