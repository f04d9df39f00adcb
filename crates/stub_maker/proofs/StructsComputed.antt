-- Folds over the structs of the rows that were worked out by hand.
use Rattle.std.proofs.Common.{◌≡◌, ◌∙◌, ℕ, ◌+◌, Bool, true, false, List, [], ◌∷◌, map, sum, Option, None, ap, rules}
use Rattle.std.specs.List.{list_any}
use Rattle.native_layout.specs.declared.shapes.Enc.{Enc}
use Rattle.native_layout.specs.declared.shapes.Enc.TheVariants.{Utf8}
use Rattle.native_layout.specs.declared.shapes.Shape as shape
use Rattle.native_layout.specs.declared.shapes.Shape.{the_lemmas}
use Rattle.native_layout.specs.declared.shapes.StructShape.{StructShape}
use Rattle.native_layout.specs.Struct.{Measure, greatest, struct_measure}
use Rattle.native_layout.specs.Shapes.{flat, measure, nesting, parts_of, pointers_in, scalar, texts_in}
use Rattle.native_layout.proofs.Folds.{measure_struct}
use Rattle.stub_maker.specs.Extents.{is_laid_out, size}
use Rattle.stub_maker.specs.Examples.{empty_struct, three_longs, two_longs, with_text}

int_measure : (w : ℕ) (s : Bool) → measure (shape.Int w s) ≡ scalar w true
int_measure w s = search (rules, the_lemmas)

text_measure : (e : Enc) → measure (shape.Text e) ≡ scalar 8 false
text_measure e = search (rules, the_lemmas)

nesting_struct : (s : StructShape) → nesting (shape.Struct s) ≡ 1 + greatest 0 (map nesting s.fields)
nesting_struct s = search (rules, the_lemmas)

int_nesting : (w : ℕ) (s : Bool) → nesting (shape.Int w s) ≡ 1
int_nesting w s = search (rules, the_lemmas)

text_nesting : (e : Enc) → nesting (shape.Text e) ≡ 1
text_nesting e = search (rules, the_lemmas)

parts_struct : (s : StructShape) → parts_of (shape.Struct s) ≡ sum (map parts_of s.fields)
parts_struct s = search (rules, the_lemmas)

int_parts : (w : ℕ) (s : Bool) → parts_of (shape.Int w s) ≡ 1
int_parts w s = search (rules, the_lemmas)

text_parts : (e : Enc) → parts_of (shape.Text e) ≡ 1
text_parts e = search (rules, the_lemmas)

pointers_struct : (s : StructShape) → pointers_in (shape.Struct s) ≡ list_any (λ f. f) (map pointers_in s.fields)
pointers_struct s = search (rules, the_lemmas)

int_pointers : (w : ℕ) (s : Bool) → pointers_in (shape.Int w s) ≡ false
int_pointers w s = search (rules, the_lemmas)

text_pointers : (e : Enc) → pointers_in (shape.Text e) ≡ true
text_pointers e = search (rules, the_lemmas)

texts_struct : (s : StructShape) → texts_in (shape.Struct s) ≡ list_any (λ f. f) (map texts_in s.fields)
texts_struct s = search (rules, the_lemmas)

int_texts : (w : ℕ) (s : Bool) → texts_in (shape.Int w s) ≡ false
int_texts w s = search (rules, the_lemmas)

text_texts : (e : Enc) → texts_in (shape.Text e) ≡ true
text_texts e = search (rules, the_lemmas)

-- ---- sizes, and what stands

abbrev measure_of : List Measure → List (Option ℕ) → Measure
measure_of fields offsets = struct_measure (record { pack = 0; least = 0; explicit = false; fields = fields; offsets = offsets })

abbrev measured_as : ℕ → Bool → Bool → Measure
measured_as size integral stands = record { extent = record { size = size; align = 8 }; integral = integral; stands = stands }

two_measure : measure (shape.Struct two_longs) ≡ measured_as 16 true true
two_measure = measure_struct two_longs ∙ ap (λ (m : Measure). measure_of (m ∷ m ∷ []) (None ∷ None ∷ [])) (int_measure 8 true)

three_measure : measure (shape.Struct three_longs) ≡ measured_as 24 true true
three_measure = measure_struct three_longs ∙ ap (λ (m : Measure). measure_of (m ∷ m ∷ m ∷ []) (None ∷ None ∷ None ∷ [])) (int_measure 8 true)

text_and_int : measure (shape.Struct with_text) ≡ measured_as 16 false true
text_and_int =
    measure_struct with_text
    ∙ (ap (λ (m : Measure). measure_of (m ∷ measure (shape.Int 4 true) ∷ []) (None ∷ None ∷ [])) (text_measure Utf8)
    ∙ ap (λ (m : Measure). measure_of (scalar 8 false ∷ m ∷ []) (None ∷ None ∷ [])) (int_measure 4 true))

empty_measure : (measure (shape.Struct empty_struct)).stands ≡ false
empty_measure = ap (λ (m : Measure). m.stands) (measure_struct empty_struct)

pub two_laid : is_laid_out (shape.Struct two_longs) ≡ true
two_laid = rw (two_measure, nesting_struct two_longs, parts_struct two_longs, int_nesting 8 true, int_parts 8 true)

pub two_flat : flat (shape.Struct two_longs) ≡ true
unfolding shape.out-Shape denote.Hole.Carrier.out
two_flat = rw two_measure

pub two_plain : pointers_in (shape.Struct two_longs) ≡ false
two_plain = pointers_struct two_longs ∙ ap (λ (b : Bool). list_any (λ f. f) (b ∷ b ∷ [])) (int_pointers 8 true)

pub two_small : size (shape.Struct two_longs) ≡ 16
two_small = ap (λ (m : Measure). m.extent.size) two_measure

pub two_without_text : texts_in (shape.Struct two_longs) ≡ false
two_without_text = texts_struct two_longs ∙ ap (λ (b : Bool). list_any (λ f. f) (b ∷ b ∷ [])) (int_texts 8 true)

pub three_laid : is_laid_out (shape.Struct three_longs) ≡ true
three_laid = rw (three_measure, nesting_struct three_longs, parts_struct three_longs, int_nesting 8 true, int_parts 8 true)

pub three_plain : pointers_in (shape.Struct three_longs) ≡ false
three_plain = pointers_struct three_longs ∙ ap (λ (b : Bool). list_any (λ f. f) (b ∷ b ∷ b ∷ [])) (int_pointers 8 true)

pub three_large : size (shape.Struct three_longs) ≡ 24
three_large = ap (λ (m : Measure). m.extent.size) three_measure

pub text_laid : is_laid_out (shape.Struct with_text) ≡ true
text_laid = rw (text_and_int, nesting_struct with_text, parts_struct with_text, text_nesting Utf8, int_nesting 4 true, text_parts Utf8, int_parts 4 true)

pub text_not_flat : flat (shape.Struct with_text) ≡ false
unfolding shape.out-Shape denote.Hole.Carrier.out
text_not_flat = rw text_and_int

pub text_within : pointers_in (shape.Struct with_text) ≡ true
text_within = pointers_struct with_text ∙ ap (λ (b : Bool). list_any (λ f. f) (b ∷ pointers_in (shape.Int 4 true) ∷ [])) (text_pointers Utf8)

pub text_small : size (shape.Struct with_text) ≡ 16
text_small = ap (λ (m : Measure). m.extent.size) text_and_int

pub text_holds_text : texts_in (shape.Struct with_text) ≡ true
text_holds_text = texts_struct with_text ∙ ap (λ (b : Bool). list_any (λ f. f) (b ∷ texts_in (shape.Int 4 true) ∷ [])) (text_texts Utf8)

pub empty_not_laid : is_laid_out (shape.Struct empty_struct) ≡ false
empty_not_laid = rw empty_measure

-- an empty struct holds no pointer
pub empty_plain : pointers_in (shape.Struct empty_struct) ≡ false
empty_plain = pointers_struct empty_struct
