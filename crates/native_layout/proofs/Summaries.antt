-- Outlines of shapes by their levels.
use Rattle.std.proofs.Common.{◌≡◌, ℕ, ◌+◌, ◌*◌, ◌^◌, ◌≤◌, min, max, Bool, true, false, ◌&&◌, ◌||◌, ◌==◌, IsTrue, List, [], ◌∷◌, map, sum, Option, Some, None, is_some, unwrap_or, arith, rules, if◌then◌else◌, refl, sym, ◌∙◌, ap, subst}
use Rattle.std.specs.List.{list_all, list_any}
use Rattle.std.proofs.lemmas.List.Sums.{sum-map, sum_by-cons}
use Rattle.native_layout.specs.declared.extent.Extent.{Extent}
use Rattle.native_layout.specs.declared.outlines.Outline.{Outline}
use Rattle.native_layout.specs.declared.shapes.Enc.{Enc}
use Rattle.native_layout.specs.declared.shapes.Shape as shape
use Rattle.native_layout.specs.declared.shapes.Shape.{Shape, the_lemmas}
use Rattle.native_layout.specs.declared.shapes.StructShape.{StructShape}
use Rattle.native_layout.specs.Struct.{Measure, greatest, is_align, struct_measure}
use Rattle.native_layout.specs.Shapes.{flat, measure, measured, nesting, parts_of, pointers_in, repeated, scalar, unit_width}
use Rattle.native_layout.specs.Placed.{cap}
use Rattle.native_layout.specs.Outlines.{extent_if, no_extent, outline}
use Rattle.native_layout.proofs.Structs.{min_times}

abbrev summary : Measure → Bool → Bool → ℕ → ℕ → Outline
summary m f p n k = record {
  extent = if m.stands then cap m.extent else no_extent;
  integral = m.integral;
  flat = f;
  pointers = p;
  stands = m.stands;
  nesting = min n 65;
  parts = min k (2 ^ 20 + 1);
}

outline_is : (s : Shape) (m : Measure) (f p : Bool) (n k : ℕ) → measure s ≡ m → flat s ≡ f → pointers_in s ≡ p → nesting s ≡ n → parts_of s ≡ k
    → outline s ≡ summary m f p n k
outline_is s m f p n k m_is f_is p_is n_is k_is =
    ap (λ x. summary x (flat s) (pointers_in s) (nesting s) (parts_of s)) m_is
    ∙ (ap (λ x. summary m x (pointers_in s) (nesting s) (parts_of s)) f_is
    ∙ (ap (λ x. summary m f x (nesting s) (parts_of s)) p_is
    ∙ (ap (λ x. summary m f p x (parts_of s)) n_is ∙ ap (λ x. summary m f p n x) k_is)))

-- ---- scalars

abbrev pub one_part : Extent → Bool → Bool → Bool → Outline
one_part e integral flat pointers = record {
  extent = e;
  integral = integral;
  flat = flat;
  pointers = pointers;
  stands = true;
  nesting = 1;
  parts = 1;
}

abbrev pub square : ℕ → Extent
square width = record { size = width; align = width }

small_align : (a : ℕ) → IsTrue (is_align a) → a ≤ 8
small_align a is = grind arith

square_counted : (width : ℕ) → IsTrue (is_align width) → cap (square width) ≡ square width
square_counted width is =
    let small : width ≤ 8 = small_align width is in
    let whole : min width (2 ^ 32) ≡ width = omega arith in
    rw whole refl

pub int_outline : (width : ℕ) (signed : Bool) → IsTrue (is_align width) → outline (shape.Int width signed) ≡ one_part (square width) true true false
int_outline width signed is =
    outline_is (shape.Int width signed) (scalar width true) true false 1 1 (search (rules, the_lemmas)) (search (rules, the_lemmas)) (search (rules, the_lemmas)) (search (rules, the_lemmas)) (search (rules, the_lemmas))
    ∙ ap (λ e. one_part e true true false) (square_counted width is)

pub native_outline : (signed : Bool) → outline (shape.Native signed) ≡ one_part (square 8) true true false
native_outline signed =
    outline_is (shape.Native signed) (scalar 8 true) true false 1 1 (search (rules, the_lemmas)) (search (rules, the_lemmas)) (search (rules, the_lemmas)) (search (rules, the_lemmas)) (search (rules, the_lemmas))

pub bool_outline : (width : ℕ) → IsTrue (is_align width) → outline (shape.Bool width) ≡ one_part (square width) false false false
bool_outline width is =
    outline_is (shape.Bool width) (scalar width false) false false 1 1 (search (rules, the_lemmas)) (search (rules, the_lemmas)) (search (rules, the_lemmas)) (search (rules, the_lemmas)) (search (rules, the_lemmas))
    ∙ ap (λ e. one_part e false false false) (square_counted width is)

pub char_outline : (width : ℕ) → IsTrue (is_align width) → outline (shape.Char width) ≡ one_part (square width) false (width == 2) false
char_outline width is =
    outline_is (shape.Char width) (scalar width false) (width == 2) false 1 1 (search (rules, the_lemmas)) (search (rules, the_lemmas)) (search (rules, the_lemmas)) (search (rules, the_lemmas)) (search (rules, the_lemmas))
    ∙ ap (λ e. one_part e false (width == 2) false) (square_counted width is)

pub text_outline : (encoding : Enc) → outline (shape.Text encoding) ≡ one_part (square 8) false false true
text_outline encoding =
    outline_is (shape.Text encoding) (scalar 8 false) false true 1 1 (search (rules, the_lemmas)) (search (rules, the_lemmas)) (search (rules, the_lemmas)) (search (rules, the_lemmas)) (search (rules, the_lemmas))

pub thunk_outline : (ty : ℕ) → outline (shape.Thunk ty) ≡ one_part (square 8) false false true
thunk_outline ty =
    outline_is (shape.Thunk ty) (scalar 8 false) false true 1 1 (search (rules, the_lemmas)) (search (rules, the_lemmas)) (search (rules, the_lemmas)) (search (rules, the_lemmas)) (search (rules, the_lemmas))

pub inline_text_outline : (encoding : Enc) (count : ℕ)
    → outline (shape.InlineText encoding count) ≡ one_part (cap (record { size = count * unit_width encoding; align = unit_width encoding })) false false false
inline_text_outline encoding count =
    outline_is (shape.InlineText encoding count) (repeated count (scalar (unit_width encoding) false)) false false 1 1 (search (rules, the_lemmas)) (search (rules, the_lemmas)) (search (rules, the_lemmas)) (search (rules, the_lemmas)) (search (rules, the_lemmas))

-- ---- arrays in place

array_extent : (stands : Bool) (e : Extent) (n : ℕ)
    → cap (record { size = n * (if stands then cap e else no_extent).size; align = (if stands then cap e else no_extent).align })
    ≡ (if stands then cap (record { size = n * e.size; align = e.align }) else no_extent)
array_extent true e n = rw (min_times n e.size (2 ^ 32)) refl
array_extent false e n = let none : min (n * 0) (2 ^ 32) ≡ 0 = omega arith in rw none refl

same_fields : (e e' : Extent) (i f p t : Bool) (n n' k k' : ℕ) → e ≡ e' → n ≡ n' → k ≡ k'
    → ◌≡◌ {A = Outline} (record { extent = e; integral = i; flat = f; pointers = p; stands = t; nesting = n; parts = k })
    (record { extent = e'; integral = i; flat = f; pointers = p; stands = t; nesting = n'; parts = k' })
same_fields e e' i f p t n n' k k' x y z = rw (x, y, z) refl

array_outline : (ty n : ℕ) (s : Shape) → outline (shape.InlineArray ty s n) ≡ summary (repeated n (measure s)) false (pointers_in s) (1 + nesting s) (n * parts_of s)
array_outline ty n s =
    outline_is (shape.InlineArray ty s n) (repeated n (measure s)) false (pointers_in s) (1 + nesting s) (n * parts_of s) (search (rules, the_lemmas)) (search (rules, the_lemmas)) (search (rules, the_lemmas)) (search (rules, the_lemmas)) (search (rules, the_lemmas))

array_of : (ty n : ℕ) (s : Shape) (extent : Extent) (depth parts : ℕ)
    → extent ≡ cap (record { size = n * (outline s).extent.size; align = (outline s).extent.align }) → depth ≡ min (outline s).nesting 64 → parts ≡ min (n * (outline s).parts) (2 ^ 20 + 1)
    → ◌≡◌ {A = Outline} (record { extent = extent; integral = false; flat = false; pointers = pointers_in s; stands = (measure s).stands; nesting = depth + 1; parts = parts })
    (outline (shape.InlineArray ty s n))
array_of ty n s extent depth parts extent_is depth_is parts_is =
    same_fields _ _ false false (pointers_in s) (measure s).stands _ _ _ _
    (extent_is ∙ array_extent (measure s).stands (measure s).extent n)
    (let more : depth + 1 ≡ min (1 + nesting s) 65 = omega arith in more)
    (parts_is ∙ min_times n (parts_of s) (2 ^ 20 + 1))
    ∙ sym (array_outline ty n s)

pub array_told : (ty n : ℕ) (s : Shape) (element : Outline) (extent : Extent) (depth parts : ℕ) → element ≡ outline s
    → extent ≡ cap (record { size = n * element.extent.size; align = element.extent.align }) → depth ≡ min element.nesting 64 → parts ≡ min (n * element.parts) (2 ^ 20 + 1)
    → ◌≡◌ {A = Outline} (record { extent = extent; integral = false; flat = false; pointers = element.pointers; stands = element.stands; nesting = depth + 1; parts = parts })
    (outline (shape.InlineArray ty s n))
array_told ty n s element extent depth parts is extent_is depth_is parts_is =
    let extent_is' : extent ≡ cap (record { size = n * (outline s).extent.size; align = (outline s).extent.align }) = rw is at extent_is in
    let depth_is' : depth ≡ min (outline s).nesting 64 = rw is at depth_is in
    let parts_is' : parts ≡ min (n * (outline s).parts) (2 ^ 20 + 1) = rw is at parts_is in
    ap (λ (e : Outline). record { extent = extent; integral = false; flat = false; pointers = e.pointers; stands = e.stands; nesting = depth + 1; parts = parts }) is
    ∙ array_of ty n s extent depth parts extent_is' depth_is' parts_is'

-- ---- structs

any_pointers : (shapes : List Shape) → list_any (λ o. o.pointers) (map outline shapes) ≡ list_any (λ f. f) (map pointers_in shapes)
any_pointers [] = refl
any_pointers (s ∷ ss) = ap (λ b. pointers_in s || b) (any_pointers ss)

pub all_integral : (shapes : List Shape) → list_all (λ o. o.integral) (map outline shapes) ≡ list_all (λ m. m.integral) (map measure shapes)
all_integral [] = refl
all_integral (s ∷ ss) = ap (λ b. (measure s).integral && b) (all_integral ss)

deeper : (a b n : ℕ) → min a 65 ≡ min b 65 → min (max a (min n 65)) 65 ≡ min (max b n) 65
deeper a b n is = omega arith

greatest_told : (a b : ℕ) (shapes : List Shape) → min a 65 ≡ min b 65
    → min (greatest a (map (λ o. o.nesting) (map outline shapes))) 65 ≡ min (greatest b (map nesting shapes)) 65
greatest_told a b [] is = is
greatest_told a b (s ∷ ss) is = greatest_told (max a (min (nesting s) 65)) (max b (nesting s)) ss (deeper a b (nesting s) is)

more_parts : (p x y most : ℕ) → min x most ≡ min y most → min (min p most + x) most ≡ min (p + y) most
more_parts p x y most is = omega arith

sum_next : {X : Type 0} (f : X → ℕ) (x : X) (xs : List X) → sum (map f (x ∷ xs)) ≡ f x + sum (map f xs)
sum_next f x xs = sum-map f (x ∷ xs) ∙ (sum_by-cons f x xs ∙ ap (λ n. f x + n) (sym (sum-map f xs)))

sum_told : (shapes : List Shape) → min (sum (map (λ o. o.parts) (map outline shapes))) (2 ^ 20 + 1) ≡ min (sum (map parts_of shapes)) (2 ^ 20 + 1)
sum_told [] = refl
sum_told (s ∷ ss) =
    let told = sum_next (λ (o : Outline). o.parts) (outline s) (map outline ss) in
    let whole = sum_next parts_of s ss in
    ap (λ n. min n (2 ^ 20 + 1)) told
    ∙ (more_parts (parts_of s) (sum (map (λ o. o.parts) (map outline ss))) (sum (map parts_of ss)) (2 ^ 20 + 1) (sum_told ss)
    ∙ ap (λ n. min n (2 ^ 20 + 1)) (sym whole))

struct_outline : (s : StructShape)
    → outline (shape.Struct s) ≡ summary (struct_measure (measured s)) (struct_measure (measured s)).integral (list_any (λ f. f) (map pointers_in s.fields)) (1 + greatest 0 (map nesting s.fields)) (sum (map parts_of s.fields))
struct_outline s =
    outline_is (shape.Struct s) (struct_measure (measured s)) (struct_measure (measured s)).integral (list_any (λ f. f) (map pointers_in s.fields)) (1 + greatest 0 (map nesting s.fields)) (sum (map parts_of s.fields))
    (search (rules, the_lemmas)) (search (rules, the_lemmas)) (search (rules, the_lemmas)) (search (rules, the_lemmas)) (search (rules, the_lemmas))

extent_found : (m : Measure) → unwrap_or (extent_if m) no_extent ≡ (if m.stands then cap m.extent else no_extent)
extent_found m = elim m.stands as (λ b. unwrap_or (if b then Some (cap m.extent) else None) no_extent ≡ (if b then cap m.extent else no_extent)) [ true ↦ refl | false ↦ refl ]

stands_found : (m : Measure) → is_some (extent_if m) ≡ m.stands
stands_found m = elim m.stands as (λ b. is_some (if b then Some (cap m.extent) else None) ≡ b) [ true ↦ refl | false ↦ refl ]

all_fields : (e e' : Extent) (i i' f f' p p' t t' : Bool) (n n' k k' : ℕ) → e ≡ e' → i ≡ i' → f ≡ f' → p ≡ p' → t ≡ t' → n ≡ n' → k ≡ k'
    → ◌≡◌ {A = Outline} (record { extent = e; integral = i; flat = f; pointers = p; stands = t; nesting = n; parts = k })
    (record { extent = e'; integral = i'; flat = f'; pointers = p'; stands = t'; nesting = n'; parts = k' })
all_fields e e' i i' f f' p p' t t' n n' k k' a b c d x y z = rw (a, b, c, d, x, y, z) refl

-- what the code tells of a struct
pub record IsTold (fields : List Outline) (integral pointers : Bool) (depth parts : ℕ) : Type 0 where
  pub integral_is : integral ≡ list_all (λ o. o.integral) fields
  pub pointers_is : pointers ≡ list_any (λ o. o.pointers) fields
  pub depth_is : depth ≡ min (greatest 0 (map (λ o. o.nesting) fields)) 64
  pub parts_is : parts ≡ min (sum (map (λ o. o.parts) fields)) (2 ^ 20 + 1)

struct_of : (s : StructShape) (found : Option Extent) (integral pointers : Bool) (depth parts : ℕ) → IsTold (map outline s.fields) integral pointers depth parts
    → found ≡ extent_if (struct_measure (measured s))
    → ◌≡◌ {A = Outline} (record { extent = unwrap_or found no_extent; integral = integral; flat = integral; pointers = pointers; stands = is_some found; nesting = depth + 1; parts = parts })
    (outline (shape.Struct s))
struct_of s found integral pointers depth parts told found_is =
    let m : Measure = struct_measure (measured s) in
    let same : integral ≡ m.integral = told.integral_is ∙ all_integral s.fields in
    let deep = greatest_told 0 0 s.fields refl in
    all_fields _ _ _ _ _ _ _ _ _ _ _ _ _ _
    (ap (λ o. unwrap_or o no_extent) found_is ∙ extent_found m)
    same same
    (told.pointers_is ∙ any_pointers s.fields)
    (ap is_some found_is ∙ stands_found m)
    (let more : depth + 1 ≡ min (1 + greatest 0 (map nesting s.fields)) 65 = omega (arith, told.depth_is, deep) in more)
    (told.parts_is ∙ sum_told s.fields)
    ∙ sym (struct_outline s)

pub struct_told : (s : StructShape) (fields : List Outline) (found : Option Extent) (extent : Extent) (integral pointers stood : Bool) (depth parts : ℕ) → fields ≡ map outline s.fields
    → IsTold fields integral pointers depth parts → found ≡ extent_if (struct_measure (measured s)) → extent ≡ unwrap_or found no_extent → stood ≡ is_some found
    → ◌≡◌ {A = Outline} (record { extent = extent; integral = integral; flat = integral; pointers = pointers; stands = stood; nesting = depth + 1; parts = parts })
    (outline (shape.Struct s))
struct_told s fields found extent integral pointers stood depth parts is told found_is extent_is stood_is =
    ap (λ (e : Extent). record { extent = e; integral = integral; flat = integral; pointers = pointers; stands = stood; nesting = depth + 1; parts = parts }) extent_is
    ∙ (ap (λ (b : Bool). record { extent = unwrap_or found no_extent; integral = integral; flat = integral; pointers = pointers; stands = b; nesting = depth + 1; parts = parts }) stood_is
    ∙ struct_of s found integral pointers depth parts (subst (λ (os : List Outline). IsTold os integral pointers depth parts) is told) found_is)
