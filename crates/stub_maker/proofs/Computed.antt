-- Folds over shapes that are scalars or texts.
use Rattle.std.proofs.Common.{◌≡◌, ℕ, ◌+◌, ◌==◌, max, Bool, true, false, sum, fold, refl}
use Rattle.native_layout.specs.declared.shapes.Enc.{Enc}
use Rattle.native_layout.specs.declared.shapes.Shape as shape
use Rattle.native_layout.specs.declared.shapes.Shape.{Shape}
use Rattle.native_layout.specs.declared.shapes.Shape.TheFolds.{fold_out-Shape}
use Rattle.native_layout.specs.Struct.{Measure}
use Rattle.native_layout.specs.Shapes.{flat, measure, measure_step, struct_step, scalar, nesting, nesting_step, parts_of, parts_step}
use Rattle.stub_maker.specs.Extents.{is_laid_out}

pub laid_int : (w : ℕ) (s : Bool) → is_laid_out (shape.Int w s) ≡ true
unfolding shape.out-Shape denote.Hole.Carrier.out
laid_int w s =
    let m : measure (shape.Int w s) ≡ scalar w true = fold_out-Shape Measure Measure measure_step struct_step (shape.Int w s) in
    let n : nesting (shape.Int w s) ≡ 1 = fold_out-Shape ℕ ℕ nesting_step (λ f. 1 + fold max 0 f.fields) (shape.Int w s) in
    let p : parts_of (shape.Int w s) ≡ 1 = fold_out-Shape ℕ ℕ parts_step (λ f. sum f.fields) (shape.Int w s) in
    rw (m, n, p)

pub flat_int : (w : ℕ) (s : Bool) → flat (shape.Int w s) ≡ true
unfolding shape.out-Shape denote.Hole.Carrier.out
flat_int w s =
    let m : measure (shape.Int w s) ≡ scalar w true = fold_out-Shape Measure Measure measure_step struct_step (shape.Int w s) in
    rw m

pub laid_native : (s : Bool) → is_laid_out (shape.Native s) ≡ true
unfolding shape.out-Shape denote.Hole.Carrier.out
laid_native s =
    let m : measure (shape.Native s) ≡ scalar 8 true = fold_out-Shape Measure Measure measure_step struct_step (shape.Native s) in
    let n : nesting (shape.Native s) ≡ 1 = fold_out-Shape ℕ ℕ nesting_step (λ f. 1 + fold max 0 f.fields) (shape.Native s) in
    let p : parts_of (shape.Native s) ≡ 1 = fold_out-Shape ℕ ℕ parts_step (λ f. sum f.fields) (shape.Native s) in
    rw (m, n, p)

pub flat_native : (s : Bool) → flat (shape.Native s) ≡ true
unfolding shape.out-Shape denote.Hole.Carrier.out
flat_native s =
    let m : measure (shape.Native s) ≡ scalar 8 true = fold_out-Shape Measure Measure measure_step struct_step (shape.Native s) in
    rw m

pub laid_bool : (w : ℕ) → is_laid_out (shape.Bool w) ≡ true
unfolding shape.out-Shape denote.Hole.Carrier.out
laid_bool w =
    let m : measure (shape.Bool w) ≡ scalar w false = fold_out-Shape Measure Measure measure_step struct_step (shape.Bool w) in
    let n : nesting (shape.Bool w) ≡ 1 = fold_out-Shape ℕ ℕ nesting_step (λ f. 1 + fold max 0 f.fields) (shape.Bool w) in
    let p : parts_of (shape.Bool w) ≡ 1 = fold_out-Shape ℕ ℕ parts_step (λ f. sum f.fields) (shape.Bool w) in
    rw (m, n, p)

pub flat_bool : (w : ℕ) → flat (shape.Bool w) ≡ false
unfolding shape.out-Shape denote.Hole.Carrier.out
flat_bool w =
    let m : measure (shape.Bool w) ≡ scalar w false = fold_out-Shape Measure Measure measure_step struct_step (shape.Bool w) in
    rw m

pub laid_char : (w : ℕ) → is_laid_out (shape.Char w) ≡ true
unfolding shape.out-Shape denote.Hole.Carrier.out
laid_char w =
    let m : measure (shape.Char w) ≡ scalar w false = fold_out-Shape Measure Measure measure_step struct_step (shape.Char w) in
    let n : nesting (shape.Char w) ≡ 1 = fold_out-Shape ℕ ℕ nesting_step (λ f. 1 + fold max 0 f.fields) (shape.Char w) in
    let p : parts_of (shape.Char w) ≡ 1 = fold_out-Shape ℕ ℕ parts_step (λ f. sum f.fields) (shape.Char w) in
    rw (m, n, p)

pub flat_char : (w : ℕ) → flat (shape.Char w) ≡ (w == 2)
unfolding shape.out-Shape denote.Hole.Carrier.out
flat_char w = refl

pub laid_text : (e : Enc) → is_laid_out (shape.Text e) ≡ true
unfolding shape.out-Shape denote.Hole.Carrier.out
laid_text e =
    let m : measure (shape.Text e) ≡ scalar 8 false = fold_out-Shape Measure Measure measure_step struct_step (shape.Text e) in
    let n : nesting (shape.Text e) ≡ 1 = fold_out-Shape ℕ ℕ nesting_step (λ f. 1 + fold max 0 f.fields) (shape.Text e) in
    let p : parts_of (shape.Text e) ≡ 1 = fold_out-Shape ℕ ℕ parts_step (λ f. sum f.fields) (shape.Text e) in
    rw (m, n, p)

pub flat_text : (e : Enc) → flat (shape.Text e) ≡ false
unfolding shape.out-Shape denote.Hole.Carrier.out
flat_text e =
    let m : measure (shape.Text e) ≡ scalar 8 false = fold_out-Shape Measure Measure measure_step struct_step (shape.Text e) in
    rw m

pub laid_thunk : (t : ℕ) → is_laid_out (shape.Thunk t) ≡ true
unfolding shape.out-Shape denote.Hole.Carrier.out
laid_thunk t =
    let m : measure (shape.Thunk t) ≡ scalar 8 false = fold_out-Shape Measure Measure measure_step struct_step (shape.Thunk t) in
    let n : nesting (shape.Thunk t) ≡ 1 = fold_out-Shape ℕ ℕ nesting_step (λ f. 1 + fold max 0 f.fields) (shape.Thunk t) in
    let p : parts_of (shape.Thunk t) ≡ 1 = fold_out-Shape ℕ ℕ parts_step (λ f. sum f.fields) (shape.Thunk t) in
    rw (m, n, p)

pub flat_thunk : (t : ℕ) → flat (shape.Thunk t) ≡ false
unfolding shape.out-Shape denote.Hole.Carrier.out
flat_thunk t =
    let m : measure (shape.Thunk t) ≡ scalar 8 false = fold_out-Shape Measure Measure measure_step struct_step (shape.Thunk t) in
    rw m
