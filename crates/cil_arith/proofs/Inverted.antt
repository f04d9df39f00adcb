-- What an operation gave, taken apart: the kind of the result, and what the rule answered in it.
use Rattle.std.proofs.Common.{◌≡◌, ℤ, FitsSigned, Option, None, Some, Result, Ok, Err, refl, sym, ap, subst, ◌∙◌, arith}
use Rattle.std.proofs.lemmas.Int.{ints}
use Rattle.std.specs.Option.{option_map}
use Rattle.std.specs.Int.{w32, w64}
use Rattle.cil_arith.specs.declared.num.Num.{Num}
use Rattle.cil_arith.specs.declared.num.Arith.{Arith}
use Rattle.cil_arith.specs.declared.num.Arith.TheVariants.{Overflow}
use Rattle.cil_arith.specs.declared.operations.BinOp.{BinOp}
use Rattle.cil_arith.specs.Kinds.{Kind, Int32, Int64, NativeInt, kind_of, width, whole, number, common_kind}
use Rattle.cil_arith.specs.Arithmetic.{rule, result_kind, answer, in_kind, binary_of}
use Rattle.cil_arith.specs.Laws.{IsNumber}
use Rattle.cil_arith.proofs.Compared.{common_turns}

-- the answer of the operation in the kind of its result
abbrev pub answer_in : BinOp → Num → Num → Kind → Result ℤ Arith
answer_in op a b kind = answer (rule op) (width kind) (whole a) (whole b)

pub record Gives (op : BinOp) (a b c : Num) : Type 0 where
  pub kind : Kind
  pub value : ℤ
  pub in_kind : result_kind (rule op) (kind_of a) (kind_of b) ≡ Some kind
  pub answer : answer_in op a b kind ≡ Ok value
  pub is : number kind value ≡ c

pub some_same : {A : Type 0} (x y : A) → Some x ≡ Some y → x ≡ y
some_same x y e = cc

not_some : {A : Type 0} (x : A) → None ≡ Some x → ⊥
not_some x e = cc

mapped : {A : Type 0} (f : Kind → A) (o : Option Kind) (y : A) → option_map f o ≡ Some y → (kind : Kind) × (o ≡ Some kind) × (f kind ≡ y)
mapped f None y e = absurd (not_some y e)
mapped f (Some kind) y e = (kind, refl, some_same (f kind) y e)

ok_same : (x y : Num) (r : Result Num Arith) → r ≡ Ok x → r ≡ Ok y → x ≡ y
ok_same x y r d e = cc

not_ok : (error : Arith) (x : Num) (r : Result Num Arith) → r ≡ Err error → r ≡ Ok x → ⊥
not_ok error x r d e = cc

valued : (kind : Kind) (r : Result ℤ Arith) (c : Num) → in_kind kind r ≡ Ok c → (value : ℤ) × (r ≡ Ok value) × (number kind value ≡ c)
valued kind (Ok v) c e = (v, refl, ok_same (number kind v) c (Ok (number kind v)) refl e)
valued kind (Err error) c e = absurd (not_ok error c (Err error) refl e)

pub taken_apart : (op : BinOp) (a b c : Num) → binary_of op a b ≡ Some (Ok c) → Gives op a b c
taken_apart op a b c e =
    let m = mapped (λ kind. in_kind kind (answer_in op a b kind)) (result_kind (rule op) (kind_of a) (kind_of b)) (Ok c) e in
    let v = valued m.0 (answer_in op a b m.0) c m.2 in
    record { kind = m.0; value = v.0; in_kind = m.1; answer = v.1; is = v.2 }

pub record Fails (op : BinOp) (a b : Num) (error : Arith) : Type 0 where
  pub kind : Kind
  pub in_kind : result_kind (rule op) (kind_of a) (kind_of b) ≡ Some kind
  pub answer : answer_in op a b kind ≡ Err error

error_same : (x y : Arith) (r : Result Num Arith) → r ≡ Err x → r ≡ Err y → x ≡ y
error_same x y r d e = cc

refused : (kind : Kind) (r : Result ℤ Arith) (error : Arith) → in_kind kind r ≡ Err error → r ≡ Err error
refused kind (Ok v) error e = absurd (not_ok error (number kind v) (Err error) refl (sym e))
refused kind (Err x) error e = ap Err (error_same x error (Err x) refl e)

pub failure : (op : BinOp) (a b : Num) (error : Arith) → binary_of op a b ≡ Some (Err error) → Fails op a b error
failure op a b error e =
    let m = mapped (λ kind. in_kind kind (answer_in op a b kind)) (result_kind (rule op) (kind_of a) (kind_of b)) (Err error) e in
    record { kind = m.0; in_kind = m.1; answer = refused m.0 (answer_in op a b m.0) error m.2 }

-- the operation's answer at a kind that is known
pub put_together : (op : BinOp) (a b : Num) (kind : Kind) (r : Result ℤ Arith) → result_kind (rule op) (kind_of a) (kind_of b) ≡ Some kind → answer_in op a b kind ≡ r → binary_of op a b ≡ Some (in_kind kind r)
put_together op a b kind r e h =
    ap (option_map (λ k. in_kind k (answer_in op a b k))) e ∙ ap (λ x. Some (in_kind kind x)) h

-- the answer is that of the kind in which the numbers meet
pub at_kind : (op : BinOp) (a b : Num) (kind : Kind) → result_kind (rule op) (kind_of a) (kind_of b) ≡ Some kind → binary_of op a b ≡ Some (Err Overflow) → answer_in op a b kind ≡ Err Overflow
at_kind op a b kind m e =
    let h = failure op a b Overflow e in
    subst (λ k. answer_in op a b k ≡ Err Overflow) (some_same h.kind kind (sym h.in_kind ∙ m)) h.answer

-- ---- the operands in the kind in which they meet

widened : (z : ℤ) → FitsSigned w32 z → FitsSigned w64 z
widened z f = omega (arith, ints)

-- a kind's numbers fit the kind in which it meets another
meets : (x y kind : Kind) (z : ℤ) → FitsSigned (width x) z → common_kind x y ≡ Some kind → FitsSigned (width kind) z
meets Int32 Int32 kind z f e = subst (λ k. FitsSigned (width k) z) (some_same Int32 kind e) f
meets Int32 Int64 kind z f e = absurd (not_some kind e)
meets Int32 NativeInt kind z f e = subst (λ k. FitsSigned (width k) z) (some_same NativeInt kind e) (widened z f)
meets Int64 Int32 kind z f e = absurd (not_some kind e)
meets Int64 Int64 kind z f e = subst (λ k. FitsSigned (width k) z) (some_same Int64 kind e) f
meets Int64 NativeInt kind z f e = absurd (not_some kind e)
meets NativeInt Int32 kind z f e = subst (λ k. FitsSigned (width k) z) (some_same NativeInt kind e) f
meets NativeInt Int64 kind z f e = absurd (not_some kind e)
meets NativeInt NativeInt kind z f e = subst (λ k. FitsSigned (width k) z) (some_same NativeInt kind e) f

pub first_fits : (a b : Num) (kind : Kind) → IsNumber a → common_kind (kind_of a) (kind_of b) ≡ Some kind → FitsSigned (width kind) (whole a)
first_fits a b kind f e = meets (kind_of a) (kind_of b) kind (whole a) f e

pub second_fits : (a b : Num) (kind : Kind) → IsNumber b → common_kind (kind_of a) (kind_of b) ≡ Some kind → FitsSigned (width kind) (whole b)
second_fits a b kind f e = meets (kind_of b) (kind_of a) kind (whole b) f (common_turns (kind_of b) (kind_of a) ∙ e)

pub kind_is : (kind : Kind) (z : ℤ) → kind_of (number kind z) ≡ kind
kind_is Int32 z = refl
kind_is Int64 z = refl
kind_is NativeInt z = refl

pub value_is : (kind : Kind) (z : ℤ) → whole (number kind z) ≡ z
value_is Int32 z = refl
value_is Int64 z = refl
value_is NativeInt z = refl
