-- Types, methods, fields and locals are read as the grammar has them.
use Rattle.std.proofs.Common.{◌≡◌, ℕ, zero, suc, ◌<◌, Bool, true, false, ◌&&◌, ◌||◌, List, [], ◌∷◌, ◌++◌, length, Ok, Err, refl, ap, subst, arith}
use Rattle.std.specs.Prelude.{MatchBool, ◌==◌, nat_lt, nat_le, if◌then◌else◌}
use Rattle.std.proofs.lemmas.Bool.Decides.{nat_tests}
use Rattle.byte_view.specs.Reading.{◌>>=◌}
use Rattle.sig_reader.specs.declared.elements.Element.{Element}
use Rattle.sig_reader.specs.declared.elements.Element.TheVariants as element_kinds
use Rattle.sig_reader.specs.declared.numbers.Numbers.TheVariants.{Between}
use Rattle.sig_reader.specs.declared.signature.TypeSig
use Rattle.sig_reader.specs.declared.signature.TypeSig.{TypeSig}
use Rattle.sig_reader.specs.Elements.{element, fits, is_void, is_by_ref, is_typed_by_ref, is_modifier, is_sentinel, is_pinned, is_convention, has_this, is_vararg, is_generic}
use Rattle.sig_reader.specs.Numbers.{any_number}
use Rattle.sig_reader.specs.Grammar.{◌▷◌, Gives, IsByte, Chosen, Exactly, IsUnsigned, IsSigned, IsToken, Prefixed, Modified, OrVoid, OrTypedByRef, OrByRef, IsParam, IsResult, AreParams, IsGenericCount, IsMethod, IsShapeOf, is_named, argument_counts, IsInstance, Rest, IsType, IsField, pinned_type, IsLocal, AreLocals}
use Rattle.sig_reader.specs.Reading.{Read, byte_where, many, unsigned_in, signed_in, token_in, modified_in, void_or, typed_by_ref_or, by_ref_or, pointed_in, param_in, result_in, params_in, generic_count_in, method_in, shape_in, instance_in, rest_in, type_in, field_in, local_type_in, local_in, locals_in}
use Rattle.sig_reader.proofs.Readers.{Reader, gives, joined, byte, choose, repeat}
use Rattle.sig_reader.proofs.NumberReaders.{IsOpen, unsigned, signed, token, any_is_open}
use Rattle.sig_reader.proofs.ModifierReaders.{all_prefixes}

-- each spelling begins by a byte that passes a test
pub record Starts {A : Type 0} (R : List ℕ → A → Type 0) (passes : ℕ → Bool) : Type 0 where
  pub first : (c : ℕ) (bytes : List ℕ) (x : A) → R (c ∷ bytes) x → passes c ≡ true
  pub nonempty : (x : A) → R [] x → ⊥

never_by : (passes : ℕ → Bool) (k c : ℕ) → passes k ≡ false → passes c ≡ true → (b : Bool) → (c == k) ≡ b → b ≡ false
never_by passes k c h p true e =
    let same : c ≡ k = grind (arith, nat_tests) in
    let q : passes k ≡ true = subst (λ v. passes v ≡ true) same p in
    absurd cc
never_by passes k c h p false e = refl

-- a byte that fails the test isn't the first
never : (passes : ℕ → Bool) (k c : ℕ) → passes k ≡ false → passes c ≡ true → (c == k) ≡ false
never passes k c h p = never_by passes k c h p (c == k) refl

neither : (a b : Bool) → a ≡ false → b ≡ false → (a || b) ≡ false
neither a b h k = rw (h, k) refl

nor_pinned : (a b : Bool) → b ≡ false → (a && b) ≡ false
nor_pinned true b h = h
nor_pinned false b h = refl

no_modifier : (passes : ℕ → Bool) (c : ℕ) → passes 0x1F ≡ false → passes 0x20 ≡ false → passes c ≡ true → is_modifier c ≡ false
no_modifier passes c a b p = neither (c == 0x1F) (c == 0x20) (never passes 0x1F c a p) (never passes 0x20 c b p)

match_starts : (a b : Bool) (P Q : Type 0) → (Q → b ≡ true) → MatchBool a P Q → (a || b) ≡ true
match_starts true b P Q f m = refl
match_starts false b P Q f m = f m

chosen_starts : {A : Type 0} (passes starts : ℕ → Bool) (R S : List ℕ → A → Type 0) → Starts S starts → Starts (Chosen passes R S) (λ c. passes c || starts c)
chosen_starts passes starts R S s = record {
  first = λ c bytes x m. match_starts (passes c) (starts c) _ _ (s.first c bytes x) m;
  nonempty = s.nonempty;
}

joined_first : {A B : Type 0} (R : List ℕ → A → Type 0) (S : A → List ℕ → B → Type 0) (starts : ℕ → Bool) → Starts R starts → (c : ℕ) (bytes front back : List ℕ) (x : A) → c ∷ bytes ≡ front ++ back → R front x → starts c ≡ true
joined_first R S starts s c bytes [] back x w r = absurd (s.nonempty x r)
joined_first R S starts s c bytes (d ∷ front) back x w r =
    let same : d ≡ c = cc in
    subst (λ v. starts v ≡ true) same (s.first d front x r)

joined_none : {A : Type 0} (R : List ℕ → A → Type 0) (starts : ℕ → Bool) → Starts R starts → (front back : List ℕ) (x : A) → [] ≡ front ++ back → R front x → ⊥
joined_none R starts s [] back x w r = s.nonempty x r
joined_none R starts s (d ∷ front) back x w r = cc

joined_starts : {A B : Type 0} (R : List ℕ → A → Type 0) (S : A → List ℕ → B → Type 0) (starts : ℕ → Bool) → Starts R starts → Starts (R ▷ S) starts
joined_starts R S starts s = record {
  first = λ c bytes y j. joined_first R S starts s c bytes j.front j.back j.first j.whole j.begins;
  nonempty = λ y j. joined_none R starts s j.front j.back j.first j.whole j.begins;
}

modified_starts : {A : Type 0} (R : List ℕ → A → Type 0) (starts : ℕ → Bool) → Starts R starts → Starts (Modified R) (λ c. is_modifier c || starts c)
modified_starts R starts s = record {
  first = λ c bytes x m. match_starts (is_modifier c) (starts c) _ _ (s.first c bytes x) m;
  nonempty = s.nonempty;
}

modified : {A : Type 0} (R : List ℕ → A → Type 0) (p : List ℕ → Read A) (starts : ℕ → Bool) → Reader R p → Starts R starts → starts 0x1F ≡ false → starts 0x20 ≡ false → Reader (Modified R) (modified_in p)
modified R p starts P s a b =
    all_prefixes false (λ pinned. R) (λ pinned. p) (λ pinned. P)
    (λ pinned c bytes x r. no_modifier starts c a b (s.first c bytes x r))
    (λ pinned c bytes x r. refl)
    (λ pinned x r. s.nonempty x r)

-- the bytes that begin a type
abbrev pub begins_type : ℕ → Bool
begins_type c = fits 1 (element c)

abbrev begins_by_ref : ℕ → Bool
begins_by_ref c = is_by_ref c || begins_type c

abbrev begins_typed : ℕ → Bool
begins_typed c = is_typed_by_ref c || begins_by_ref c

abbrev begins_void : ℕ → Bool
begins_void c = is_void c || begins_typed c

module _ (T : List ℕ → TypeSig → Type 0) (t : List ℕ → Read TypeSig) (P : Reader T t) (s : Starts T begins_type) where
  by_ref : Reader (OrByRef T) (by_ref_or t)
  by_ref =
      choose is_by_ref (T ▷ λ t. Gives (TypeSig.ByRef t)) T (λ bytes. t bytes >>= λ r. Ok (TypeSig.ByRef r.0, r.1)) t
      (joined T (λ t. Gives (TypeSig.ByRef t)) t (λ x bytes. Ok (TypeSig.ByRef x, bytes)) P (λ x front r. gives (TypeSig.ByRef x)))
      P (λ c bytes x r. never begins_type 0x10 c refl (s.first c bytes x r)) s.nonempty

  by_ref_starts : Starts (OrByRef T) begins_by_ref
  by_ref_starts = chosen_starts is_by_ref begins_type (T ▷ λ t. Gives (TypeSig.ByRef t)) T s

  typed : Reader (OrTypedByRef (OrByRef T)) (typed_by_ref_or (by_ref_or t))
  typed =
      choose is_typed_by_ref (Gives (TypeSig.Prim 0x16)) (OrByRef T) (λ bytes. Ok (TypeSig.Prim 0x16, bytes)) (by_ref_or t)
      (gives (TypeSig.Prim 0x16)) by_ref
      (λ c bytes x r. never begins_by_ref 0x16 c refl (by_ref_starts.first c bytes x r)) by_ref_starts.nonempty

  typed_starts : Starts (OrTypedByRef (OrByRef T)) begins_typed
  typed_starts = chosen_starts is_typed_by_ref begins_by_ref (Gives (TypeSig.Prim 0x16)) (OrByRef T) by_ref_starts

  param : Reader (IsParam T) (param_in t)
  unfolding param_in
  param = modified (OrTypedByRef (OrByRef T)) (typed_by_ref_or (by_ref_or t)) begins_typed typed typed_starts refl refl

  param_starts : Starts (IsParam T) (λ c. is_modifier c || begins_typed c)
  param_starts = modified_starts (OrTypedByRef (OrByRef T)) begins_typed typed_starts

  result : Reader (IsResult T) (result_in t)
  unfolding result_in
  result =
      modified (OrVoid (OrTypedByRef (OrByRef T))) (void_or (typed_by_ref_or (by_ref_or t))) begins_void
      (choose is_void (Gives (TypeSig.Prim 0x01)) (OrTypedByRef (OrByRef T)) (λ bytes. Ok (TypeSig.Prim 0x01, bytes)) (typed_by_ref_or (by_ref_or t))
      (gives (TypeSig.Prim 0x01)) typed
      (λ c bytes x r. never begins_typed 0x01 c refl (typed_starts.first c bytes x r)) typed_starts.nonempty)
      (chosen_starts is_void begins_typed (Gives (TypeSig.Prim 0x01)) (OrTypedByRef (OrByRef T)) typed_starts) refl refl

  pointed : Reader (Modified (OrVoid T)) (pointed_in t)
  unfolding pointed_in
  pointed =
      modified (OrVoid T) (void_or t) (λ c. is_void c || begins_type c)
      (choose is_void (Gives (TypeSig.Prim 0x01)) T (λ bytes. Ok (TypeSig.Prim 0x01, bytes)) t
      (gives (TypeSig.Prim 0x01)) P
      (λ c bytes x r. never begins_type 0x01 c refl (s.first c bytes x r)) s.nonempty)
      (chosen_starts is_void begins_type (Gives (TypeSig.Prim 0x01)) T s) refl refl

  -- a parameter, and then those after it
  one_more : (sentinel : Bool) (n : ℕ) → Reader (AreParams T sentinel n) (params_in t sentinel n) → Reader (IsParam T ▷ λ x. AreParams T sentinel n ▷ λ xs. Gives (x ∷ xs)) (λ bytes. param_in t bytes >>= λ r. params_in t sentinel n r.1 >>= λ s. Ok (r.0 ∷ s.0, s.1))
  one_more sentinel n more =
      joined (IsParam T) (λ x. AreParams T sentinel n ▷ λ xs. Gives (x ∷ xs)) (param_in t) (λ x bytes. params_in t sentinel n bytes >>= λ s. Ok (x ∷ s.0, s.1)) param
      (λ x front r. joined (AreParams T sentinel n) (λ xs. Gives (x ∷ xs)) (params_in t sentinel n) (λ xs bytes. Ok (x ∷ xs, bytes)) more (λ xs front r. gives (x ∷ xs)))

  params : (sentinel : Bool) (n : ℕ) → Reader (AreParams T sentinel n) (params_in t sentinel n)
  unfolding params_in
  params sentinel zero = gives []
  params sentinel (suc n) =
      let rest = joined_starts (IsParam T) (λ x. AreParams T sentinel n ▷ λ xs. Gives (x ∷ xs)) (λ c. is_modifier c || begins_typed c) param_starts in
      choose (λ e. sentinel && is_sentinel e)
      (IsParam T ▷ λ x. AreParams T false n ▷ λ xs. Gives (x ∷ xs))
      (IsParam T ▷ λ x. AreParams T sentinel n ▷ λ xs. Gives (x ∷ xs))
      (λ bytes. param_in t bytes >>= λ r. params_in t false n r.1 >>= λ s. Ok (r.0 ∷ s.0, s.1))
      (λ bytes. param_in t bytes >>= λ r. params_in t sentinel n r.1 >>= λ s. Ok (r.0 ∷ s.0, s.1))
      (one_more false n (params false n)) (one_more sentinel n (params sentinel n))
      (λ c bytes x r. nor_pinned sentinel (is_sentinel c) (never (λ c. is_modifier c || begins_typed c) 0x41 c refl (rest.first c bytes x r)))
      rest.nonempty

  generic_count : (b : Bool) → Reader (IsGenericCount b) (generic_count_in b)
  generic_count true = unsigned any_number any_is_open
  generic_count false = gives 0

  method : Reader (IsMethod T) (method_in t)
  unfolding method_in
  method =
      joined (IsByte is_convention) _ (byte_where is_convention) _ (byte is_convention 0 refl) (λ c front r.
      joined (IsGenericCount (is_generic c)) _ (generic_count_in (is_generic c)) _ (generic_count (is_generic c)) (λ generic front r.
      joined (IsUnsigned any_number) _ (unsigned_in any_number) _ (unsigned any_number any_is_open) (λ count front r.
      joined (IsResult T) _ (result_in t) _ result (λ value front r.
      joined (AreParams T (is_vararg c) count) _ (params_in t (is_vararg c) count) _ (params (is_vararg c) count) (λ all front r.
      gives (record { has_this = has_this c; vararg = is_vararg c; generic = generic; result = value; params = all }))))))

lows : (t : TypeSig) (rank sizes : ℕ) (bounds : List ℕ) → Reader (IsUnsigned (Between 0 rank) ▷ λ n. Exactly IsSigned n ▷ λ lows. Gives (TypeSig.Array t rank bounds lows)) (λ bytes. unsigned_in (Between 0 rank) bytes >>= λ n. many signed_in n.0 n.1 >>= λ lows. Ok (TypeSig.Array t rank bounds lows.0, lows.1))
lows t rank sizes bounds =
    joined (IsUnsigned (Between 0 rank)) _ (unsigned_in (Between 0 rank)) _ (unsigned (Between 0 rank) (omega arith, omega arith)) (λ n front r.
    joined (Exactly IsSigned n) _ (many signed_in n) _ (repeat IsSigned signed_in n (λ h. signed)) (λ lows front r.
    gives (TypeSig.Array t rank bounds lows)))

shape : (t : TypeSig) → Reader (IsShapeOf t) (shape_in t)
unfolding shape_in
shape t =
    joined (IsUnsigned (Between 1 0x1FFFFFFF)) _ (unsigned_in (Between 1 0x1FFFFFFF)) _ (unsigned (Between 1 0x1FFFFFFF) (omega arith, omega arith)) (λ rank front r.
    joined (IsUnsigned (Between 0 rank)) _ (unsigned_in (Between 0 rank)) _ (unsigned (Between 0 rank) (omega arith, omega arith)) (λ n front r.
    joined (Exactly (IsUnsigned any_number) n) _ (many (unsigned_in any_number) n) _ (repeat (IsUnsigned any_number) (unsigned_in any_number) n (λ h. unsigned any_number any_is_open)) (λ sizes front r.
    lows t rank n sizes)))

arguments_open : (levels : ℕ) → IsOpen (argument_counts levels)
arguments_open levels = (omega arith, omega arith)

-- where an argument is counted, a level is left
some_arguments : (levels n : ℕ) (front : List ℕ) → IsUnsigned (argument_counts levels) front n → 0 < n → 0 < levels
some_arguments levels n front r h =
    let same : n ≡ r.first.0 = r.goes_on.1 in
    let taken : (nat_le 0 r.first.0 && nat_le r.first.0 (if levels == 0 then 0 else 0x1FFFFFFF)) ≡ true = r.begins.1 in
    grind (arith, nat_tests)

module _ (levels : ℕ) (T : List ℕ → TypeSig → Type 0) (t : List ℕ → Read TypeSig) (P : 0 < levels → Reader T t) (s : Starts T begins_type) where
  generic_type : Reader (IsInstance levels T) (instance_in levels t)
  unfolding instance_in
  generic_type =
      joined (IsByte is_named) _ (byte_where is_named) _ (byte is_named 0x11 refl) (λ e front r.
      joined IsToken _ token_in _ token (λ name front r.
      joined (IsUnsigned (argument_counts levels)) _ (unsigned_in (argument_counts levels)) _ (unsigned (argument_counts levels) (arguments_open levels)) (λ n front r.
      joined (Exactly T n) _ (many t n) _ (repeat T t n (λ h. P (some_arguments levels n front r h))) (λ all front r.
      gives (TypeSig.Inst (TypeSig.Named (e == 0x11) name) all)))))

  has_level : nat_lt 0 levels ≡ true → 0 < levels
  has_level h = grind (arith, nat_tests)

  after_element : (e : ℕ) (kind : Element) → fits levels kind ≡ true → Reader (Rest levels T e kind) (rest_in levels t e kind)
  after_element e element_kinds.Plain h = gives (TypeSig.Prim e)
  after_element e element_kinds.Pointer h =
      joined (Modified (OrVoid T)) (λ x. Gives (TypeSig.Ptr x)) (pointed_in t) (λ x bytes. Ok (TypeSig.Ptr x, bytes)) (pointed T t (P (has_level h)) s) (λ x front r. gives (TypeSig.Ptr x))
  after_element e element_kinds.ValueType h =
      joined IsToken (λ x. Gives (TypeSig.Named true x)) token_in (λ x bytes. Ok (TypeSig.Named true x, bytes)) token (λ x front r. gives (TypeSig.Named true x))
  after_element e element_kinds.Class h =
      joined IsToken (λ x. Gives (TypeSig.Named false x)) token_in (λ x bytes. Ok (TypeSig.Named false x, bytes)) token (λ x front r. gives (TypeSig.Named false x))
  after_element e element_kinds.TypeVariable h =
      joined (IsUnsigned any_number) (λ x. Gives (TypeSig.Var x)) (unsigned_in any_number) (λ x bytes. Ok (TypeSig.Var x, bytes)) (unsigned any_number any_is_open) (λ x front r. gives (TypeSig.Var x))
  after_element e element_kinds.MethodVariable h =
      joined (IsUnsigned any_number) (λ x. Gives (TypeSig.MVar x)) (unsigned_in any_number) (λ x bytes. Ok (TypeSig.MVar x, bytes)) (unsigned any_number any_is_open) (λ x front r. gives (TypeSig.MVar x))
  after_element e element_kinds.Array h = joined T IsShapeOf t shape_in (P (has_level h)) (λ x front r. shape x)
  after_element e element_kinds.Generic h = generic_type
  after_element e element_kinds.Function h =
      joined (IsMethod T) (λ x. Gives (TypeSig.FnPtr x)) (method_in t) (λ x bytes. Ok (TypeSig.FnPtr x, bytes)) (method T t (P (has_level h)) s) (λ x front r. gives (TypeSig.FnPtr x))
  after_element e element_kinds.Vector h =
      joined (Modified T) (λ x. Gives (TypeSig.Vector x)) (modified_in t) (λ x bytes. Ok (TypeSig.Vector x, bytes)) (modified T t begins_type (P (has_level h)) s refl refl) (λ x front r. gives (TypeSig.Vector x))
  after_element e element_kinds.Other h = absurd cc

fits_one : (levels : ℕ) (kind : Element) → fits levels kind ≡ true → fits 1 kind ≡ true
fits_one levels element_kinds.Plain h = refl
fits_one levels element_kinds.Pointer h = refl
fits_one levels element_kinds.ValueType h = refl
fits_one levels element_kinds.Class h = refl
fits_one levels element_kinds.TypeVariable h = refl
fits_one levels element_kinds.MethodVariable h = refl
fits_one levels element_kinds.Array h = refl
fits_one levels element_kinds.Generic h = refl
fits_one levels element_kinds.Function h = refl
fits_one levels element_kinds.Vector h = refl
fits_one levels element_kinds.Other h = h

pub type_starts : (levels : ℕ) → Starts (IsType levels) begins_type
unfolding IsType
type_starts zero = record { first = λ c bytes x r. absurd r; nonempty = λ x r. r }
type_starts (suc levels) = record {
  first = λ c bytes x j.
      let same : j.first ≡ c = cc (j.whole, ap (λ f. f ++ j.back) j.begins.0) in
      subst (λ v. begins_type v ≡ true) same (fits_one levels (element j.first) j.begins.1);
  nonempty = λ x j. cc (j.whole, ap (λ f. f ++ j.back) j.begins.0);
}

-- a type under which types may be nested so many levels deep, from those
one_level : (levels : ℕ) → (0 < levels → Reader (IsType levels) (type_in levels)) → Reader (IsType (suc levels)) (type_in (suc levels))
unfolding IsType type_in
one_level levels P =
    joined (IsByte (λ e. fits levels (element e))) (λ e. Rest levels (IsType levels) e (element e)) (byte_where (λ e. fits levels (element e))) (λ e bytes. rest_in levels (type_in levels) e (element e) bytes)
    (byte (λ e. fits levels (element e)) 8 refl)
    (λ e front r. after_element levels (IsType levels) (type_in levels) P (type_starts levels) e (element e) r.1)

pub type_reader : (levels : ℕ) → 0 < levels → Reader (IsType levels) (type_in levels)
type_reader zero h = absurd (omega arith)
type_reader (suc levels) h = one_level levels (type_reader levels)

whole_type : Reader (IsType 64) (type_in 64)
whole_type = type_reader 64 (omega arith)

pub type_spec : Reader (IsType 64) (type_in 64)
type_spec = whole_type

pub field : Reader IsField field_in
unfolding field_in
field =
    joined (IsByte (λ c. c == 0x06)) (λ c. Modified (IsType 64)) (byte_where (λ c. c == 0x06)) (λ c. modified_in (type_in 64)) (byte (λ c. c == 0x06) 6 refl)
    (λ c front r. modified (IsType 64) (type_in 64) begins_type whole_type (type_starts 64) refl refl)

pub whole_method : Reader (IsMethod (IsType 64)) (method_in (type_in 64))
whole_method = method (IsType 64) (type_in 64) whole_type (type_starts 64)

abbrev Pinnable : Bool → List ℕ → TypeSig → Type 0
Pinnable pinned = OrByRef (IsType 64) ▷ λ t. Gives (pinned_type pinned t)

pinnable_starts : (pinned : Bool) → Starts (Pinnable pinned) begins_by_ref
pinnable_starts pinned =
    joined_starts (OrByRef (IsType 64)) (λ t. Gives (pinned_type pinned t)) begins_by_ref
    (by_ref_starts (IsType 64) (type_in 64) whole_type (type_starts 64))

local_type : Reader (Prefixed true Pinnable) local_type_in
unfolding local_type_in
local_type =
    all_prefixes true Pinnable (λ pinned bytes. by_ref_or (type_in 64) bytes >>= λ t. Ok (pinned_type pinned t.0, t.1))
    (λ pinned.
    joined (OrByRef (IsType 64)) (λ t. Gives (pinned_type pinned t)) (by_ref_or (type_in 64)) (λ t bytes. Ok (pinned_type pinned t, bytes))
    (by_ref (IsType 64) (type_in 64) whole_type (type_starts 64)) (λ t front r. gives (pinned_type pinned t)))
    (λ pinned c bytes x r. no_modifier begins_by_ref c refl refl ((pinnable_starts pinned).first c bytes x r))
    (λ pinned c bytes x r. never begins_by_ref 0x45 c refl ((pinnable_starts pinned).first c bytes x r))
    (λ pinned x r. (pinnable_starts pinned).nonempty x r)

-- after its prefixes a local begins as its type
local_first : (c : ℕ) (bytes : List ℕ) (x : TypeSig) → Prefixed true Pinnable (c ∷ bytes) x → (is_modifier c || (is_pinned c || begins_by_ref c)) ≡ true
local_first c bytes x m =
    match_starts (is_modifier c) (is_pinned c || begins_by_ref c) _ _
    (match_starts (is_pinned c) (begins_by_ref c) _ _ ((pinnable_starts false).first c bytes x)) m

local : Reader IsLocal local_in
unfolding local_in
local =
    choose is_typed_by_ref (Gives (TypeSig.Prim 0x16)) (Prefixed true Pinnable) (λ bytes. Ok (TypeSig.Prim 0x16, bytes)) local_type_in
    (gives (TypeSig.Prim 0x16)) local_type
    (λ c bytes x r. never (λ c. is_modifier c || (is_pinned c || begins_by_ref c)) 0x16 c refl (local_first c bytes x r))
    (λ x r. (pinnable_starts false).nonempty x r)

pub locals : Reader AreLocals locals_in
unfolding locals_in
locals =
    joined (IsByte (λ c. c == 0x07)) _ (byte_where (λ c. c == 0x07)) _ (byte (λ c. c == 0x07) 7 refl) (λ c front r.
    joined (IsUnsigned (Between 1 0xFFFE)) (λ n. Exactly IsLocal n) (unsigned_in (Between 1 0xFFFE)) (λ n. many local_in n) (unsigned (Between 1 0xFFFE) (omega arith, omega arith)) (λ n front r.
    repeat IsLocal local_in n (λ h. local)))

pub no_levels : (levels : ℕ) (bytes : List ℕ) → levels ≡ 0 → type_in levels bytes ≡ Err (length bytes)
unfolding type_in
no_levels zero bytes h = refl
no_levels (suc levels) bytes h = absurd (omega arith)
