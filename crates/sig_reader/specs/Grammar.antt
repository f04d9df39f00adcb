-- The grammar of signatures (ECMA-335 II.23.2), as relations between bytes and what they spell, one
-- for each production. A value may have many spellings: custom modifiers leave no trace, a number may
-- be spelled longer than it needs, and the place of SENTINEL is not kept.
use Rattle.std.specs.Prelude.{◌≡◌, ℕ, zero, suc, Bool, true, false, ◌&&◌, ◌||◌, ◌==◌, List, [], ◌∷◌, ◌++◌, length, MatchBool, if◌then◌else◌, ℤ}
use Rattle.sig_reader.specs.declared.elements.Element.{Element}
use Rattle.sig_reader.specs.declared.elements.Element.TheVariants as element_kinds
use Rattle.sig_reader.specs.declared.numbers.Numbers.{Numbers}
use Rattle.sig_reader.specs.declared.numbers.Numbers.TheVariants.{Between, Coded}
use Rattle.sig_reader.specs.declared.signature.TypeSig
use Rattle.sig_reader.specs.declared.signature.TypeSig.{TypeSig}
use Rattle.sig_reader.specs.declared.signature.Sig.{Sig}
use Rattle.sig_reader.specs.Elements.{element, fits, is_void, is_by_ref, is_typed_by_ref, is_modifier, is_sentinel, is_pinned, is_convention, has_this, is_vararg, is_generic}
use Rattle.sig_reader.specs.Numbers.{allows, any_number, IsCompressed, token_of, signed_of}

-- some bytes spell a first part, and those after them what goes on
pub record Joined {A B : Type 0} (R : List ℕ → A → Type 0) (S : A → List ℕ → B → Type 0) (bytes : List ℕ) (y : B) : Type 0 where
  pub front : List ℕ
  pub back : List ℕ
  pub first : A
  pub whole : bytes ≡ front ++ back
  pub begins : R front first
  pub goes_on : S first back y

-- some spelling begins with these bytes
pub record Begins {A : Type 0} (R : List ℕ → A → Type 0) (front : List ℕ) : Type 0 where
  pub more : List ℕ
  pub value : A
  pub spells : R (front ++ more) value

infixr 10 ◌▷◌
abbrev pub ◌▷◌ : {A B : Type 0} → (List ℕ → A → Type 0) → (A → List ℕ → B → Type 0) → List ℕ → B → Type 0
R ▷ S = Joined R S

-- no bytes, for a value
abbrev pub Gives : {A : Type 0} → A → List ℕ → A → Type 0
Gives v bytes x = (bytes ≡ []) × (x ≡ v)

-- one byte that passes a test
abbrev pub IsByte : (ℕ → Bool) → List ℕ → ℕ → Type 0
IsByte passes bytes c = (bytes ≡ c ∷ []) × (passes c ≡ true)

-- after a first byte that passes a test, one thing; else the other
abbrev pub Chosen : {A : Type 0} → (ℕ → Bool) → (List ℕ → A → Type 0) → (List ℕ → A → Type 0) → List ℕ → A → Type 0
Chosen passes R S [] x = S [] x
Chosen passes R S (c ∷ bytes) x = MatchBool (passes c) (R bytes x) (S (c ∷ bytes) x)

-- so many, one after another
abbrev pub Exactly : {A : Type 0} → (List ℕ → A → Type 0) → ℕ → List ℕ → List A → Type 0
Exactly R zero = Gives []
Exactly R (suc n) = R ▷ λ x. Exactly R n ▷ λ xs. Gives (x ∷ xs)

-- a number that the place takes
abbrev pub IsNumber : Numbers → List ℕ → ℕ × ℕ → Type 0
IsNumber numbers bytes x = IsCompressed bytes x × (allows numbers x.0 ≡ true)

abbrev pub IsUnsigned : Numbers → List ℕ → ℕ → Type 0
IsUnsigned numbers = IsNumber numbers ▷ λ x. Gives x.0

abbrev pub IsSigned : List ℕ → ℤ → Type 0
IsSigned = IsNumber any_number ▷ λ x. Gives (signed_of x)

-- TypeDefOrRefOrSpecEncoded (II.23.2.8)
abbrev pub IsToken : List ℕ → ℕ → Type 0
IsToken = IsNumber Coded ▷ λ x. Gives (token_of x.0)

-- At most n custom modifiers (II.23.2.7), and where constraints may stand among them PINNED
-- (II.23.2.9), then a part that is told whether it was there.
abbrev pub AtMost : {A : Type 0} → Bool → ℕ → (Bool → List ℕ → A → Type 0) → Bool → List ℕ → A → Type 0
AtMost constrained zero R pinned = R pinned
AtMost constrained (suc n) R pinned =
    Chosen is_modifier (IsToken ▷ λ token. AtMost constrained n R pinned)
    (Chosen (λ e. constrained && is_pinned e) (AtMost constrained n R true) (R pinned))

-- any number of them, which are at most as many as there are bytes
abbrev pub Prefixed : {A : Type 0} → Bool → (Bool → List ℕ → A → Type 0) → List ℕ → A → Type 0
Prefixed constrained R bytes = AtMost constrained (length bytes) R false bytes

-- CustomMod* and a part
abbrev pub Modified : {A : Type 0} → (List ℕ → A → Type 0) → List ℕ → A → Type 0
Modified R = Prefixed false (λ pinned. R)

-- The parts of a signature that hold types, over the types that they hold.
-- VOID, or else a type
abbrev pub OrVoid : (List ℕ → TypeSig → Type 0) → List ℕ → TypeSig → Type 0
OrVoid T = Chosen is_void (Gives (TypeSig.Prim 0x01)) T

-- TYPEDBYREF, or else a type
abbrev pub OrTypedByRef : (List ℕ → TypeSig → Type 0) → List ℕ → TypeSig → Type 0
OrTypedByRef T = Chosen is_typed_by_ref (Gives (TypeSig.Prim 0x16)) T

-- BYREF and a type, or a type
abbrev pub OrByRef : (List ℕ → TypeSig → Type 0) → List ℕ → TypeSig → Type 0
OrByRef T = Chosen is_by_ref (T ▷ λ t. Gives (TypeSig.ByRef t)) T

-- Param (II.23.2.10)
abbrev pub IsParam : (List ℕ → TypeSig → Type 0) → List ℕ → TypeSig → Type 0
IsParam T = Modified (OrTypedByRef (OrByRef T))

-- RetType (II.23.2.11)
abbrev pub IsResult : (List ℕ → TypeSig → Type 0) → List ℕ → TypeSig → Type 0
IsResult T = Modified (OrVoid (OrTypedByRef (OrByRef T)))

-- the parameters; where SENTINEL may still stand, it may stand before the next one
abbrev pub AreParams : (List ℕ → TypeSig → Type 0) → Bool → ℕ → List ℕ → List TypeSig → Type 0
AreParams T sentinel zero = Gives []
AreParams T sentinel (suc n) =
    Chosen (λ e. sentinel && is_sentinel e)
    (IsParam T ▷ λ t. AreParams T false n ▷ λ ts. Gives (t ∷ ts))
    (IsParam T ▷ λ t. AreParams T sentinel n ▷ λ ts. Gives (t ∷ ts))

-- how many generic parameters there are, where the first byte says that there are some
abbrev pub IsGenericCount : Bool → List ℕ → ℕ → Type 0
IsGenericCount true = IsUnsigned any_number
IsGenericCount false = Gives 0

-- MethodDefSig or MethodRefSig (II.23.2.1, II.23.2.2)
abbrev pub IsMethod : (List ℕ → TypeSig → Type 0) → List ℕ → Sig → Type 0
IsMethod T =
    IsByte is_convention ▷ λ c.
    IsGenericCount (is_generic c) ▷ λ generic.
    IsUnsigned any_number ▷ λ count.
    IsResult T ▷ λ result.
    AreParams T (is_vararg c) count ▷ λ params.
    Gives (record {
      has_this = has_this c;
      vararg = is_vararg c;
      generic = generic;
      result = result;
      params = params;
    })

-- ArrayShape (II.23.2.13): a rank of 1 at least, and at most as many sizes and lower bounds
abbrev pub IsShapeOf : TypeSig → List ℕ → TypeSig → Type 0
IsShapeOf t =
    IsUnsigned (Between 1 0x1FFFFFFF) ▷ λ rank.
    IsUnsigned (Between 0 rank) ▷ λ sizes.
    Exactly (IsUnsigned any_number) sizes ▷ λ sizes.
    IsUnsigned (Between 0 rank) ▷ λ lows.
    Exactly IsSigned lows ▷ λ lows.
    Gives (TypeSig.Array t rank sizes lows)

-- CLASS or VALUETYPE
abbrev pub is_named : ℕ → Bool
is_named e = e == 0x11 || e == 0x12

-- no argument stands where no type may be nested
abbrev pub argument_counts : ℕ → Numbers
argument_counts levels = Between 0 (if levels == 0 then 0 else 0x1FFFFFFF)

-- GENERICINST's parts: CLASS or VALUETYPE, a token, and arguments
abbrev pub IsInstance : ℕ → (List ℕ → TypeSig → Type 0) → List ℕ → TypeSig → Type 0
IsInstance levels T =
    IsByte is_named ▷ λ e.
    IsToken ▷ λ token.
    IsUnsigned (argument_counts levels) ▷ λ count.
    Exactly T count ▷ λ arguments.
    Gives (TypeSig.Inst (TypeSig.Named (e == 0x11) token) arguments)

-- what follows an element type, over types that may be nested so many levels deep
abbrev pub Rest : ℕ → (List ℕ → TypeSig → Type 0) → ℕ → Element → List ℕ → TypeSig → Type 0
Rest levels T e element_kinds.Plain = Gives (TypeSig.Prim e)
Rest levels T e element_kinds.Pointer = Modified (OrVoid T) ▷ λ t. Gives (TypeSig.Ptr t)
Rest levels T e element_kinds.ValueType = IsToken ▷ λ token. Gives (TypeSig.Named true token)
Rest levels T e element_kinds.Class = IsToken ▷ λ token. Gives (TypeSig.Named false token)
Rest levels T e element_kinds.TypeVariable = IsUnsigned any_number ▷ λ n. Gives (TypeSig.Var n)
Rest levels T e element_kinds.MethodVariable = IsUnsigned any_number ▷ λ n. Gives (TypeSig.MVar n)
Rest levels T e element_kinds.Array = T ▷ λ t. IsShapeOf t
Rest levels T e element_kinds.Generic = IsInstance levels T
Rest levels T e element_kinds.Function = IsMethod T ▷ λ sig. Gives (TypeSig.FnPtr sig)
Rest levels T e element_kinds.Vector = Modified T ▷ λ t. Gives (TypeSig.Vector t)
Rest levels T e element_kinds.Other = λ bytes t. ⊥

-- Type (II.23.2.12), nested so many levels deep at most, itself the first of them
unfoldable pub IsType : ℕ → List ℕ → TypeSig → Type 0
IsType zero bytes t = ⊥
IsType (suc levels) bytes t =
    (IsByte (λ e. fits levels (element e)) ▷ λ e. Rest levels (IsType levels) e (element e)) bytes t

-- FieldSig (II.23.2.4)
abbrev pub IsField : List ℕ → TypeSig → Type 0
IsField = IsByte (λ c. c == 0x06) ▷ λ c. Modified (IsType 64)

-- a local that may be pinned
abbrev pub pinned_type : Bool → TypeSig → TypeSig
pinned_type true t = TypeSig.Pinned t
pinned_type false t = t

-- TYPEDBYREF alone, or a type after custom modifiers and constraints (II.23.2.6)
abbrev pub IsLocal : List ℕ → TypeSig → Type 0
IsLocal =
    OrTypedByRef (Prefixed true (λ pinned. OrByRef (IsType 64) ▷ λ t. Gives (pinned_type pinned t)))

-- LocalVarSig (II.23.2.6): 1 to 0xFFFE locals
abbrev pub AreLocals : List ℕ → List TypeSig → Type 0
AreLocals =
    IsByte (λ c. c == 0x07) ▷ λ c.
    IsUnsigned (Between 1 0xFFFE) ▷ λ count.
    Exactly IsLocal count

-- a method's signature in a blob of its own
abbrev pub IsMethodSig : List ℕ → Sig → Type 0
IsMethodSig = IsMethod (IsType 64)

-- the blob of a TypeSpec: one type (II.23.2.14)
abbrev pub IsTypeSpec : List ℕ → TypeSig → Type 0
IsTypeSpec = IsType 64
