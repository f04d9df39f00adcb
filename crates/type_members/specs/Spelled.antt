-- Signatures spelled apart from tokens: two of them are the same where their spellings are (ECMA-335 II.22.25). A spelling is
-- the blob of II.23.2 with each type that is named by a token or by an element type of its own written as that type.
use Rattle.std.specs.Prelude.{ℕ, Bool, List, [], ◌∷◌, ◌++◌, map, length, Option, Some, None, option_and_then, if◌then◌else◌}
use Rattle.std.specs.List.{flat_map}
use Rattle.std.specs.Int.{cast_unsigned, w32}
use Rattle.managed_value.specs.declared.names.TypeId.{TypeId}
use Rattle.sig_reader.specs.declared.signature.TypeSig.{TypeSig, Prim}
use Rattle.sig_reader.specs.declared.signature.TypeSig.TheOpen.{TypeSig-F, Sig-F}
use Rattle.sig_reader.specs.declared.signature.TypeSig.TheFolds.{fold-TypeSig}
use Rattle.sig_reader.specs.declared.signature.Sig.{Sig, out-Sig}
use Rattle.type_model.specs.Module.{Module}
use Rattle.type_model.specs.TypeIds.{named, type_of, in_brackets}

-- what a type of a signature is: the type that it names, if it names one, and how it is spelled if it names none
pub record Said : Type 0 where
  pub id : Option TypeId
  pub parts : List ℕ

-- a type that is named: element type 0, which no type has, its base and how many brackets stand round it
abbrev pub id_words : TypeId → List ℕ
id_words id = 0 ∷ id.base ∷ id.arrays ∷ []

abbrev pub words_by : Option TypeId → List ℕ → List ℕ
words_by None parts = parts
words_by (Some id) parts = id_words id

abbrev pub said_words : Said → List ℕ
said_words said = words_by said.id said.parts

-- a type that no token names, by its element type (II.23.1.16) and what follows that
abbrev pub unnamed : List ℕ → Said
unnamed parts = record { id = None; parts = parts }

abbrev pub counted : List (List ℕ) → List ℕ
counted lists = length lists ∷ flat_map (λ words. words) lists

abbrev pub said_step : Module → TypeSig-F Said (List ℕ) → Said
said_step m (TypeSig-F.Prim code) = record { id = type_of m (Prim code); parts = code ∷ [] }
said_step m (TypeSig-F.Named is_value token) = record { id = named m token; parts = 0x12 ∷ token ∷ [] }
said_step m (TypeSig-F.Ptr to) = unnamed (0x0F ∷ said_words to)
said_step m (TypeSig-F.ByRef to) = unnamed (0x10 ∷ said_words to)
said_step m (TypeSig-F.Vector element) =
    record { id = option_and_then (in_brackets 1) element.id; parts = 0x1D ∷ said_words element }
said_step m (TypeSig-F.Pinned of) = unnamed (0x45 ∷ said_words of)
said_step m (TypeSig-F.Array element rank sizes lows) =
    unnamed (0x14 ∷ said_words element ++ rank ∷ length sizes ∷ sizes ++ length lows ∷ map (cast_unsigned w32) lows)
said_step m (TypeSig-F.Inst generic arguments) =
    unnamed (0x15 ∷ said_words generic ++ counted (map said_words arguments))
said_step m (TypeSig-F.Var n) = unnamed (0x13 ∷ n ∷ [])
said_step m (TypeSig-F.MVar n) = unnamed (0x1E ∷ n ∷ [])
said_step m (TypeSig-F.FnPtr sig) = unnamed (0x1B ∷ sig)

abbrev pub flag : Bool → ℕ
flag b = if b then 1 else 0

-- a method's: whether it is called on an object, whether it takes more arguments, how many generic parameters it has, its
-- result and its parameters
abbrev pub sig_step : Sig-F Said (List ℕ) → List ℕ
sig_step s =
    flag s.has_this ∷ flag s.vararg ∷ s.generic ∷ said_words s.result ++ counted (map said_words s.params)

unfoldable pub said : Module → TypeSig → Said
said m = fold-TypeSig Said (List ℕ) (said_step m) sig_step

abbrev pub type_words : Module → TypeSig → List ℕ
type_words m sig = said_words (said m sig)

abbrev pub sig_words : Module → Sig → List ℕ
sig_words m sig =
    flag (out-Sig sig).has_this ∷ flag (out-Sig sig).vararg ∷ (out-Sig sig).generic
    ∷ type_words m (out-Sig sig).result ++ counted (map (type_words m) (out-Sig sig).params)
