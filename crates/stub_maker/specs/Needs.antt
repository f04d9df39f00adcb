-- What the value types and the delegate types of a file need of each other, and what it means that no more is asked of them.
use Rattle.std.specs.Prelude.{◌≡◌, ℕ, Bool, true, All, Option, Some, None, if◌then◌else◌}
use Rattle.stub_maker.specs.declared.kinds.Kind.{Kind}
use Rattle.stub_maker.specs.declared.kinds.Kind.TheVariants as kind
use Rattle.stub_maker.specs.declared.kinds.TypeKind.{TypeKind}
use Rattle.stub_maker.specs.declared.kinds.TypeKind.TheVariants.{One, Array}
use Rattle.stub_maker.specs.declared.kinds.Passed.{Passed}
use Rattle.stub_maker.specs.declared.facts.FieldFacts.{FieldFacts}
use Rattle.stub_maker.specs.declared.facts.StructFacts.{StructFacts}
use Rattle.stub_maker.specs.declared.signature.Imported.{Imported}
use Rattle.stub_maker.specs.declared.signature.Signature.{Signature}
use Rattle.stub_maker.specs.Shapes.{Known}
use Rattle.stub_maker.specs.Rules.{step_of, stub_of}
use Rattle.stub_maker.specs.Callbacks.{back_of}
use Rattle.stub_maker.specs.Described.{bare_shape}
use Rattle.stub_maker.specs.Facts.{TypeFacts, known_after}

-- sets of value types and of delegate types, by their rows
pub record TypeSets : Type 0 where
  pub structs : ℕ → Bool
  pub delegates : ℕ → Bool

-- a value type or a delegate type is in its set; what is neither needs none
abbrev pub IsIn : TypeSets → Kind → Type 0
IsIn w (kind.Struct t) = w.structs t ≡ true
IsIn w (kind.Delegate t) = w.delegates t ≡ true
IsIn w _ = Unit {0}

-- of an array its elements are
abbrev pub NeedsIn : TypeSets → TypeKind → Type 0
NeedsIn w (One k) = IsIn w k
NeedsIn w (Array base k) = IsIn w k

-- what a signature names is in these sets
pub record SignatureIn (w : TypeSets) (s : Signature) : Type 0 where
  pub params : All (λ (p : Passed). NeedsIn w p.kind) s.params
  pub result : (p : Passed) → s.result ≡ Some p → NeedsIn w p.kind

-- what these types need is in these sets too: the types of a value type's fields, the inherited ones among them, and those that
-- Invoke of a delegate type names. The bases of a value type themselves aren't needed.
pub record AreClosed (facts : TypeFacts) (w : TypeSets) : Type 0 where
  pub structs : (t : ℕ) (s : StructFacts) → w.structs t ≡ true → facts.struct_of t ≡ Some s → All (λ (f : FieldFacts). NeedsIn w f.kind) s.fields
  pub delegates : (t : ℕ) (s : Signature) → w.delegates t ≡ true → facts.invoke_of t ≡ Some s → SignatureIn w s

-- what is known of the types of these sets is the same
pub record AgreeIn (w : TypeSets) (a b : Known) : Type 0 where
  pub structs : (t : ℕ) → w.structs t ≡ true → a.struct_of t ≡ b.struct_of t
  pub callable : (t : ℕ) → w.delegates t ≡ true → a.is_callable t ≡ b.is_callable t

-- these types alone: any other one is none
abbrev pub restricted : TypeSets → TypeFacts → TypeFacts
restricted w facts = record {
  count = facts.count;
  struct_of = λ t. if w.structs t then facts.struct_of t else None;
  invoke_of = λ t. if w.delegates t then facts.invoke_of t else None;
}

-- What is known of types is the same when only they and what they need are looked at, however often needs are followed.
abbrev pub NeedsAreEnough : Type 0
NeedsAreEnough = (facts : TypeFacts) (w : TypeSets) → AreClosed facts w → (n : ℕ) → AgreeIn w (known_after facts n) (known_after (restricted w facts) n)

-- the rule answers the same by one state of knowledge and by another, where what it is asked of is in these sets
pub record AnswerAlike (w : TypeSets) (a b : Known) : Type 0 where
  pub steps : (unicode : Bool) (k : ℕ) (p : Passed) → NeedsIn w p.kind → step_of a unicode k p ≡ step_of b unicode k p
  pub stubs : (i : Imported) → ((s : Signature) → i.signature ≡ Some s → SignatureIn w s) → stub_of a i ≡ stub_of b i
  pub backs : (invoke : Option Signature) → ((s : Signature) → invoke ≡ Some s → SignatureIn w s) → back_of a invoke ≡ back_of b invoke
  pub shapes : (k : TypeKind) → NeedsIn w k → bare_shape a k ≡ bare_shape b k

-- A stub, a callback and a shape ask only of the types that their signature or their type names.
abbrev pub OnlyNeedsAreAsked : Type 0
OnlyNeedsAreAsked = (w : TypeSets) (a b : Known) → AgreeIn w a b → AnswerAlike w a b
