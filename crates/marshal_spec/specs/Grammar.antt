-- The grammar of marshalling descriptors: which bytes spell which descriptor (ECMA-335 II.23.4; the
-- flag of an LPArray is what the runtimes have beside it). A descriptor may have several spellings;
-- bytes spell one descriptor at most.
use Rattle.std.specs.Prelude.{◌≡◌, ◌≤◌, ℕ, List, [], ◌∷◌, ◌++◌, length, take, Option, Some, None}
use Rattle.byte_view.specs.Numbers.{compressed_at}
use Rattle.marshal_spec.specs.declared.spec.Spec.{Spec}
use Rattle.marshal_spec.specs.declared.spec.Spec.TheVariants.{Plain, ByValText, ByValArray, LpArray}
use Rattle.marshal_spec.specs.NativeTypes.{IsPlain, by_val_text, by_val_array, lp_array, no_element}

-- one compressed number (II.23.2), and no byte more
abbrev pub IsNumber : List ℕ → ℕ → Type 0
IsNumber bytes n = compressed_at bytes 0 ≡ Some (n, length bytes)

-- the native type of an LPArray's elements
pub data IsElement : ℕ → Option ℕ → Type 0 where
  given : {code : ℕ} → IsPlain code → IsElement code (Some code)
  missing : IsElement no_element None

-- an LPArray's parameter number, count and flag, each only after the one before
pub data AreNumbers : List ℕ → Option ℕ → Option ℕ → Option ℕ → Type 0 where
  none : AreNumbers [] None None None
  parameter : {one : List ℕ} {p : ℕ} → IsNumber one p → AreNumbers one (Some p) None None
  counted : (one two : List ℕ) {p c : ℕ} →
      IsNumber one p → IsNumber two c → AreNumbers (one ++ two) (Some p) (Some c) None
  flagged : (one two three : List ℕ) {p c f : ℕ} →
      IsNumber one p → IsNumber two c → IsNumber three f →
      AreNumbers (one ++ (two ++ three)) (Some p) (Some c) (Some f)

pub data Spells : List ℕ → Spec → Type 0 where
  plain : {code : ℕ} → IsPlain code → Spells (code ∷ []) (Plain code)
  text : {count : List ℕ} {n : ℕ} → IsNumber count n → Spells (by_val_text ∷ count) (ByValText n)
  array : {count : List ℕ} {n : ℕ} → IsNumber count n → Spells (by_val_array ∷ count) (ByValArray n None)
  array_of : (count : List ℕ) {n code : ℕ} →
      IsNumber count n → IsPlain code → Spells (by_val_array ∷ count ++ code ∷ []) (ByValArray n (Some code))
  pointed : Spells (lp_array ∷ []) (LpArray None None None None)
  pointed_of : {code : ℕ} {rest : List ℕ} {element p c f : Option ℕ} →
      IsElement code element → AreNumbers rest p c f → Spells (lp_array ∷ code ∷ rest) (LpArray element p c f)

-- some descriptor's spelling begins with these bytes
pub record Begins (front : List ℕ) : Type 0 where
  pub spec : Spec
  pub rest : List ℕ
  pub spells : Spells (front ++ rest) spec

-- Bytes that spell nothing are refused at a place, the length of the longest front of them with which
-- some spelling begins: the byte there fits nowhere, or is missing.
pub record IsRefusedAt (bytes : List ℕ) (place : ℕ) : Type 0 where
  pub nothing : (spec : Spec) → Spells bytes spec → ⊥
  pub within : place ≤ length bytes
  pub begins : Begins (take place bytes)
  pub longest : (k : ℕ) → k ≤ length bytes → Begins (take k bytes) → k ≤ place
