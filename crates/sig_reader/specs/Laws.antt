-- What holds of reading, in the words of the grammar.
use Rattle.std.specs.Prelude.{◌≡◌, ℕ, suc, ◌<◌, ◌≤◌, List, length, take, Result, Ok, Err, Some, ◌↔◌}
use Rattle.byte_view.specs.Numbers.{compressed_at}
use Rattle.sig_reader.specs.Numbers.{IsCompressed}
use Rattle.sig_reader.specs.Grammar.{Begins, IsField, IsMethodSig, AreLocals, IsTypeSpec}
use Rattle.sig_reader.specs.Reading.{field_read, method_read, locals_read, type_spec_read}

-- The refused place of a blob that spells nothing: the length of the longest front of the blob with
-- which some spelling begins.
pub record RefusedAt {A : Type 0} (R : List ℕ → A → Type 0) (bytes : List ℕ) (at : ℕ) : Type 0 where
  pub outside : (x : A) → R bytes x → ⊥
  pub within : at ≤ length bytes
  pub begins : Begins R (take at bytes)
  pub longest : (n : ℕ) → n ≤ length bytes → Begins R (take n bytes) → n ≤ at

-- reading is what the grammar says
pub record IsReadAs {A : Type 0} (read : List ℕ → Result A ℕ) (R : List ℕ → A → Type 0) : Type 0 where
  -- a value is read just where the blob spells it
  pub value : (bytes : List ℕ) (x : A) → (read bytes ≡ Ok x) ↔ R bytes x
  -- a blob has at most one value
  pub one : (bytes : List ℕ) (x y : A) → R bytes x → R bytes y → x ≡ y
  -- a place is refused just where it is the refused place
  pub refused : (bytes : List ℕ) (at : ℕ) → (read bytes ≡ Err at) ↔ RefusedAt R bytes at
  -- two blobs alike up to and with the refused place are refused there alike
  pub alike : (a b : List ℕ) (at : ℕ) → read a ≡ Err at → at < length a → take (suc at) a ≡ take (suc at) b → read b ≡ Err at

abbrev pub FieldsAreReadAsSpelled : Type 0
FieldsAreReadAsSpelled = IsReadAs field_read IsField

abbrev pub MethodsAreReadAsSpelled : Type 0
MethodsAreReadAsSpelled = IsReadAs method_read IsMethodSig

abbrev pub LocalsAreReadAsSpelled : Type 0
LocalsAreReadAsSpelled = IsReadAs locals_read AreLocals

abbrev pub TypeSpecsAreReadAsSpelled : Type 0
TypeSpecsAreReadAsSpelled = IsReadAs type_spec_read IsTypeSpec

-- bytes that are one compressed number are those that are read so wherever they stand in metadata
abbrev pub CompressedNumbersAreThoseOfBlobs : Type 0
CompressedNumbersAreThoseOfBlobs = (bytes : List ℕ) (x : ℕ × ℕ) → IsCompressed bytes x ↔ ((compressed_at bytes 0 ≡ Some x) × (length bytes ≡ x.1))
