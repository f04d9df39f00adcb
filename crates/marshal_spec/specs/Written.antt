-- The spelling of a descriptor that is written.
use Rattle.std.specs.Prelude.{◌≡◌, ◌+◌, ◌^◌, ◌<◌, ℕ, nat_lt, List, [], ◌∷◌, ◌++◌, Option, Some, None, if◌then◌else◌, ⊤, IfSome}
use Rattle.std.specs.Int.{w16, w32, to_be_bytes}
use Rattle.marshal_spec.specs.declared.spec.Spec.{Spec}
use Rattle.marshal_spec.specs.declared.spec.Spec.TheVariants.{Plain, ByValText, ByValArray, LpArray}
use Rattle.marshal_spec.specs.NativeTypes.{IsPlain, by_val_text, by_val_array, lp_array, no_element}

-- a compressed number in as few bytes as hold it (II.23.2)
abbrev pub shortest : ℕ → List ℕ
shortest n =
    if nat_lt n (2 ^ 7) then n ∷ []
    else if nat_lt n (2 ^ 14) then to_be_bytes w16 (0x8000 + n)
    else to_be_bytes w32 (0xC0000000 + n)

abbrev pub written_number : Option ℕ → List ℕ
written_number (Some n) = shortest n
written_number None = []

abbrev pub written_code : Option ℕ → List ℕ
written_code (Some code) = code ∷ []
written_code None = []

abbrev pub code_or_none : Option ℕ → ℕ
code_or_none (Some code) = code
code_or_none None = no_element

-- an LPArray without an element type has the code for none in its place
abbrev pub written : Spec → List ℕ
written (Plain code) = code ∷ []
written (ByValText n) = by_val_text ∷ shortest n
written (ByValArray n element) = by_val_array ∷ shortest n ++ written_code element
written (LpArray element p c f) =
    lp_array ∷ code_or_none element ∷ written_number p ++ (written_number c ++ written_number f)

-- a number that a compressed number may be
abbrev pub IsSmall : Option ℕ → Type 0
IsSmall n = IfSome n (λ n. n < 2 ^ 29)

abbrev pub IsPlainIfThere : Option ℕ → Type 0
IsPlainIfThere code = IfSome code IsPlain

-- nothing stands after what is missing
abbrev pub Follows : Option ℕ → Option ℕ → Type 0
Follows (Some before) after = ⊤
Follows None after = after ≡ None

-- a descriptor that has a spelling: its codes are those of native types without parts, its numbers
-- are below 2^29, and none stands after a missing one
abbrev pub IsSpec : Spec → Type 0
IsSpec (Plain code) = IsPlain code
IsSpec (ByValText n) = n < 2 ^ 29
IsSpec (ByValArray n element) = (n < 2 ^ 29) × IsPlainIfThere element
IsSpec (LpArray element p c f) =
    IsPlainIfThere element × IsSmall p × IsSmall c × IsSmall f × Follows p c × Follows c f
