-- How a type's descriptor and charset decide its form in native memory (ECMA-335 II.23.4). A charset is whether it is Unicode;
-- any other one is Ansi.
use Rattle.std.specs.Prelude.{ℕ, Bool, true, false, ◌==◌, nat_le, if◌then◌else◌, List, [], ◌∷◌, Option, Some, None, find}
use Rattle.std.specs.Option.{option_map}
use Rattle.native_layout.specs.declared.shapes.Enc.{Enc}
use Rattle.native_layout.specs.declared.shapes.Enc.TheVariants.{Utf8, Utf16}
use Rattle.marshal_spec.specs.declared.spec.Spec.TheVariants.{Plain, ByValText}
use Rattle.stub_maker.specs.declared.kinds.Width.{Width}
use Rattle.stub_maker.specs.declared.kinds.Width.TheVariants.{One, Two, Four, Eight}
use Rattle.stub_maker.specs.declared.kinds.Kind.{Kind}
use Rattle.stub_maker.specs.declared.kinds.Kind.TheVariants as kind
use Rattle.stub_maker.specs.declared.kinds.Form.{Form}
use Rattle.stub_maker.specs.declared.kinds.Form.TheVariants as form
use Rattle.stub_maker.specs.declared.kinds.Descriptor.{Descriptor}
use Rattle.stub_maker.specs.declared.kinds.Descriptor.TheVariants.{Nothing, Is}
use Rattle.stub_maker.specs.declared.table.Row.{Row}
use Rattle.stub_maker.specs.declared.table.Row.TheVariants as row

abbrev pub bytes : Width → ℕ
bytes One = 1
bytes Two = 2
bytes Four = 4
bytes Eight = 8

-- a value by a native type's code, None where the list doesn't have it
abbrev pub by_code : {A : Type 0} → List (ℕ × A) → ℕ → Option A
by_code values code = option_map (λ v. v.1) (find (λ v. v.0 == code) values)

-- the native types that are integers, I1, U1, I2, U2, I4, U4, I8, U8, SysInt, SysUInt: the width of each, and whether
-- it is signed
abbrev pub native_integers : List (ℕ × (Width × Bool))
native_integers =
    (0x03, (One, true)) ∷ (0x04, (One, false)) ∷ (0x05, (Two, true)) ∷ (0x06, (Two, false)) ∷ (0x07, (Four, true)) ∷ (0x08, (Four, false))
    ∷ (0x09, (Eight, true)) ∷ (0x0A, (Eight, false)) ∷ (0x1F, (Eight, true)) ∷ (0x20, (Eight, false)) ∷ []

abbrev pub sign_of_width : Width → Option (Width × Bool) → Option Bool
sign_of_width width None = None
sign_of_width width (Some native) = if bytes native.0 == bytes width then Some native.1 else None

-- the sign of an integer of this width under a descriptor: its own, or that of a native integer of its width
abbrev pub sign_by : Width → Bool → Descriptor → Option Bool
sign_by width signed Nothing = Some signed
sign_by width signed (Is (Plain code)) = sign_of_width width (by_code native_integers code)
sign_by width signed _ = None

-- the width of a bool: 4, also as Bool, or 1 as I1 or U1
abbrev pub bool_width_by : Descriptor → Option Width
bool_width_by Nothing = Some Four
bool_width_by (Is (Plain code)) = by_code ((0x02, Four) ∷ (0x03, One) ∷ (0x04, One) ∷ []) code
bool_width_by _ = None

-- the width of a character: by the charset, or 1 as I1 or U1, or 2 as I2 or U2
abbrev pub char_width_by : Bool → Descriptor → Option Width
char_width_by unicode Nothing = Some (if unicode then Two else One)
char_width_by unicode (Is (Plain code)) = by_code ((0x03, One) ∷ (0x04, One) ∷ (0x05, Two) ∷ (0x06, Two) ∷ []) code
char_width_by unicode _ = None

abbrev pub encoding_of : Bool → Enc
encoding_of unicode = if unicode then Utf16 else Utf8

-- how a text behind a pointer is written: by the charset, or as LPStr, LPWStr or LPUTF8Str says
abbrev pub encoding_by : Bool → Descriptor → Option Enc
encoding_by unicode Nothing = Some (encoding_of unicode)
encoding_by unicode (Is (Plain code)) = by_code ((0x14, Utf8) ∷ (0x15, Utf16) ∷ (0x30, Utf8) ∷ []) code
encoding_by unicode _ = None

-- no descriptor, or the one with this code
abbrev pub is_plain : ℕ → Descriptor → Bool
is_plain code Nothing = true
is_plain code (Is (Plain c)) = c == code
is_plain code _ = false

abbrev pub when : {A : Type 0} → Bool → Option A → Option A
when holds value = if holds then value else None

-- the form of a type that is no array by a row, None where the row speaks of another type or doesn't take the descriptor; a
-- handle is passed by its value, which is a nint
abbrev pub form_by : Bool → Row → Kind → Descriptor → Option Form
form_by unicode row.Integers (kind.Integer width signed) d = option_map (form.Int width) (sign_by width signed d)
form_by unicode row.Integers (kind.NativeInteger signed) d = option_map form.Native (sign_by Eight signed d)
form_by unicode row.Booleans kind.Boolean d = option_map form.Bool (bool_width_by d)
form_by unicode row.Characters kind.Character d = option_map form.Char (char_width_by unicode d)
form_by unicode row.Pointers kind.Pointer Nothing = Some (form.Native true)
form_by unicode row.Texts kind.Text d = option_map form.Text (encoding_by unicode d)
form_by unicode row.InlineTexts kind.Text (Is (ByValText count)) =
    when (nat_le 1 count) (Some (form.InlineText (encoding_of unicode) count))
form_by unicode row.Structs (kind.Struct ty) d = when (is_plain 0x1B d) (Some (form.Struct ty))
form_by unicode row.Delegates (kind.Delegate ty) d = when (is_plain 0x26 d) (Some (form.Thunk ty))
form_by unicode row.Handles kind.Handle Nothing = Some (form.Native true)
form_by unicode _ _ _ = None
