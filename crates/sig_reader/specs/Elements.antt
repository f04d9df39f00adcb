-- The element types that begin a type (ECMA-335 II.23.1.16, II.23.2.12), and the first byte of a
-- method's signature (II.23.2.1 to II.23.2.3).
use Rattle.std.specs.Prelude.{ℕ, ◌/◌, ◌%◌, Bool, true, false, ◌&&◌, ◌||◌, ◌==◌, nat_lt, nat_le, if◌then◌else◌}
use Rattle.sig_reader.specs.declared.elements.Element.{Element}
use Rattle.sig_reader.specs.declared.elements.Element.TheVariants.{Plain, Pointer, ValueType, Class, TypeVariable, MethodVariable, Array, Generic, Function, Vector, Other}

-- BOOLEAN to STRING, I, U, and OBJECT: types without further parts
abbrev pub is_plain : ℕ → Bool
is_plain e = (nat_le 0x02 e && nat_le e 0x0E) || e == 0x18 || e == 0x19 || e == 0x1C

abbrev pub is_void : ℕ → Bool
is_void e = e == 0x01

abbrev pub is_by_ref : ℕ → Bool
is_by_ref e = e == 0x10

abbrev pub is_typed_by_ref : ℕ → Bool
is_typed_by_ref e = e == 0x16

-- CMOD_REQD and CMOD_OPT, which begin a custom modifier (II.23.2.7)
abbrev pub is_modifier : ℕ → Bool
is_modifier e = e == 0x1F || e == 0x20

abbrev pub is_sentinel : ℕ → Bool
is_sentinel e = e == 0x41

-- PINNED, the one constraint (II.23.2.9)
abbrev pub is_pinned : ℕ → Bool
is_pinned e = e == 0x45

-- what an element type begins
abbrev pub element : ℕ → Element
element e =
    if is_plain e then Plain
    else if e == 0x0F then Pointer
    else if e == 0x11 then ValueType
    else if e == 0x12 then Class
    else if e == 0x13 then TypeVariable
    else if e == 0x14 then Array
    else if e == 0x15 then Generic
    else if e == 0x1B then Function
    else if e == 0x1D then Vector
    else if e == 0x1E then MethodVariable
    else Other

-- it begins a type under which types may be nested so many levels deep: a pointer, an array and a
-- function hold a type
abbrev pub fits : ℕ → Element → Bool
fits levels Other = false
fits levels Pointer = nat_lt 0 levels
fits levels Array = nat_lt 0 levels
fits levels Function = nat_lt 0 levels
fits levels Vector = nat_lt 0 levels
fits levels Plain = true
fits levels ValueType = true
fits levels Class = true
fits levels TypeVariable = true
fits levels MethodVariable = true
fits levels Generic = true

-- The first byte of a method's signature: DEFAULT, VARARG or GENERIC, with HASTHIS and EXPLICITTHIS
-- or HASTHIS alone or neither.
abbrev pub is_convention : ℕ → Bool
is_convention c =
    (c % 0x20 == 0x00 || c % 0x20 == 0x05 || c % 0x20 == 0x10)
    && (c / 0x20 == 0 || c / 0x20 == 1 || c / 0x20 == 3)

abbrev pub has_this : ℕ → Bool
has_this c = nat_lt 0 (c / 0x20)

abbrev pub is_vararg : ℕ → Bool
is_vararg c = c % 0x20 == 0x05

abbrev pub is_generic : ℕ → Bool
is_generic c = c % 0x20 == 0x10
