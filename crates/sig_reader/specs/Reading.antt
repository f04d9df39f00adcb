-- Reading of signatures (ECMA-335 II.23.2): a value and the bytes after it, or how many bytes are left
-- at the first place from which no continuation is in the grammar. `proofs/` shows that it is the
-- grammar's.
use Rattle.std.specs.Prelude.{ℕ, zero, suc, ◌+◌, ◌-◌, ◌*◌, Bool, true, false, ◌&&◌, ◌==◌, nat_lt, nat_le, List, [], ◌∷◌, length, Result, Ok, Err, Option, Some, None, if◌then◌else◌, ℤ}
use Rattle.byte_view.specs.Reading.{◌>>=◌}
use Rattle.sig_reader.specs.declared.elements.Element.{Element}
use Rattle.sig_reader.specs.declared.elements.Element.TheVariants as element_kinds
use Rattle.sig_reader.specs.declared.numbers.Numbers.{Numbers}
use Rattle.sig_reader.specs.declared.numbers.Numbers.TheVariants.{Between, Coded}
use Rattle.sig_reader.specs.declared.signature.TypeSig
use Rattle.sig_reader.specs.declared.signature.TypeSig.{TypeSig}
use Rattle.sig_reader.specs.declared.signature.Sig.{Sig}
use Rattle.sig_reader.specs.Elements.{element, fits, is_void, is_by_ref, is_typed_by_ref, is_modifier, is_sentinel, is_pinned, is_convention, has_this, is_vararg, is_generic}
use Rattle.sig_reader.specs.Numbers.{allows, any_number, token_of, signed_of}
use Rattle.sig_reader.specs.Grammar.{argument_counts, is_named, pinned_type}

abbrev pub Read : Type 0 → Type 0
Read A = Result (A × List ℕ) ℕ

-- the next byte
abbrev pub byte_in : List ℕ → Read ℕ
byte_in [] = Err 0
byte_in (c ∷ rest) = Ok (c, rest)

-- the next byte, which passes a test
abbrev pub byte_where : (ℕ → Bool) → List ℕ → Read ℕ
byte_where passes bytes = byte_in bytes >>= λ r.
    if passes r.0 then Ok (r.0, r.1) else Err (suc (length r.1))

-- whether a byte that passes a test comes next
abbrev pub comes : (ℕ → Bool) → List ℕ → Bool
comes passes [] = false
comes passes (c ∷ rest) = passes c

-- the bytes after the first
abbrev pub after_first : List ℕ → List ℕ
after_first [] = []
after_first (c ∷ rest) = rest

-- after a first byte that passes a test, one thing; else the other
abbrev pub chosen : {A : Type 0} → (ℕ → Bool) → (List ℕ → Read A) → (List ℕ → Read A) → List ℕ → Read A
chosen passes p q bytes = if comes passes bytes then p (after_first bytes) else q bytes

-- so many, one after another
abbrev pub many : {A : Type 0} → (List ℕ → Read A) → ℕ → List ℕ → Read (List A)
many p zero bytes = Ok ([], bytes)
many p (suc n) bytes = p bytes >>= λ r. many p n r.1 >>= λ s. Ok (r.0 ∷ s.0, s.1)

-- of numbers that have bytes to come, those from n on: whether one may be taken
abbrev pub may_take : Numbers → ℕ → Bool
may_take (Between least most) n = nat_le n most
may_take Coded n = true

-- whether a number that the place takes begins with a byte
abbrev pub opens : Numbers → ℕ → Bool
opens numbers a =
    if nat_lt a 0x80 then allows numbers a
    else if nat_lt a 0xC0 then may_take numbers ((a - 0x80) * 256)
    else if nat_lt a 0xE0 then may_take numbers ((a - 0xC0) * 0x1000000)
    else false

-- the number that goes on after its first byte of two
unfoldable pub two_bytes_in : Numbers → ℕ → List ℕ → Read (ℕ × ℕ)
two_bytes_in numbers a bytes =
    byte_where (λ b. allows numbers ((a - 0x80) * 256 + b)) bytes >>= λ b.
    Ok (((a - 0x80) * 256 + b.0, 2), b.1)

-- the number that goes on after its first byte of four
unfoldable pub four_bytes_in : Numbers → ℕ → List ℕ → Read (ℕ × ℕ)
four_bytes_in numbers a bytes =
    byte_where (λ b. may_take numbers (((a - 0xC0) * 256 + b) * 0x10000)) bytes >>= λ b.
    byte_where (λ c. may_take numbers ((((a - 0xC0) * 256 + b.0) * 256 + c) * 256)) b.1 >>= λ c.
    byte_where (λ d. allows numbers ((((a - 0xC0) * 256 + b.0) * 256 + c.0) * 256 + d)) c.1 >>= λ d.
    Ok (((((a - 0xC0) * 256 + b.0) * 256 + c.0) * 256 + d.0, 4), d.1)

-- the number that goes on after its first byte
abbrev pub number_after : Numbers → ℕ → List ℕ → Read (ℕ × ℕ)
number_after numbers a bytes =
    if nat_lt a 0x80 then Ok ((a, 1), bytes)
    else if nat_lt a 0xC0 then two_bytes_in numbers a bytes
    else four_bytes_in numbers a bytes

unfoldable pub number_in : Numbers → List ℕ → Read (ℕ × ℕ)
number_in numbers bytes = byte_where (opens numbers) bytes >>= λ a. number_after numbers a.0 a.1

unfoldable pub unsigned_in : Numbers → List ℕ → Read ℕ
unsigned_in numbers bytes = number_in numbers bytes >>= λ x. Ok (x.0.0, x.1)

unfoldable pub signed_in : List ℕ → Read ℤ
signed_in bytes = number_in any_number bytes >>= λ x. Ok (signed_of x.0, x.1)

unfoldable pub token_in : List ℕ → Read ℕ
token_in bytes = number_in Coded bytes >>= λ x. Ok (token_of x.0.0, x.1)

-- One custom modifier, or PINNED where it may stand: whether PINNED was among what came so far, and the
-- bytes after it; nothing where neither comes.
unfoldable pub prefix_in : Bool → Bool → List ℕ → Result (Option (Bool × List ℕ)) ℕ
prefix_in constrained pinned bytes =
    if comes is_modifier bytes
    then (token_in (after_first bytes) >>= λ token. Ok (Some (pinned, token.1)))
    else if comes (λ e. constrained && is_pinned e) bytes then Ok (Some (true, after_first bytes))
    else Ok None

-- what comes after one, or the end of them
abbrev pub go_on : (Bool → List ℕ → Read Bool) → Bool → List ℕ → Option (Bool × List ℕ) → Read Bool
go_on again pinned bytes None = Ok (pinned, bytes)
go_on again pinned bytes (Some next) = again next.0 next.1

-- At most n of them: whether PINNED was among them.
unfoldable pub prefixes_in : Bool → ℕ → Bool → List ℕ → Read Bool
prefixes_in constrained zero pinned bytes = Ok (pinned, bytes)
prefixes_in constrained (suc n) pinned bytes =
    prefix_in constrained pinned bytes >>= go_on (prefixes_in constrained n) pinned bytes

-- any number of them: no more than there are bytes
abbrev pub all_prefixes_in : Bool → List ℕ → Read Bool
all_prefixes_in constrained bytes = prefixes_in constrained (length bytes) false bytes

-- custom modifiers and a part
abbrev pub modified_in : {A : Type 0} → (List ℕ → Read A) → List ℕ → Read A
modified_in p bytes = all_prefixes_in false bytes >>= λ r. p r.1

abbrev pub void_or : (List ℕ → Read TypeSig) → List ℕ → Read TypeSig
void_or t = chosen is_void (λ bytes. Ok (TypeSig.Prim 0x01, bytes)) t

abbrev pub typed_by_ref_or : (List ℕ → Read TypeSig) → List ℕ → Read TypeSig
typed_by_ref_or t = chosen is_typed_by_ref (λ bytes. Ok (TypeSig.Prim 0x16, bytes)) t

abbrev pub by_ref_or : (List ℕ → Read TypeSig) → List ℕ → Read TypeSig
by_ref_or t = chosen is_by_ref (λ bytes. t bytes >>= λ r. Ok (TypeSig.ByRef r.0, r.1)) t

unfoldable pub pointed_in : (List ℕ → Read TypeSig) → List ℕ → Read TypeSig
pointed_in t bytes = modified_in (void_or t) bytes

unfoldable pub param_in : (List ℕ → Read TypeSig) → List ℕ → Read TypeSig
param_in t bytes = modified_in (typed_by_ref_or (by_ref_or t)) bytes

unfoldable pub result_in : (List ℕ → Read TypeSig) → List ℕ → Read TypeSig
result_in t bytes = modified_in (void_or (typed_by_ref_or (by_ref_or t))) bytes

-- where SENTINEL may still stand and stands: that it may no more, and the bytes after it
abbrev pub after_sentinel : Bool → List ℕ → Bool × List ℕ
after_sentinel sentinel bytes =
    if comes (λ e. sentinel && is_sentinel e) bytes then (false, after_first bytes) else (sentinel, bytes)

-- the parameters; where SENTINEL may still stand, it may stand before the next one
unfoldable pub params_in : (List ℕ → Read TypeSig) → Bool → ℕ → List ℕ → Read (List TypeSig)
params_in t sentinel zero bytes = Ok ([], bytes)
params_in t sentinel (suc n) bytes =
    if comes (λ e. sentinel && is_sentinel e) bytes
    then (param_in t (after_first bytes) >>= λ r. params_in t false n r.1 >>= λ s. Ok (r.0 ∷ s.0, s.1))
    else (param_in t bytes >>= λ r. params_in t sentinel n r.1 >>= λ s. Ok (r.0 ∷ s.0, s.1))

abbrev pub generic_count_in : Bool → List ℕ → Read ℕ
generic_count_in true bytes = unsigned_in any_number bytes
generic_count_in false bytes = Ok (0, bytes)

unfoldable pub method_in : (List ℕ → Read TypeSig) → List ℕ → Read Sig
method_in t bytes =
    byte_where is_convention bytes >>= λ c.
    generic_count_in (is_generic c.0) c.1 >>= λ generic.
    unsigned_in any_number generic.1 >>= λ count.
    result_in t count.1 >>= λ result.
    params_in t (is_vararg c.0) count.0 result.1 >>= λ params.
    Ok (
      record {
        has_this = has_this c.0;
        vararg = is_vararg c.0;
        generic = generic.0;
        result = result.0;
        params = params.0;
      },
      params.1,
    )

unfoldable pub shape_in : TypeSig → List ℕ → Read TypeSig
shape_in t bytes =
    unsigned_in (Between 1 0x1FFFFFFF) bytes >>= λ rank.
    unsigned_in (Between 0 rank.0) rank.1 >>= λ size_count.
    many (unsigned_in any_number) size_count.0 size_count.1 >>= λ sizes.
    unsigned_in (Between 0 rank.0) sizes.1 >>= λ low_count.
    many signed_in low_count.0 low_count.1 >>= λ lows.
    Ok (TypeSig.Array t rank.0 sizes.0 lows.0, lows.1)

unfoldable pub instance_in : ℕ → (List ℕ → Read TypeSig) → List ℕ → Read TypeSig
instance_in levels t bytes =
    byte_where is_named bytes >>= λ e.
    token_in e.1 >>= λ token.
    unsigned_in (argument_counts levels) token.1 >>= λ count.
    many t count.0 count.1 >>= λ arguments.
    Ok (TypeSig.Inst (TypeSig.Named (e.0 == 0x11) token.0) arguments.0, arguments.1)

-- what follows an element type, over types that may be nested so many levels deep
abbrev pub rest_in : ℕ → (List ℕ → Read TypeSig) → ℕ → Element → List ℕ → Read TypeSig
rest_in levels t e element_kinds.Plain bytes = Ok (TypeSig.Prim e, bytes)
rest_in levels t e element_kinds.Pointer bytes =
    pointed_in t bytes >>= λ r. Ok (TypeSig.Ptr r.0, r.1)
rest_in levels t e element_kinds.ValueType bytes =
    token_in bytes >>= λ token. Ok (TypeSig.Named true token.0, token.1)
rest_in levels t e element_kinds.Class bytes =
    token_in bytes >>= λ token. Ok (TypeSig.Named false token.0, token.1)
rest_in levels t e element_kinds.TypeVariable bytes =
    unsigned_in any_number bytes >>= λ n. Ok (TypeSig.Var n.0, n.1)
rest_in levels t e element_kinds.MethodVariable bytes =
    unsigned_in any_number bytes >>= λ n. Ok (TypeSig.MVar n.0, n.1)
rest_in levels t e element_kinds.Array bytes = t bytes >>= λ r. shape_in r.0 r.1
rest_in levels t e element_kinds.Generic bytes = instance_in levels t bytes
rest_in levels t e element_kinds.Function bytes =
    method_in t bytes >>= λ r. Ok (TypeSig.FnPtr r.0, r.1)
rest_in levels t e element_kinds.Vector bytes =
    modified_in t bytes >>= λ r. Ok (TypeSig.Vector r.0, r.1)
rest_in levels t e element_kinds.Other bytes = Err (length bytes)

-- a type, nested so many levels deep at most
unfoldable pub type_in : ℕ → List ℕ → Read TypeSig
type_in zero bytes = Err (length bytes)
type_in (suc levels) bytes =
    byte_where (λ e. fits levels (element e)) bytes >>= λ e.
    rest_in levels (type_in levels) e.0 (element e.0) e.1

unfoldable pub field_in : List ℕ → Read TypeSig
field_in bytes = byte_where (λ c. c == 0x06) bytes >>= λ c. modified_in (type_in 64) c.1

unfoldable pub local_type_in : List ℕ → Read TypeSig
local_type_in bytes =
    all_prefixes_in true bytes >>= λ pinned.
    by_ref_or (type_in 64) pinned.1 >>= λ t.
    Ok (pinned_type pinned.0 t.0, t.1)

unfoldable pub local_in : List ℕ → Read TypeSig
local_in bytes = typed_by_ref_or local_type_in bytes

unfoldable pub locals_in : List ℕ → Read (List TypeSig)
locals_in bytes =
    byte_where (λ c. c == 0x07) bytes >>= λ c.
    unsigned_in (Between 1 0xFFFE) c.1 >>= λ count.
    many local_in count.0 count.1

-- a whole blob: a value, or the first place from which no continuation is in the grammar
abbrev pub only : {A : Type 0} → ℕ → Read A → Result A ℕ
only size (Ok r) = if length r.1 == 0 then Ok r.0 else Err (size - length r.1)
only size (Err left) = Err (size - left)

abbrev pub whole : {A : Type 0} → (List ℕ → Read A) → List ℕ → Result A ℕ
whole p bytes = only (length bytes) (p bytes)

-- A blob as the signature of a field, of a method, of locals, or as the type of a TypeSpec: its value,
-- or the refused place. Types are nested at most 64 deep.
unfoldable pub field_read : List ℕ → Result TypeSig ℕ
field_read bytes = whole field_in bytes

unfoldable pub method_read : List ℕ → Result Sig ℕ
method_read bytes = whole (method_in (type_in 64)) bytes

unfoldable pub locals_read : List ℕ → Result (List TypeSig) ℕ
locals_read bytes = whole locals_in bytes

unfoldable pub type_spec_read : List ℕ → Result TypeSig ℕ
type_spec_read bytes = whole (type_in 64) bytes

abbrev pub value_of : {A : Type 0} → Result A ℕ → Option A
value_of (Ok x) = Some x
value_of (Err at) = None

-- the value alone, where the blob has one
abbrev pub field_sig : List ℕ → Option TypeSig
field_sig bytes = value_of (field_read bytes)

abbrev pub method_sig : List ℕ → Option Sig
method_sig bytes = value_of (method_read bytes)

abbrev pub locals_sig : List ℕ → Option (List TypeSig)
locals_sig bytes = value_of (locals_read bytes)

abbrev pub type_spec_sig : List ℕ → Option TypeSig
type_spec_sig bytes = value_of (type_spec_read bytes)
