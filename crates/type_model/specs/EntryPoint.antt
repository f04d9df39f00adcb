-- The part `entry point` of an image, which only a run asks (ECMA-335 II.15.4.1.2).
use Rattle.std.specs.Prelude.{ℕ, ◌+◌, Bool, true, false, not, ◌==◌, ◌&&◌, ◌||◌, List, [], ◌∷◌, Option, Some, None, is_some, Result, Ok, bit_and}
use Rattle.managed_value.specs.declared.names.TypeId.{TypeId}
use Rattle.sig_reader.specs.declared.signature.TypeSig.{TypeSig}
use Rattle.sig_reader.specs.declared.signature.Sig.{Sig, out-Sig}
use Rattle.byte_view.specs.Reading.{Broken, ◌>>=◌, must}
use Rattle.byte_view.specs.Parts as parts
use Rattle.type_model.specs.Module.{Module}
use Rattle.type_model.specs.Rows.{method_defs, method_flags}
use Rattle.type_model.specs.Core as core
use Rattle.type_model.specs.TypeIds.{core_id, array_of, same_type, is_row, token_table, token_row, type_of}
use Rattle.type_model.specs.Members.{code_at, sig_of}

-- a type that is named, and is just this one
abbrev pub is_type : Option TypeId → TypeId → Bool
is_type None id = false
is_type (Some named) id = same_type named id

-- no parameter, or the one array of strings that the program's words are passed in
abbrev pub takes_words : Module → List TypeSig → Bool
takes_words m [] = true
takes_words m (one ∷ []) = is_type (type_of m one) (array_of (core_id core.string_place))
takes_words m (one ∷ two ∷ more) = false

abbrev pub gives_status : Module → TypeSig → Bool
gives_status m result =
    is_type (type_of m result) (core_id core.void_place)
    || is_type (type_of m result) (core_id core.int32_place)

abbrev pub is_entry_sig : Module → Option Sig → Bool
is_entry_sig m None = false
is_entry_sig m (Some sig) = gives_status m (out-Sig sig).result && takes_words m (out-Sig sig).params

-- a method that a run may begin with: static, with a body, and with such a signature
unfoldable pub is_entry : Module → ℕ → Bool
is_entry m n =
    not (bit_and (method_flags m n) 0x10 == 0) && is_some (code_at m n) && is_entry_sig m (sig_of m n)

-- the row of the entry method, whose token stands at 20 of the CLI header
unfoldable pub entry : Module → Result ℕ Broken
entry m =
    must
    (token_table m.headers.entry == method_defs && is_row m method_defs (token_row m.headers.entry)
    && is_entry m (token_row m.headers.entry))
    (parts.entry_point, m.headers.cli_at + 20)
    >>= λ _. Ok (token_row m.headers.entry)
