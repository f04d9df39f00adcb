-- What a type token and a type of a signature name.
use Rattle.std.specs.Prelude.{ℕ, zero, suc, ◌+◌, ◌*◌, ◌/◌, ◌%◌, ◌^◌, Bool, ◌==◌, ◌&&◌, nat_lt, nat_le, List, [], ◌∷◌, find, position, bytes_eq, slice_get, slice_index, unwrap_or, Option, Some, None, option_map, option_and_then, if◌then◌else◌}
use Rattle.managed_value.specs.declared.names.TypeId.{TypeId}
use Rattle.sig_reader.specs.declared.signature.TypeSig.{TypeSig}
use Rattle.sig_reader.specs.declared.signature.TypeSig.TheOpen.{TypeSig-F}
use Rattle.sig_reader.specs.declared.signature.TypeSig.TheFolds.{fold-TypeSig}
use Rattle.type_model.specs.declared.type_ids.Leaf.{Leaf}
use Rattle.type_model.specs.declared.type_ids.Leaf.TheVariants.{Core, Token}
use Rattle.sig_reader.specs.Reading.{type_spec_sig}
use Rattle.type_model.specs.Module.{Module, rows, row, row_count, text, blob}
use Rattle.type_model.specs.Rows.{type_refs, type_defs, type_specs, ref_scope, ref_name, ref_namespace}
use Rattle.type_model.specs.Core as core

-- the rows that a token may name (II.22)
abbrev pub row_limit : ℕ
row_limit = 0x01000000

abbrev pub is_row : Module → ℕ → ℕ → Bool
is_row m table n = nat_le 1 n && nat_le n (row_count m table) && nat_lt n row_limit

-- a core type, by its place; a type of the file, by its row of TypeDef; an array of a type
abbrev pub core_id : ℕ → TypeId
core_id place = record { base = row_limit + place; arrays = 0 }

abbrev pub def_id : ℕ → TypeId
def_id t = record { base = t; arrays = 0 }

abbrev pub array_of : TypeId → TypeId
array_of id = record { base = id.base; arrays = id.arrays + 1 }

abbrev pub same_type : TypeId → TypeId → Bool
same_type a b = a.base == b.base && a.arrays == b.arrays

abbrev pub is_core : ℕ → Bool
is_core base = nat_le row_limit base

-- the element types that are core types by themselves (II.23.1.16)
abbrev pub element_types : List (ℕ × ℕ)
element_types =
    (0x01, core.void_place) ∷ (0x02, core.boolean_place) ∷ (0x03, core.char_place)
    ∷ (0x04, 7) ∷ (0x05, 8) ∷ (0x06, 9) ∷ (0x07, 10) ∷ (0x08, core.int32_place) ∷ (0x09, 12)
    ∷ (0x0A, 13) ∷ (0x0B, 14) ∷ (0x0E, core.string_place) ∷ (0x18, core.int_ptr_place)
    ∷ (0x19, core.uint_ptr_place) ∷ (0x1C, core.object_place) ∷ []

unfoldable pub element_type : ℕ → Option TypeId
element_type code =
    option_map (λ known. core_id known.1) (find (λ known. known.0 == code) element_types)

-- What stands within the brackets of a type of a signature, and how many these are: a core type, or
-- a token. A pointer counts as a UIntPtr, whatever it points to. By-reference types, pinned ones,
-- arrays of a shape, generic types and their parameters, function pointers, typed references and
-- floats have none, and so has what stands in more brackets than 32 bits count.
abbrev pub deeper : ℕ × Leaf → Option (ℕ × Leaf)
deeper found = if nat_lt (found.0 + 1) (2 ^ 32) then Some (found.0 + 1, found.1) else None

abbrev pub leaf_step :
    TypeSig-F (Option (ℕ × Leaf)) (Option (ℕ × Leaf)) → Option (ℕ × Leaf)
leaf_step (TypeSig-F.Prim code) = option_map (λ id. (0, Core id)) (element_type code)
leaf_step (TypeSig-F.Named is_value token) = Some (0, Token token)
leaf_step (TypeSig-F.Ptr to) = Some (0, Core (core_id core.uint_ptr_place))
leaf_step (TypeSig-F.Vector element) = option_and_then deeper element
leaf_step _ = None

unfoldable pub leaf : TypeSig → Option (ℕ × Leaf)
leaf =
    fold-TypeSig (Option (ℕ × Leaf)) (Option (ℕ × Leaf)) leaf_step (λ sig. None)

-- a type in brackets
unfoldable pub in_brackets : ℕ → TypeId → Option TypeId
in_brackets n id =
    if nat_lt (id.arrays + n) (2 ^ 32)
    then Some (record { base = id.base; arrays = id.arrays + n })
    else None

abbrev pub leaf_type : (ℕ → Option TypeId) → Leaf → Option TypeId
leaf_type named (Core id) = Some id
leaf_type named (Token token) = named token

abbrev pub bracketed : (ℕ → Option TypeId) → ℕ × Leaf → Option TypeId
bracketed named found = option_and_then (in_brackets found.0) (leaf_type named found.1)

-- the type that a type of a signature names, by what its token names
abbrev pub type_by : (ℕ → Option TypeId) → TypeSig → Option TypeId
type_by named sig = option_and_then (bracketed named) (leaf sig)

-- a token is a table's number above a row's
abbrev pub token_table : ℕ → ℕ
token_table token = token / row_limit

abbrev pub token_row : ℕ → ℕ
token_row token = token % row_limit

-- a row of TypeDef has a namespace and a name
abbrev pub has_name : Module → List ℕ → List ℕ → List ℕ → Bool
has_name m namespace name numbers =
    bytes_eq (text m (slice_index numbers 1)) name
    && bytes_eq (text m (slice_index numbers 2)) namespace

-- the first type of the file that has them, nested ones included
unfoldable pub type_def_named : Module → List ℕ → List ℕ → Option ℕ
type_def_named m namespace name =
    option_map (λ k. k + 1) (position (has_name m namespace name) (rows m type_defs))

-- the scope of a TypeRef is the module itself: a row of Module, whose tag is 0 (II.24.2.6)
abbrev pub is_of_module : Module → ℕ → Bool
is_of_module m r = ref_scope m r % 4 == 0 && nat_lt 0 (ref_scope m r)

-- a TypeRef of the module names a type of the file; any other a core type, whatever assembly or type
-- it is said to stand in
unfoldable pub type_ref : Module → ℕ → Option TypeId
type_ref m r =
    if is_of_module m r
    then option_map def_id (type_def_named m (ref_namespace m r) (ref_name m r))
    else option_map core_id (core.core_named (ref_namespace m r) (ref_name m r))

-- what a token of TypeDef or TypeRef names
unfoldable pub named_plainly : Module → ℕ → Option TypeId
named_plainly m token =
    if token_table token == type_defs && is_row m type_defs (token_row token)
    then Some (def_id (token_row token))
    else if token_table token == type_refs && is_row m type_refs (token_row token)
    then type_ref m (token_row token)
    else None

abbrev pub is_type_spec : Module → ℕ → Bool
is_type_spec m token = token_table token == type_specs && is_row m type_specs (token_row token)

-- the type in the blob of a row of TypeSpec (II.22.39), None where it is no type
abbrev pub spec_sig_in : Module → List ℕ → Option TypeSig
spec_sig_in m numbers = type_spec_sig (blob m (slice_index numbers 0))

unfoldable pub spec_sig : Module → ℕ → Option TypeSig
spec_sig m s = option_and_then (spec_sig_in m) (row m type_specs s)

abbrev pub spec_leaf : Module → ℕ → Option (ℕ × Leaf)
spec_leaf m s = option_and_then leaf (spec_sig m s)

-- What a token names, through at most so many rows of TypeSpec: the types in their blobs may name
-- further ones.
unfoldable pub named_within : ℕ → Module → ℕ → Option TypeId
named_within zero m token = named_plainly m token
named_within (suc n) m token =
    if is_type_spec m token
    then option_and_then (bracketed (named_within n m)) (spec_leaf m (token_row token))
    else named_plainly m token

-- What a type token names. A row of TypeSpec that leads to itself names nothing: no way through as
-- many rows as there are comes to a type.
unfoldable pub named : Module → ℕ → Option TypeId
named m token = named_within (row_count m type_specs) m token

-- the type that a type of a signature names
unfoldable pub type_of : Module → TypeSig → Option TypeId
type_of m sig = type_by (named m) sig

-- the token of a coded index TypeDefOrRef (II.24.2.6); 0, which names nothing, for 0 and for a row
-- that no token can name
abbrev pub coded_token : ℕ → ℕ
coded_token coded =
    if nat_lt (coded / 4) row_limit
    then unwrap_or (slice_get (type_defs ∷ type_refs ∷ type_specs ∷ []) (coded % 4)) 0 * row_limit
    + coded / 4
    else 0
