-- What a token finds: a method, a field, a core member or a type (ECMA-335 II.22.25).
use Rattle.std.specs.Prelude.{ℕ, ◌+◌, ◌*◌, ◌-◌, ◌/◌, ◌%◌, Bool, true, false, ◌==◌, ◌&&◌, nat_lt, List, [], ◌∷◌, ◌++◌, map, find, bytes_eq, slice_get, unwrap_or, Option, Some, None, option_map, option_and_then, if◌then◌else◌}
use Rattle.std.specs.List.{range_with_len}
use Rattle.managed_value.specs.declared.names.TypeId.{TypeId}
use Rattle.sig_reader.specs.declared.signature.TypeSig.{TypeSig}
use Rattle.sig_reader.specs.declared.signature.Sig.{Sig}
use Rattle.sig_reader.specs.Reading.{field_sig, method_sig}
use Rattle.type_model.specs.Module.{Module, cell, text, blob}
use Rattle.type_model.specs.Rows
use Rattle.type_model.specs.TypeIds.{row_limit, is_row, is_core, named, token_table, token_row}
use Rattle.type_model.specs.Types.{run, field_sig_of}
use Rattle.type_model.specs.Members.{sig_of}
use Rattle.type_members.specs.declared.core_members.MemberKind.{MemberKind}
use Rattle.type_members.specs.declared.core_members.MemberKind.TheVariants.{Static, Instance, Virtual, StaticField, InstanceField}
use Rattle.type_members.specs.declared.core_members.CorePart.{CorePart}
use Rattle.type_members.specs.declared.core_members.CorePart.TheVariants.{Of, ArrayOf, RefTo}
use Rattle.type_members.specs.declared.member.Member.{Member}
use Rattle.type_members.specs.declared.member.Member.TheVariants.{Method, Field, Core, Named}
use Rattle.type_members.specs.CoreMembers.{CoreMember, core_member_at, core_member_count}
use Rattle.type_members.specs.Spelled.{id_words, type_words, sig_words, counted, flag}

-- the first of two that is there
abbrev pub first_of : {A : Type 0} → Option A → Option A → Option A
first_of None other = other
first_of (Some x) other = Some x

-- The spelling of a member is that of its signature after a byte that tells fields from methods (II.23.2.4).
abbrev pub method_words : Module → Sig → List ℕ
method_words m sig = 0 ∷ sig_words m sig

abbrev pub field_words : Module → TypeSig → List ℕ
field_words m sig = 0x06 ∷ type_words m sig

-- of the signature in a blob, of whichever kind
abbrev pub blob_words : Module → List ℕ → Option (List ℕ)
blob_words m bytes =
    first_of (option_map (method_words m) (method_sig bytes)) (option_map (field_words m) (field_sig bytes))

abbrev pub is_spelled : List ℕ → Option (List ℕ) → Bool
is_spelled words None = false
is_spelled words (Some own) = bytes_eq own words

-- a method or a field has a name and a spelling
abbrev pub is_method : Module → List ℕ → List ℕ → ℕ → Bool
is_method m name words n =
    bytes_eq (Rows.method_name m n) name && is_spelled words (option_map (method_words m) (sig_of m n))

abbrev pub is_field : Module → List ℕ → List ℕ → ℕ → Bool
is_field m name words f =
    bytes_eq (Rows.field_name m f) name && is_spelled words (option_map (field_words m) (field_sig_of m f))

-- the first method of a type of the file that has them, and the first field
unfoldable pub method_in : Module → ℕ → List ℕ → List ℕ → Option ℕ
method_in m t name words =
    find (is_method m name words) (run (Rows.first_method m t) (Rows.end_of_methods m t))

unfoldable pub field_in : Module → ℕ → List ℕ → List ℕ → Option ℕ
field_in m t name words =
    find (is_field m name words) (run (Rows.first_field m t) (Rows.end_of_fields m t))

abbrev pub in_file : Module → ℕ → List ℕ → List ℕ → Option Member
in_file m t name words =
    first_of (option_map Method (method_in m t name words)) (option_map Field (field_in m t name words))

-- a core type in so many brackets
abbrev pub core_array : ℕ → ℕ → TypeId
core_array place arrays = record { base = row_limit + place; arrays = arrays }

-- the spelling of a core member
abbrev pub part_words : CorePart → List ℕ
part_words (Of place) = id_words (core_array place 0)
part_words (ArrayOf place) = id_words (core_array place 1)
part_words (RefTo place) = 0x10 ∷ id_words (core_array place 0)

abbrev pub core_method_words : Bool → CoreMember → List ℕ
core_method_words has_this known =
    0 ∷ flag has_this ∷ 0 ∷ 0 ∷ part_words known.result ++ counted (map part_words known.params)

abbrev pub core_words_by : MemberKind → CoreMember → List ℕ
core_words_by Static known = core_method_words false known
core_words_by Instance known = core_method_words true known
core_words_by Virtual known = core_method_words true known
core_words_by StaticField known = 0x06 ∷ part_words known.result
core_words_by InstanceField known = 0x06 ∷ part_words known.result

abbrev pub core_words : CoreMember → List ℕ
core_words known = core_words_by known.kind known

abbrev pub is_core_member : ℕ → List ℕ → List ℕ → Option CoreMember → Bool
is_core_member owner name words None = false
is_core_member owner name words (Some known) =
    known.owner == owner && bytes_eq known.name name && bytes_eq (core_words known) words

-- the first core member of a type, by its place
unfoldable pub core_member_named : ℕ → List ℕ → List ℕ → Option ℕ
core_member_named owner name words =
    find (λ k. is_core_member owner name words (core_member_at k)) (range_with_len 0 core_member_count)

-- the core member that is a method of just this type with a name and a signature, by its place
abbrev pub core_method : Module → TypeId → List ℕ → Sig → Option ℕ
core_method m id name sig =
    if nat_lt 0 id.arrays then None
    else if is_core id.base then core_member_named (id.base - row_limit) name (method_words m sig)
    else None

-- the member of just this type that has a name and a spelling; arrays have none
unfoldable pub member_of : Module → List ℕ → List ℕ → TypeId → Option Member
member_of m name words id =
    if nat_lt 0 id.arrays then None
    else if is_core id.base then option_map Core (core_member_named (id.base - row_limit) name words)
    else in_file m id.base name words

-- the token of a coded index MemberRefParent (II.24.2.6); 0, which names nothing, for a row that no token can name
abbrev pub parent_token : ℕ → ℕ
parent_token coded =
    if nat_lt (coded / 8) row_limit
    then unwrap_or (slice_get
    (Rows.type_defs ∷ Rows.type_refs ∷ Rows.module_refs ∷ Rows.method_defs ∷ Rows.type_specs ∷ []) (coded % 8)) 0
    * row_limit + coded / 8
    else 0

-- a method is found where its signature is in the grammar
abbrev pub known_method : Module → ℕ → Option Member
known_method m n = option_map (λ sig. Method n) (sig_of m n)

-- what a row of MemberRef finds in the type that its parent names
abbrev pub member_by : Module → ℕ → ℕ → Option Member
member_by m r parent =
    option_and_then (λ words. option_and_then (member_of m (text m (cell m Rows.member_refs r 1)) words) (named m parent))
    (blob_words m (blob m (cell m Rows.member_refs r 2)))

-- What a row of MemberRef finds: the method that is its parent, whatever its name and signature, or else the member of the
-- type that its parent names.
abbrev pub found_by_parent : Module → ℕ → ℕ → Option Member
found_by_parent m r parent =
    if token_table parent == Rows.method_defs then known_method m (token_row parent) else member_by m r parent

unfoldable pub ref_found : Module → ℕ → Option Member
ref_found m r = found_by_parent m r (parent_token (cell m Rows.member_refs r 0))

-- what a token finds
unfoldable pub found : Module → ℕ → Option Member
found m token =
    if token_table token == Rows.method_defs then known_method m (token_row token)
    else if token_table token == Rows.fields && is_row m Rows.fields (token_row token)
    then Some (Field (token_row token))
    else if token_table token == Rows.member_refs && is_row m Rows.member_refs (token_row token)
    then ref_found m (token_row token)
    else option_map Named (named m token)
