-- Which method answers a call, by the type of the object that it is called on (ECMA-335 II.10.3, II.12.2, II.22.27). A method is a
-- row of MethodDef or a core member. Whether it is final, and who may see it, isn't looked at.
use Rattle.std.specs.Prelude.{ℕ, ◌+◌, ◌*◌, ◌-◌, ◌/◌, ◌%◌, Bool, true, false, ◌==◌, ◌&&◌, nat_lt, List, [], ◌∷◌, map, filter, fold, find, reverse, bytes_eq, slice_index, bit_and, Option, Some, None, option_map, option_and_then, is_some, if◌then◌else◌}
use Rattle.std.specs.List.{range_with_len, flat_map, list_any}
use Rattle.managed_value.specs.declared.names.TypeId.{TypeId}
use Rattle.type_model.specs.Module.{Module, rows}
use Rattle.type_model.specs.Rows
use Rattle.type_model.specs.TypeIds.{row_limit, is_core, core_id, def_id, same_type}
use Rattle.type_model.specs.Types.{bases, run}
use Rattle.type_model.specs.Members.{TypeRow, sig_of, type_row, code_at}
use Rattle.type_members.specs.declared.core_members.MemberKind.{MemberKind}
use Rattle.type_members.specs.declared.core_members.MemberKind.TheVariants.{Instance, Virtual}
use Rattle.type_members.specs.declared.member.Member.{Member}
use Rattle.type_members.specs.declared.member.Member.TheVariants.{Method, Core}
use Rattle.type_members.specs.CoreMembers.{CoreMember, core_member_at, core_member_count}
use Rattle.type_members.specs.Subtypes.{interfaces_of, listed}
use Rattle.type_members.specs.Found.{first_of, is_spelled, method_words, core_words, found}

-- a method by its number: a row of MethodDef, or 2^24 + the place of a core member
abbrev pub called : ℕ → Member
called number = if is_core number then Core (number - row_limit) else Method number

abbrev pub same_member : Member → Member → Bool
same_member (Method a) (Method b) = a == b
same_member (Core a) (Core b) = a == b
same_member _ _ = false

-- a name, a spelling and an owner
abbrev pub name_if : Option CoreMember → List ℕ
name_if None = []
name_if (Some known) = known.name

abbrev pub name_of : Module → Member → List ℕ
name_of m (Method n) = Rows.method_name m n
name_of m (Core place) = name_if (core_member_at place)
name_of m _ = []

abbrev pub words_of : Module → Member → Option (List ℕ)
words_of m (Method n) = option_map (method_words m) (sig_of m n)
words_of m (Core place) = option_map core_words (core_member_at place)
words_of m _ = None

abbrev pub owner_of : Module → Member → Option TypeId
owner_of m (Method n) = Some (def_id (Rows.owner_of_method m n))
owner_of m (Core place) = option_map (λ known. core_id known.owner) (core_member_at place)
owner_of m _ = None

-- the flags Virtual and NewSlot of a method (II.23.1.10); a core member begins a slot where no base has one for it
abbrev pub is_virtual_kind : MemberKind → Bool
is_virtual_kind Virtual = true
is_virtual_kind _ = false

abbrev pub is_instance_kind : MemberKind → Bool
is_instance_kind Instance = true
is_instance_kind kind = is_virtual_kind kind

abbrev pub is_virtual_core : Option CoreMember → Bool
is_virtual_core None = false
is_virtual_core (Some known) = is_virtual_kind known.kind

abbrev pub is_virtual : Module → Member → Bool
is_virtual m (Method n) = bit_and (Rows.method_flags m n) 0x40 == 0x40
is_virtual m (Core place) = is_virtual_core (core_member_at place)
is_virtual m _ = false

abbrev pub begins_slot : Module → Member → Bool
begins_slot m (Method n) = bit_and (Rows.method_flags m n) 0x100 == 0x100
begins_slot m _ = false

-- the virtual methods that a type declares
abbrev pub is_owned : ℕ → Option CoreMember → Bool
is_owned place None = false
is_owned place (Some known) = known.owner == place

abbrev pub methods_of : Module → TypeId → List Member
methods_of m id =
    if nat_lt 0 id.arrays then []
    else if is_core id.base
    then map Core (filter (λ k. is_owned (id.base - row_limit) (core_member_at k)) (range_with_len 0 core_member_count))
    else map Method (run (Rows.first_method m id.base) (Rows.end_of_methods m id.base))

abbrev pub virtuals : Module → TypeId → List Member
virtuals m id = filter (is_virtual m) (methods_of m id)

-- two methods have one name and one signature
abbrev pub is_like : List ℕ → Option (List ℕ) → Module → Member → Bool
is_like name None m x = false
is_like name (Some words) m x = bytes_eq (name_of m x) name && is_spelled words (words_of m x)

-- A slot of a class: the method that began it, those that took its place one after another, and the one that answers.
pub record Slot : Type 0 where
  pub first : Member
  pub members : List Member
  pub body : Member

abbrev pub slot_of : Member → Slot
slot_of x = record { first = x; members = x ∷ []; body = x }

-- A method takes the place of the one that it is like in the nearest base (II.10.3.2), or begins a slot (II.10.3.1); slots that
-- were begun later stand first.
abbrev pub take_place : Module → Member → List Slot → List Slot
take_place m x [] = slot_of x ∷ []
take_place m x (slot ∷ slots) =
    if is_like (name_of m slot.first) (words_of m slot.first) m x
    then (record { first = slot.first; members = x ∷ slot.members; body = x }) ∷ slots
    else slot ∷ take_place m x slots

abbrev pub with_method : Module → List Slot → Member → List Slot
with_method m slots x = if begins_slot m x then slot_of x ∷ slots else take_place m x slots

-- the method of a coded index MethodDefOrRef (II.24.2.6)
abbrev pub method_token : ℕ → ℕ
method_token coded =
    if nat_lt (coded / 2) row_limit
    then (if coded % 2 == 0 then Rows.method_defs else Rows.member_refs) * row_limit + coded / 2
    else 0

abbrev pub method_at : Module → ℕ → Option Member
method_at m coded = found m (method_token coded)

-- the rows of MethodImpl of a type of the file: each names the body that stands for a declaration
abbrev pub impls_of : Module → TypeId → List (List ℕ)
impls_of m id =
    if nat_lt 0 id.arrays then []
    else filter (λ numbers. slice_index numbers 0 == id.base) (rows m Rows.method_impls)

abbrev pub holds : Member → Slot → Bool
holds x slot = list_any (same_member x) slot.members

abbrev pub answered_by : Member → Member → Slot → Slot
answered_by declaration body slot =
    if holds declaration slot then record { first = slot.first; members = slot.members; body = body } else slot

abbrev pub with_body : Option Member → Option Member → List Slot → List Slot
with_body (Some declaration) (Some body) slots = map (answered_by declaration body) slots
with_body _ _ slots = slots

abbrev pub with_impl : Module → List Slot → List ℕ → List Slot
with_impl m slots numbers =
    with_body (method_at m (slice_index numbers 2)) (method_at m (slice_index numbers 1)) slots

-- what a class makes of the slots of its base: its virtual methods, then its rows of MethodImpl, of which the first counts
abbrev pub with_class : Module → List Slot → TypeId → List Slot
with_class m slots id =
    fold (with_impl m) (fold (with_method m) slots (virtuals m id)) (reverse (impls_of m id))

unfoldable pub slots_of : Module → TypeId → List Slot
slots_of m id = fold (with_class m) [] (reverse (id ∷ bases m id))

-- the method of a class that answers
abbrev pub by_class : Module → TypeId → Member → Option Member
by_class m receiver x =
    if is_virtual m x then option_map (λ slot. slot.body) (find (holds x) (slots_of m receiver)) else Some x

-- What a class has for an interface's method (II.12.2): the body of its first row of MethodImpl for it, or else, where it names the
-- interface itself, its own virtual method of that name and signature, or that of its nearest base. A core type's method that no type
-- overrides is one that it has for its interface, too: the library's are virtual and final.
abbrev pub is_for : Module → Member → List ℕ → Bool
is_for m x numbers = list_any (same_member x) (listed (method_at m (slice_index numbers 2)))

abbrev pub impl_for : Module → TypeId → Member → Option Member
impl_for m id x =
    option_and_then (λ numbers. method_at m (slice_index numbers 1)) (find (is_for m x) (impls_of m id))

abbrev pub names_interface : Module → TypeId → Option TypeId → Bool
names_interface m id None = false
names_interface m id (Some interface) = list_any (same_type interface) (interfaces_of m id)

abbrev pub is_instance_core : Option CoreMember → Bool
is_instance_core None = false
is_instance_core (Some known) = is_instance_kind known.kind

abbrev pub may_implement : Module → Member → Bool
may_implement m (Core place) = is_instance_core (core_member_at place)
may_implement m x = is_virtual m x

abbrev pub implementing : Module → TypeId → List Member
implementing m id = filter (may_implement m) (methods_of m id)

abbrev pub entry_at : Module → Member → TypeId → Option Member
entry_at m x id =
    first_of (impl_for m id x)
    (if names_interface m id (owner_of m x)
    then find (is_like (name_of m x) (words_of m x) m) (flat_map (implementing m) (id ∷ bases m id))
    else None)

-- that of the nearest class that has one
abbrev pub entry : Module → Member → List TypeId → Option Member
entry m x [] = None
entry m x (id ∷ ids) = first_of (entry_at m x id) (entry m x ids)

-- an interface, by the flag of its type (II.23.1.15)
abbrev pub is_interface_row : Option TypeRow → Bool
is_interface_row None = false
is_interface_row (Some row) = bit_and row.flags 0x20 == 0x20

abbrev pub is_interface : Module → Option TypeId → Bool
is_interface m None = false
is_interface m (Some id) = is_interface_row (type_row m id.base)

abbrev pub answering : Module → TypeId → Member → Option Member
answering m receiver x =
    if is_virtual m x && is_interface m (owner_of m x)
    then option_and_then (by_class m receiver) (entry m x (receiver ∷ bases m receiver))
    else by_class m receiver x

-- a method of the file that has a body
abbrev pub bodied : Module → Member → Option ℕ
bodied m (Method n) = if is_some (code_at m n) then Some n else None
bodied m _ = None

-- The method that answers a call on an object of a type, by its row; none where it has no body.
unfoldable pub chosen : Module → TypeId → ℕ → Option ℕ
chosen m receiver number = option_and_then (bodied m) (answering m receiver (called number))
