-- The slots that a call of one method has to know of: those begun by it or by a method like it. A slot has methods that are like the
-- one that began it, and no others, so that no other slot holds the one that is called.
use Rattle.std.specs.Prelude.{◌≡◌, ℕ, suc, ◌+◌, ◌-◌, ◌++◌, length, map, bytes_eq, Option, Some, None, Bool, ◌==◌, ◌&&◌, ◌||◌, nat_lt, List, [], ◌∷◌, filter, fold, reverse, slice_index, if◌then◌else◌}
use Rattle.managed_value.specs.declared.names.TypeId.{TypeId}
use Rattle.std.specs.List.{range_with_len}
use Rattle.type_model.specs.Module.{Module}
use Rattle.type_model.specs.Rows.{method_defs}
use Rattle.type_model.specs.Names.{numbers}
use Rattle.type_members.specs.CoreMembers.{core_member_count}
use Rattle.type_members.specs.declared.member.Member.{Member}
use Rattle.type_members.specs.declared.member.Member.TheVariants.{Method, Core}
use Rattle.type_members.specs.Chosen.{Slot, same_member, name_of, words_of, is_like, virtuals, with_method, with_impl, impls_of}

-- the second of two methods has the name and the signature of the first
abbrev pub like : Module → Member → Member → Bool
like m x y = is_like (name_of m x) (words_of m x) m y

-- or it is the first
abbrev pub akin : Module → Member → Member → Bool
akin m x y = same_member x y || like m x y

abbrev pub akin_virtuals : Module → Member → TypeId → List Member
akin_virtuals m x id = filter (akin m x) (virtuals m id)

-- what a class makes of these slots
abbrev pub with_akin : Module → Member → List Slot → TypeId → List Slot
with_akin m x slots id =
    fold (with_impl m) (fold (with_method m) slots (akin_virtuals m x id)) (reverse (impls_of m id))

-- those of a class and its bases, the class first
abbrev pub akin_slots : Module → Member → List TypeId → List Slot
akin_slots m x ids = fold (with_akin m x) [] (reverse ids)

-- a slot whose place a method took
abbrev pub taken : Slot → Member → Slot
taken slot y = record { first = slot.first; members = y ∷ slot.members; body = y }

-- where the first slot is whose place a method takes; how many slots there are, if it takes none
abbrev pub place_for : Module → Member → List Slot → ℕ
place_for m x [] = 0
place_for m x (slot ∷ slots) = if like m slot.first x then 0 else suc (place_for m x slots)

-- the name and the signature of a method in one list, which is empty where it has no signature
abbrev pub mark_by : List ℕ → Option (List ℕ) → List ℕ
mark_by name None = []
mark_by name (Some words) = length name ∷ name ++ words

unfoldable pub mark : Module → Member → List ℕ
mark m x = mark_by (name_of m x) (words_of m x)

-- those of the core members, and those of the methods of the file
unfoldable pub core_marks : Module → List (List ℕ)
core_marks m = map (λ place. mark m (Core place)) (range_with_len 0 core_member_count)

abbrev pub row_marks : Module → List (List ℕ)
row_marks m = map (λ n. mark m (Method n)) (numbers m method_defs)

abbrev pub all_marks : Module → List (List ℕ)
all_marks m = core_marks m ++ row_marks m

-- how many marks stand before one; its number is one more, and 0 for the empty one
abbrev pub place_of : List ℕ → List (List ℕ) → ℕ
place_of mark [] = 0
place_of mark (other ∷ marks) = if bytes_eq other mark then 0 else suc (place_of mark marks)

abbrev pub number_in : List (List ℕ) → List ℕ → ℕ
number_in marks [] = 0
number_in marks (word ∷ words) = suc (place_of (word ∷ words) marks)

-- the number of a method: that of its mark, which stands at the place of the core member, or after all core members at that of the row
abbrev pub key_at : List ℕ → Member → ℕ
key_at keys (Core place) = if nat_lt place core_member_count then slice_index keys place else 0
key_at keys (Method n) = if n == 0 then 0 else slice_index keys (core_member_count + (n - 1))
key_at keys _ = 0

abbrev pub same_key : ℕ → ℕ → Bool
same_key a b = nat_lt 0 a && a == b

-- two methods are like each other exactly where they have one number, and it isn't 0
abbrev pub TellsLike : Module → List ℕ → Type 0
TellsLike m keys = (x y : Member) → like m x y ≡ same_key (key_at keys x) (key_at keys y)
