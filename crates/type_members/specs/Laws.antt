-- Laws of members.
use Rattle.std.specs.Prelude.{◌≡◌, ℕ, false, Some}
use Rattle.managed_value.specs.declared.names.TypeId.{TypeId}
use Rattle.type_model.specs.Module.{Module}
use Rattle.type_model.specs.Core.{safe_handle_place, int_ptr_place}
use Rattle.type_members.specs.declared.core_members.CorePart.TheVariants.{Of}
use Rattle.type_members.specs.CoreMembers.{CoreMember, core_member_at}
use Rattle.type_members.specs.Subtypes.{IsSubtype}
use Rattle.type_members.specs.Chosen.{called, is_virtual, bodied, chosen}

-- The value of a handle, of which `type_model` speaks by its number, is a field of SafeHandle, a native int.
pub record IsHandleField (known : CoreMember) : Type 0 where
  pub owner : known.owner ≡ safe_handle_place
  pub type : known.result ≡ Of int_ptr_place

abbrev pub HandleIsACoreMember : Type 0
HandleIsACoreMember = (known : CoreMember) → core_member_at 0 ≡ Some known → IsHandleField known

-- a method that isn't virtual answers its own calls, if it has a body
abbrev pub PlainMethodsAnswerThemselves : Type 0
PlainMethodsAnswerThemselves =
    (m : Module) (receiver : TypeId) (number : ℕ) → is_virtual m (called number) ≡ false
    → chosen m receiver number ≡ bodied m (called number)

abbrev pub SubtypesAreReflexive : Type 0
SubtypesAreReflexive = (m : Module) (a : TypeId) → IsSubtype m a a

abbrev pub SubtypesCompose : Type 0
SubtypesCompose = (m : Module) (a b c : TypeId) → IsSubtype m a b → IsSubtype m b c → IsSubtype m a c
