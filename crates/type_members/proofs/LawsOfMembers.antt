-- Laws of members.
use Rattle.std.proofs.Common.{◌≡◌, ℕ, false, Some, sym, refl}
use Rattle.managed_value.specs.declared.names.TypeId.{TypeId}
use Rattle.type_model.specs.Module.{Module}
use Rattle.type_members.specs.CoreMembers.{CoreMember, core_member_at, core_members}
use Rattle.type_members.specs.Chosen.{called, is_virtual, bodied, chosen}
use Rattle.type_members.specs.Laws.{IsHandleField}

pub handle_first : (known : CoreMember) → core_member_at 0 ≡ Some known → IsHandleField known
unfolding core_member_at core_members
handle_first known is = record { owner = sym (cc); type = sym (cc) }

pub plain_answers : (m : Module) (receiver : TypeId) (number : ℕ) → is_virtual m (called number) ≡ false → chosen m receiver number ≡ bodied m (called number)
unfolding chosen
plain_answers m receiver number plain = rw plain refl
