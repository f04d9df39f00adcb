use Rattle.std.proofs.Common.{Bool, ◌&&◌, List, reverse, sym, ap, ◌∙◌}
use Rattle.std.specs.Prelude.{filter, fold}
use Rattle.type_model.specs.Module.{Module}
use Rattle.type_members.specs.declared.member.Member.{Member}
use Rattle.type_members.specs.Akin.{akin}
use Rattle.type_members.specs.Chosen.{Slot, with_method, with_impl, is_virtual, impls_of, methods_of}
use Rattle.type_members.specs.View.{view_slots}
use Rattle.type_members.proofs.SlotPlaces.{filtered_twice}
use Rattle.type_members.proofs.members.Members.add_class.Goals as goal

pub returns : goal.returns
returns c =
    let m : Module = c.args.self.now in
    let test : Member → Bool = λ (z : Member). is_virtual m z && akin m c.args.x z in
    c.add_impls.ensures
    ∙ ap (λ (s : List Slot). fold (with_impl m) s (reverse (impls_of m c.args.id)))
    (c.in_ok-add_methods.ensures
    ∙ ap (λ (ys : List Member). fold (with_method m) (view_slots c.args.slots.now.items) (filter test ys)) (c.as_slice.ensures ∙ c.in_ok-methods.ensures)
    ∙ sym (ap (fold (with_method m) (view_slots c.args.slots.now.items)) (filtered_twice (is_virtual m) (akin m c.args.x) (methods_of m c.args.id))))
