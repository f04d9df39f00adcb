-- What a list says of a type of the file.
use Rattle.std.proofs.Common.{◌≡◌, ℕ, ◌<◌, Bool, false, List, get_or, sym, ap, ◌∙◌}
use Rattle.managed_value.specs.declared.names.TypeId.{TypeId}
use Rattle.type_model.specs.Module.{Module}
use Rattle.type_model.specs.TypeIds.{row_limit, core_id, def_id}
use Rattle.type_model.specs.Types.{is_below}
use Rattle.type_model.specs.BaseTable.{TellsBelow}

pub told : (m : Module) (place : ℕ) (below : List Bool) (id : TypeId) → TellsBelow m place below → id.arrays ≡ 0 → id.base < row_limit
    → get_or below id.base false ≡ is_below m id (core_id place)
told m place below id tells plain small =
    let is : def_id id.base ≡ id = ap (λ (n : ℕ). let i : TypeId = record { base = id.base; arrays = n } in i) (sym plain) in
    tells id.base small ∙ ap (λ (i : TypeId). is_below m i (core_id place)) is
