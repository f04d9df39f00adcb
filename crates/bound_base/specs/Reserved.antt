-- A list and its room: how many more elements it takes without memory.
use Rattle.std.specs.Prelude.{ℕ, List, refl}
use Rattle.std.specs.Coded.{Coded, code_by, coded×, coded_ℕ, coded_list}

pub record WithRoom (T : Type 0) : Type 0 where
  pub items : List T
  pub room : ℕ

-- it is stored as the pair of its fields
abbrev pub with_room_code : {T : Type 0} → Coded T → Coded (WithRoom T)
with_room_code code =
    code_by (List _ × ℕ) (coded× (coded_list code) coded_ℕ) (λ list. (list.items, list.room))
    (λ pair. record { items = pair.0; room = pair.1 }) (λ _. refl)
