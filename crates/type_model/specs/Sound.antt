-- The first type of a file that isn't sound.
use Rattle.std.specs.Prelude.{◌≡◌, ◌≤◌, ◌<◌, ℕ, Bool, true, false, Option, None, if◌then◌else◌}
use Rattle.type_model.specs.Module.{Module, row_count}
use Rattle.type_model.specs.Rows.{type_defs}
use Rattle.type_model.specs.Part.{is_sound_type, field_value}
use Rattle.type_model.specs.Types.{is_instance}

-- this type isn't sound, and each before it is
pub record IsFirstUnsound (m : Module) (t : ℕ) : Type 0 where
  pub exists : 1 ≤ t
  pub within : t ≤ row_count m type_defs
  pub unsound : is_sound_type m t ≡ false
  pub before : (earlier : ℕ) → 1 ≤ earlier → earlier < t → is_sound_type m earlier ≡ true

abbrev pub AllSound : Module → Type 0
AllSound m = (t : ℕ) → 1 ≤ t → t ≤ row_count m type_defs → is_sound_type m t ≡ true

-- the value type of the file that an instance field holds; a static field holds none
abbrev pub held_if_own : Module → ℕ → Option ℕ
held_if_own m f = if is_instance m f then field_value m f else None

-- The least number from 1 on at which a test fails; above n where it fails at none up to n.
pub record FailsFirst (fails : ℕ → Bool) (n at : ℕ) : Type 0 where
  pub from : 1 ≤ at
  pub before : (t : ℕ) → 1 ≤ t → t < at → fails t ≡ false
  pub here : at ≤ n → fails at ≡ true
