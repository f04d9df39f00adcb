-- The rows of ImplMap as they are written, each an import (ECMA-335 II.22.22).
use Rattle.std.specs.Prelude.{ℕ, ◌/◌, ◌%◌, ◌==◌, List, slice_index, Option, Some, None, option_map, if◌then◌else◌}
use Rattle.type_model.specs.Module.{Module, row, text}
use Rattle.type_model.specs.Rows.{impl_maps}
use Rattle.type_model.specs.Members.{library_name}

-- the name of the library and that of the function as written, and the method that stands for it
pub record ImportRow : Type 0 where
  pub library : List ℕ
  pub entry : List ℕ
  pub method : Option ℕ

-- the row of MethodDef that a coded index MemberForwarded names; none where it names a field
-- (II.24.2.6)
abbrev pub forwarded_method : ℕ → Option ℕ
forwarded_method coded = if coded % 2 == 1 then Some (coded / 2) else None

abbrev pub import_row_in : Module → List ℕ → ImportRow
import_row_in m numbers = record {
  library = library_name m (slice_index numbers 3);
  entry = text m (slice_index numbers 2);
  method = forwarded_method (slice_index numbers 1);
}

-- an import, by its row of ImplMap
unfoldable pub import_row : Module → ℕ → Option ImportRow
import_row m n = option_map (import_row_in m) (row m impl_maps n)
