-- What `imports` answers: a line for each row of the ImplMap table (ECMA-335 II.22.22).
use Rattle.std.specs.Prelude.{ℕ, List, [], ◌∷◌, ◌++◌, slice_index, Result, Ok, Err}
use Rattle.std.specs.List.{flat_map}
use Rattle.bound_base.specs.Names.{escaped}
use Rattle.byte_view.specs.Reading.{Broken}
use Rattle.type_model.specs.Module.{Module, rows}
use Rattle.type_model.specs.Rows.{impl_maps}
use Rattle.type_model.specs.ImportRows.{ImportRow, import_row_in}
use Rattle.host_run.specs.Answer.{Answer, done, bad_image}

-- the printed module, a space, the printed entry name and a line end
abbrev pub import_line : ImportRow → List ℕ
import_line i = (escaped i.library ++ 32 ∷ []) ++ (escaped i.entry ++ 10 ∷ [])

-- a text for each row of ImplMap, in order
abbrev pub for_each_import : (ImportRow → List ℕ) → Module → List ℕ
for_each_import text m = flat_map (λ numbers. text (import_row_in m numbers)) (rows m impl_maps)

unfoldable pub imports_text : Module → List ℕ
imports_text m = for_each_import import_line m

-- the imports of an assembly, or its first broken part
abbrev pub imports_of : Result Module Broken → Answer
imports_of (Ok m) = done (imports_text m)
imports_of (Err broken) = bad_image broken.0 broken.1
