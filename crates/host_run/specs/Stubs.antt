-- What `stubs` answers: for each row of ImplMap that a method is, the stub of its import, or why it has none.
use Rattle.std.specs.Prelude.{ℕ, List, [], Option, Some, None, Result, Ok, Err}
use Rattle.byte_view.specs.Reading.{Broken}
use Rattle.type_model.specs.Module.{Module}
use Rattle.type_model.specs.Members.{Import, import_of}
use Rattle.type_model.specs.ImportRows.{ImportRow}
use Rattle.stub_maker.specs.declared.stub.Stub.{Stub}
use Rattle.stub_maker.specs.Rules.{Refused}
use Rattle.stub_maker.specs.Printed.{printed, printed_outside}
use Rattle.stub_maker.specs.Described.{stub_of_import}
use Rattle.host_run.specs.Answer.{Answer, done, bad_image}
use Rattle.host_run.specs.Imports.{for_each_import}

-- the lines of a stub, or what of the import has no row in the marshalling table and why
abbrev pub stub_lines : Import → Result Stub Refused → List ℕ
stub_lines i (Ok stub) = printed i.library i.entry stub
stub_lines i (Err refused) = printed_outside i.library i.entry refused.param refused.why

abbrev pub import_lines : Module → Option Import → List ℕ
import_lines m None = []
import_lines m (Some i) = stub_lines i (stub_of_import m i)

-- the lines of the import that a method is; a row that no method is has none
unfoldable pub method_lines : Module → Option ℕ → List ℕ
method_lines m None = []
method_lines m (Some n) = import_lines m (import_of m n)

abbrev pub row_lines : Module → ImportRow → List ℕ
row_lines m row = method_lines m row.method

unfoldable pub stubs_text : Module → List ℕ
stubs_text m = for_each_import (row_lines m) m

-- the stubs of an assembly's imports, or its first broken part
abbrev pub stubs_of : Result Module Broken → Answer
stubs_of (Ok m) = done (stubs_text m)
stubs_of (Err broken) = bad_image broken.0 broken.1
