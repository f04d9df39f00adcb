-- The rows that types are made of, under the names of ECMA-335 II.22. A row is named by its number,
-- from 1; a cell of a row that isn't there is 0.
use Rattle.std.specs.Prelude.{ℕ, ◌+◌, nat_lt, nat_le, List, count_by, slice_index, if◌then◌else◌}
use Rattle.type_model.specs.Module.{Module, rows, row_count, cell, text, first_with, in_column}

-- the tables
abbrev pub type_refs : ℕ
type_refs = 0x01

abbrev pub type_defs : ℕ
type_defs = 0x02

abbrev pub fields : ℕ
fields = 0x04

abbrev pub method_defs : ℕ
method_defs = 0x06

abbrev pub params : ℕ
params = 0x08

abbrev pub interface_impls : ℕ
interface_impls = 0x09

abbrev pub member_refs : ℕ
member_refs = 0x0A

abbrev pub field_marshals : ℕ
field_marshals = 0x0D

abbrev pub class_layouts : ℕ
class_layouts = 0x0F

abbrev pub field_layouts : ℕ
field_layouts = 0x10

abbrev pub stand_alone_sigs : ℕ
stand_alone_sigs = 0x11

abbrev pub method_impls : ℕ
method_impls = 0x19

abbrev pub module_refs : ℕ
module_refs = 0x1A

abbrev pub type_specs : ℕ
type_specs = 0x1B

abbrev pub impl_maps : ℕ
impl_maps = 0x1C

abbrev pub field_rvas : ℕ
field_rvas = 0x1D

abbrev pub nested_classes : ℕ
nested_classes = 0x29

-- TypeRef (II.22.38): the coded index of its scope, its name and namespace
abbrev pub ref_scope : Module → ℕ → ℕ
ref_scope m r = cell m type_refs r 0

abbrev pub ref_name : Module → ℕ → List ℕ
ref_name m r = text m (cell m type_refs r 1)

abbrev pub ref_namespace : Module → ℕ → List ℕ
ref_namespace m r = text m (cell m type_refs r 2)

-- TypeDef (II.22.37)
abbrev pub type_flags : Module → ℕ → ℕ
type_flags m t = cell m type_defs t 0

abbrev pub type_name : Module → ℕ → List ℕ
type_name m t = text m (cell m type_defs t 1)

abbrev pub type_namespace : Module → ℕ → List ℕ
type_namespace m t = text m (cell m type_defs t 2)

-- the coded index of what it extends
abbrev pub type_extends : Module → ℕ → ℕ
type_extends m t = cell m type_defs t 3

-- The rows of a run: from the number in its column up to that of the next row of TypeDef or
-- MethodDef, and of the last one up to the end of the table.
unfoldable pub run_end : Module → ℕ → ℕ → ℕ → ℕ → ℕ
run_end m table n column of =
    if nat_lt n (row_count m table) then cell m table (n + 1) column else row_count m of + 1

abbrev pub first_field : Module → ℕ → ℕ
first_field m t = cell m type_defs t 4

abbrev pub end_of_fields : Module → ℕ → ℕ
end_of_fields m t = run_end m type_defs t 4 fields

abbrev pub first_method : Module → ℕ → ℕ
first_method m t = cell m type_defs t 5

abbrev pub end_of_methods : Module → ℕ → ℕ
end_of_methods m t = run_end m type_defs t 5 method_defs

-- The row of TypeDef whose run has a row, 0 for one before the first run: since runs never fall, as
-- many runs begin at it or before.
unfoldable pub owner : Module → ℕ → ℕ → ℕ
owner m column n = count_by (λ numbers. nat_le (slice_index numbers column) n) (rows m type_defs)

abbrev pub owner_of_field : Module → ℕ → ℕ
owner_of_field m f = owner m 4 f

abbrev pub owner_of_method : Module → ℕ → ℕ
owner_of_method m n = owner m 5 n

-- Field (II.22.15)
abbrev pub field_flags : Module → ℕ → ℕ
field_flags m f = cell m fields f 0

abbrev pub field_name : Module → ℕ → List ℕ
field_name m f = text m (cell m fields f 1)

-- MethodDef (II.22.26)
abbrev pub method_rva : Module → ℕ → ℕ
method_rva m n = cell m method_defs n 0

abbrev pub method_impl_flags : Module → ℕ → ℕ
method_impl_flags m n = cell m method_defs n 1

abbrev pub method_flags : Module → ℕ → ℕ
method_flags m n = cell m method_defs n 2

abbrev pub method_name : Module → ℕ → List ℕ
method_name m n = text m (cell m method_defs n 3)

abbrev pub first_param : Module → ℕ → ℕ
first_param m n = cell m method_defs n 5

abbrev pub end_of_params : Module → ℕ → ℕ
end_of_params m n = run_end m method_defs n 5 params

-- the type that encloses a nested one, by the first row of NestedClass (II.22.32) that names it; 0
-- for a type that isn't nested
abbrev pub encloser : Module → ℕ → ℕ
encloser m t = in_column 1 (first_with m nested_classes 0 t)
