-- Tables by their numbers, and columns of their rows by their places from 0, under the names of
-- ECMA-335 II.22: those that are spoken of one by one.
use Rattle.std.specs.Prelude.{ℕ}

-- TypeDef (II.22.37), and its runs of fields and of methods
abbrev pub type_def : ℕ
type_def = 0x02

abbrev pub type_def_field_list : ℕ
type_def_field_list = 4

abbrev pub type_def_method_list : ℕ
type_def_method_list = 5

-- Field (II.22.15)
abbrev pub field : ℕ
field = 0x04

-- MethodDef (II.22.26)
abbrev pub method_def : ℕ
method_def = 0x06

-- ModuleRef (II.22.31), and the name of a library
abbrev pub module_ref : ℕ
module_ref = 0x1A

abbrev pub module_ref_name : ℕ
module_ref_name = 0

-- ImplMap (II.22.22): the member that stands for an import, the import's name, and its library's
-- row of ModuleRef
abbrev pub impl_map : ℕ
impl_map = 0x1C

abbrev pub impl_map_member_forwarded : ℕ
impl_map_member_forwarded = 1

abbrev pub impl_map_import_name : ℕ
impl_map_import_name = 2

abbrev pub impl_map_import_scope : ℕ
impl_map_import_scope = 3
