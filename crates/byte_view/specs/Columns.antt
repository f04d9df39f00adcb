-- The columns of the metadata tables (ECMA-335 II.22), and their widths (II.24.2.6).
use Rattle.std.specs.Prelude.{ℕ, ◌-◌, ◌^◌, Bool, ◌==◌, nat_lt, List, [], ◌∷◌, length, take, sum_by, slice_index, slice_index_or, Option, Some, None, bit_and, if◌then◌else◌}
use Rattle.std.specs.List.{list_all}

-- what a column holds
pub data Column : Type 0 where
  Number : ℕ → Column  -- a number of so many bytes
  StringOffset : Column  -- an offset in `#Strings`
  GuidNumber : Column  -- the number of a GUID in `#GUID`, from 1, or 0
  BlobOffset : Column  -- an offset in `#Blob`
  RowOf : ℕ → Column  -- a row of a table, from 1, or 0
  RunOf : ℕ → Column  -- the first row of a run that ends where the next row's begins
  CodedRow : ℕ → List (Option ℕ) → Column  -- a row and so many tag bits below it; the tables by tag

-- the coded indexes (II.24.2.6)
abbrev pub type_def_or_ref : Column
type_def_or_ref = CodedRow 2 (Some 0x02 ∷ Some 0x01 ∷ Some 0x1B ∷ [])

abbrev pub has_constant : Column
has_constant = CodedRow 2 (Some 0x04 ∷ Some 0x08 ∷ Some 0x17 ∷ [])

abbrev pub has_custom_attribute : Column
has_custom_attribute =
    CodedRow 5 (Some 0x06 ∷ Some 0x04 ∷ Some 0x01 ∷ Some 0x02 ∷ Some 0x08 ∷ Some 0x09
    ∷ Some 0x0A ∷ Some 0x00 ∷ Some 0x0E ∷ Some 0x17 ∷ Some 0x14 ∷ Some 0x11 ∷ Some 0x1A
    ∷ Some 0x1B ∷ Some 0x20 ∷ Some 0x23 ∷ Some 0x26 ∷ Some 0x27 ∷ Some 0x28 ∷ Some 0x2A
    ∷ Some 0x2C ∷ Some 0x2B ∷ [])

abbrev pub has_field_marshal : Column
has_field_marshal = CodedRow 1 (Some 0x04 ∷ Some 0x08 ∷ [])

abbrev pub has_decl_security : Column
has_decl_security = CodedRow 2 (Some 0x02 ∷ Some 0x06 ∷ Some 0x20 ∷ [])

abbrev pub member_ref_parent : Column
member_ref_parent = CodedRow 3 (Some 0x02 ∷ Some 0x01 ∷ Some 0x1A ∷ Some 0x06 ∷ Some 0x1B ∷ [])

abbrev pub has_semantics : Column
has_semantics = CodedRow 1 (Some 0x14 ∷ Some 0x17 ∷ [])

abbrev pub method_def_or_ref : Column
method_def_or_ref = CodedRow 1 (Some 0x06 ∷ Some 0x0A ∷ [])

abbrev pub member_forwarded : Column
member_forwarded = CodedRow 1 (Some 0x04 ∷ Some 0x06 ∷ [])

abbrev pub implementation : Column
implementation = CodedRow 2 (Some 0x26 ∷ Some 0x23 ∷ Some 0x27 ∷ [])

abbrev pub custom_attribute_type : Column
custom_attribute_type = CodedRow 3 (None ∷ None ∷ Some 0x06 ∷ Some 0x0A ∷ [])

abbrev pub resolution_scope : Column
resolution_scope = CodedRow 2 (Some 0x00 ∷ Some 0x1A ∷ Some 0x23 ∷ Some 0x01 ∷ [])

abbrev pub type_or_method_def : Column
type_or_method_def = CodedRow 1 (Some 0x02 ∷ Some 0x06 ∷ [])

-- the columns of each table, by its number; a number that is no metadata table has none
abbrev pub all_columns : List (List Column)
all_columns =
    (Number 2 ∷ StringOffset ∷ GuidNumber ∷ GuidNumber ∷ GuidNumber ∷ [])  -- 00 Module
    ∷ (resolution_scope ∷ StringOffset ∷ StringOffset ∷ [])  -- 01 TypeRef
    -- 02 TypeDef
    ∷ (Number 4 ∷ StringOffset ∷ StringOffset ∷ type_def_or_ref ∷ RunOf 0x04 ∷ RunOf 0x06 ∷ [])
    ∷ []
    ∷ (Number 2 ∷ StringOffset ∷ BlobOffset ∷ [])  -- 04 Field
    ∷ []
    -- 06 MethodDef
    ∷ (Number 4 ∷ Number 2 ∷ Number 2 ∷ StringOffset ∷ BlobOffset ∷ RunOf 0x08 ∷ [])
    ∷ []
    ∷ (Number 2 ∷ Number 2 ∷ StringOffset ∷ [])  -- 08 Param
    ∷ (RowOf 0x02 ∷ type_def_or_ref ∷ [])  -- 09 InterfaceImpl
    ∷ (member_ref_parent ∷ StringOffset ∷ BlobOffset ∷ [])  -- 0A MemberRef
    ∷ (Number 1 ∷ Number 1 ∷ has_constant ∷ BlobOffset ∷ [])  -- 0B Constant
    ∷ (has_custom_attribute ∷ custom_attribute_type ∷ BlobOffset ∷ [])  -- 0C CustomAttribute
    ∷ (has_field_marshal ∷ BlobOffset ∷ [])  -- 0D FieldMarshal
    ∷ (Number 2 ∷ has_decl_security ∷ BlobOffset ∷ [])  -- 0E DeclSecurity
    ∷ (Number 2 ∷ Number 4 ∷ RowOf 0x02 ∷ [])  -- 0F ClassLayout
    ∷ (Number 4 ∷ RowOf 0x04 ∷ [])  -- 10 FieldLayout
    ∷ (BlobOffset ∷ [])  -- 11 StandAloneSig
    ∷ (RowOf 0x02 ∷ RowOf 0x14 ∷ [])  -- 12 EventMap
    ∷ []
    ∷ (Number 2 ∷ StringOffset ∷ type_def_or_ref ∷ [])  -- 14 Event
    ∷ (RowOf 0x02 ∷ RowOf 0x17 ∷ [])  -- 15 PropertyMap
    ∷ []
    ∷ (Number 2 ∷ StringOffset ∷ BlobOffset ∷ [])  -- 17 Property
    ∷ (Number 2 ∷ RowOf 0x06 ∷ has_semantics ∷ [])  -- 18 MethodSemantics
    ∷ (RowOf 0x02 ∷ method_def_or_ref ∷ method_def_or_ref ∷ [])  -- 19 MethodImpl
    ∷ (StringOffset ∷ [])  -- 1A ModuleRef
    ∷ (BlobOffset ∷ [])  -- 1B TypeSpec
    ∷ (Number 2 ∷ member_forwarded ∷ StringOffset ∷ RowOf 0x1A ∷ [])  -- 1C ImplMap
    ∷ (Number 4 ∷ RowOf 0x04 ∷ [])  -- 1D FieldRVA
    ∷ []
    ∷ []
    -- 20 Assembly
    ∷ (Number 4 ∷ Number 2 ∷ Number 2 ∷ Number 2 ∷ Number 2 ∷ Number 4
    ∷ BlobOffset ∷ StringOffset ∷ StringOffset ∷ [])
    ∷ (Number 4 ∷ [])  -- 21 AssemblyProcessor
    ∷ (Number 4 ∷ Number 4 ∷ Number 4 ∷ [])  -- 22 AssemblyOS
    -- 23 AssemblyRef
    ∷ (Number 2 ∷ Number 2 ∷ Number 2 ∷ Number 2 ∷ Number 4
    ∷ BlobOffset ∷ StringOffset ∷ StringOffset ∷ BlobOffset ∷ [])
    ∷ (Number 4 ∷ RowOf 0x23 ∷ [])  -- 24 AssemblyRefProcessor
    ∷ (Number 4 ∷ Number 4 ∷ Number 4 ∷ RowOf 0x23 ∷ [])  -- 25 AssemblyRefOS
    ∷ (Number 4 ∷ StringOffset ∷ BlobOffset ∷ [])  -- 26 File
    ∷ (Number 4 ∷ Number 4 ∷ StringOffset ∷ StringOffset ∷ implementation ∷ [])  -- 27 ExportedType
    ∷ (Number 4 ∷ Number 4 ∷ StringOffset ∷ implementation ∷ [])  -- 28 ManifestResource
    ∷ (RowOf 0x02 ∷ RowOf 0x02 ∷ [])  -- 29 NestedClass
    ∷ (Number 2 ∷ Number 2 ∷ type_or_method_def ∷ StringOffset ∷ [])  -- 2A GenericParam
    ∷ (method_def_or_ref ∷ BlobOffset ∷ [])  -- 2B MethodSpec
    ∷ (RowOf 0x2A ∷ type_def_or_ref ∷ [])  -- 2C GenericParamConstraint
    ∷ []

-- how many table numbers there are, up to the last table
abbrev pub table_numbers : ℕ
table_numbers = 45

unfoldable pub columns : ℕ → List Column
columns table = slice_index_or all_columns table []

abbrev pub is_table : ℕ → Bool
is_table table = nat_lt 0 (length (columns table))

-- a heap's index has 4 bytes where its bit of HeapSizes is set: 1 for `#Strings`, 2 for `#GUID`, 4
-- for `#Blob`
abbrev pub heap_width : ℕ → ℕ → ℕ
heap_width heap_sizes bit = if bit_and heap_sizes bit == 0 then 2 else 4

abbrev pub rows_of_tag : List ℕ → Option ℕ → ℕ
rows_of_tag rows None = 0
rows_of_tag rows (Some table) = slice_index rows table

-- The width of a column in bytes, by HeapSizes and the row count of each table. An index has 2
-- bytes where it reaches each row, a coded one each row of each of its tables.
unfoldable pub width : ℕ → List ℕ → Column → ℕ
width heap_sizes rows (Number n) = n
width heap_sizes rows StringOffset = heap_width heap_sizes 1
width heap_sizes rows GuidNumber = heap_width heap_sizes 2
width heap_sizes rows BlobOffset = heap_width heap_sizes 4
width heap_sizes rows (RowOf table) = if nat_lt (slice_index rows table) 65536 then 2 else 4
width heap_sizes rows (RunOf table) = if nat_lt (slice_index rows table) 65536 then 2 else 4
width heap_sizes rows (CodedRow tag_bits tables) =
    if list_all (λ tag. nat_lt (rows_of_tag rows tag) (2 ^ (16 - tag_bits))) tables then 2 else 4

-- where a column begins in its row
abbrev pub column_offset : ℕ → List ℕ → List Column → ℕ → ℕ
column_offset heap_sizes rows columns column = sum_by (width heap_sizes rows) (take column columns)

-- the bytes of a row of a table
abbrev pub row_width : ℕ → List ℕ → ℕ → ℕ
row_width heap_sizes rows table = sum_by (width heap_sizes rows) (columns table)
