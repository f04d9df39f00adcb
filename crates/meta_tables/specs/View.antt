-- The code's values as those of the definitions.
use Rattle.std.specs.Prelude.{ℕ, ◌≤◌, List, length, Option, Some, None, option_map}
use Rattle.byte_view.specs.Streams.{Range, Streams, Stream}
use Rattle.byte_view.specs.Columns as bv
use Rattle.meta_tables.specs.declared.streams.Range.{Range as CodeRange}
use Rattle.meta_tables.specs.declared.streams.Streams.{Streams as CodeStreams}
use Rattle.meta_tables.specs.declared.streams.Stream.{Stream as CodeStream}
use Rattle.meta_tables.specs.declared.columns.Width.{Width}
use Rattle.meta_tables.specs.declared.columns.Width.TheVariants as widths
use Rattle.meta_tables.specs.declared.columns.Column.{Column}
use Rattle.meta_tables.specs.declared.columns.Column.TheVariants as cols
use Rattle.meta_tables.specs.declared.columns.CodedIndex.{CodedIndex}
use Rattle.meta_tables.specs.declared.columns.CodedIndex.TheVariants as coded

abbrev pub view_range : CodeRange → Range
view_range r = record { start = r.start; end = r.end }

abbrev pub view_ranges : Option CodeRange → Option Range
view_ranges range = option_map view_range range

-- a range that lies in the image, where it is there
abbrev pub IsWithin : List ℕ → Option Range → Type 0
IsWithin image None = Unit {0}
IsWithin image (Some range) = (range.start ≤ range.end) × (range.end ≤ length image)

-- each stream lies in the image
pub record AreWithin (image : List ℕ) (s : Streams) : Type 0 where
  pub tables : IsWithin image s.tables
  pub strings : IsWithin image s.strings
  pub user_strings : IsWithin image s.user_strings
  pub guids : IsWithin image s.guids
  pub blobs : IsWithin image s.blobs

abbrev pub view_streams : CodeStreams → Streams
view_streams s = record {
  tables = option_map view_range s.tables;
  strings = option_map view_range s.strings;
  user_strings = option_map view_range s.user_strings;
  guids = option_map view_range s.guids;
  blobs = option_map view_range s.blobs;
}

abbrev pub view_stream : CodeStream → Stream
view_stream s = record { name = s.name.now; range = view_range s.range; next = s.next }

-- how many bytes a width is
abbrev pub bytes_of : Width → ℕ
bytes_of widths.None = 0
bytes_of widths.One = 1
bytes_of widths.Two = 2
bytes_of widths.Four = 4

abbrev pub view_coded : CodedIndex → bv.Column
view_coded coded.TypeDefOrRef = bv.type_def_or_ref
view_coded coded.HasConstant = bv.has_constant
view_coded coded.HasCustomAttribute = bv.has_custom_attribute
view_coded coded.HasFieldMarshal = bv.has_field_marshal
view_coded coded.HasDeclSecurity = bv.has_decl_security
view_coded coded.MemberRefParent = bv.member_ref_parent
view_coded coded.HasSemantics = bv.has_semantics
view_coded coded.MethodDefOrRef = bv.method_def_or_ref
view_coded coded.MemberForwarded = bv.member_forwarded
view_coded coded.Implementation = bv.implementation
view_coded coded.CustomAttributeType = bv.custom_attribute_type
view_coded coded.ResolutionScope = bv.resolution_scope
view_coded coded.TypeOrMethodDef = bv.type_or_method_def

abbrev pub view_column : Column → bv.Column
view_column (cols.Number width) = bv.Number (bytes_of width)
view_column cols.String = bv.StringOffset
view_column cols.Guid = bv.GuidNumber
view_column cols.Blob = bv.BlobOffset
view_column (cols.Row table) = bv.RowOf table
view_column (cols.Run table) = bv.RunOf table
view_column (cols.Coded index) = view_coded index
