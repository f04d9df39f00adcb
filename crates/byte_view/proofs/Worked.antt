-- The worked examples, by computing the definitions on them.
use Rattle.std.proofs.Common.{length, refl}
use Rattle.std.proofs.lemmas.Bool.{le-ltb}
use Rattle.byte_view.specs.Numbers.{le}
use Rattle.byte_view.specs.Reading.{listed, each}
use Rattle.byte_view.specs.Headers.{headers, front, signature_place, section_table, directory_count_place, cli_directory, sections_of, holds_range, file_place, cli_header_place, metadata_place}
use Rattle.byte_view.specs.Streams.{root, stream_name, stream_at, with_stream, streams_after, streams}
use Rattle.byte_view.specs.Heaps.{text_at, blob_at}
use Rattle.byte_view.specs.Columns.{columns, width}
use Rattle.byte_view.specs.Layout.{present_below, table_start, layout}
use Rattle.byte_view.specs.Metadata.{table_of, row_at, tables_in}
use Rattle.byte_view.specs.Cells.{is_sound, check_row, check_table, check_cells}
use Rattle.byte_view.specs.Assembly.{metadata_in, image, assembly}
use Rattle.byte_view.specs.Examples.{CutFile, CompressedNumbers, IndexWidths, CodedIndexWidths, NoUserStringPastHeap, EmptyFile, ModuleFile, WrongNameFile}

pub cut_file : CutFile
unfolding assembly image headers front signature_place le
cut_file rest h = rw h refl

pub compressed_numbers : CompressedNumbers
compressed_numbers = (refl, refl, refl, refl, refl)

pub index_widths : IndexWidths
unfolding width
index_widths heap_sizes rows table = (λ h. rw h refl, λ h. rw h refl)

pub coded_index_widths : CodedIndexWidths
unfolding width
coded_index_widths heap_sizes rows none no_spec = (λ h. rw (h, none, no_spec) refl, λ h. rw h refl)

pub no_user_string_past_heap : NoUserStringPastHeap
unfolding blob_at
no_user_string_past_heap heap at h = rw (le-ltb at (length heap) h) refl

pub empty_file_reads : EmptyFile
unfolding assembly image headers front signature_place section_table directory_count_place cli_directory sections_of holds_range file_place cli_header_place metadata_place root stream_name stream_at with_stream streams_after streams text_at columns width present_below table_start layout table_of row_at tables_in is_sound check_row check_table check_cells metadata_in le listed each
empty_file_reads = refl

pub module_file_reads : ModuleFile
unfolding assembly image headers front signature_place section_table directory_count_place cli_directory sections_of holds_range file_place cli_header_place metadata_place root stream_name stream_at with_stream streams_after streams text_at columns width present_below table_start layout table_of row_at tables_in is_sound check_row check_table check_cells metadata_in le listed each
module_file_reads = refl

pub wrong_name_file_is_refused : WrongNameFile
unfolding assembly image headers front signature_place section_table directory_count_place cli_directory sections_of holds_range file_place cli_header_place metadata_place root stream_name stream_at with_stream streams_after streams text_at columns width present_below table_start layout table_of row_at tables_in is_sound check_row check_table check_cells metadata_in le listed each
wrong_name_file_is_refused = refl
