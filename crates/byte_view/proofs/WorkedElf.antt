-- The worked library, by computing the definitions on it.
use Rattle.std.proofs.Common.{refl}
use Rattle.byte_view.specs.Numbers.{le}
use Rattle.byte_view.specs.Reading.{listed, each}
use Rattle.byte_view.specs.Heaps.{text_at}
use Rattle.byte_view.specs.ElfLoads.{identified, program_headers, load_at, and_load, loads, holds_range, file_place, bytes_from}
use Rattle.byte_view.specs.ElfDynamic.{dynamic_among, dynamic_header, entry_count, entries, check_entry, check_entries, dynamic_table, entry_of, value_of}
use Rattle.byte_view.specs.ElfSymbols.{table_place, hash_count, symbol_at, symbols_of, symbols}
use Rattle.byte_view.specs.ElfRelocations.{relocation_table, relocations}
use Rattle.byte_view.specs.Library.{library}
use Rattle.byte_view.specs.ElfExamples.{AddLibrary, OtherMachine, CompressedCode}

pub add_library_reads : AddLibrary
unfolding library identified program_headers load_at and_load loads holds_range file_place bytes_from dynamic_among dynamic_header entry_count entries check_entry check_entries dynamic_table entry_of value_of table_place hash_count symbol_at symbols_of symbols relocation_table relocations text_at le listed each
add_library_reads = refl

pub other_machine : OtherMachine
unfolding library identified le
other_machine = refl

pub compressed_code : CompressedCode
unfolding library identified le
compressed_code = refl
