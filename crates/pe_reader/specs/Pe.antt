-- What a `Pe` says of an image: the headers of the definitions.
use Rattle.std.specs.Prelude.{List, map}
use Rattle.byte_view.specs.Headers as definition
use Rattle.pe_reader.specs.declared.sections.Section.{Section}
use Rattle.pe_reader.specs.declared.headers.Pe.{Pe}
use Rattle.pe_reader.specs.declared.headers.Front.{Front}

abbrev pub section_of : Section → definition.Section
section_of section = record {
  rva = section.rva;
  raw_at = section.raw_at;
  raw_size = section.raw_size;
}

abbrev pub sections_of : Pe → List definition.Section
sections_of pe = map section_of pe.sections

abbrev pub headers_of : Pe → definition.Headers
headers_of pe = record {
  meta_at = pe.meta_at;
  meta_size = pe.meta_size;
  entry = pe.entry;
  cli_at = pe.cli_at;
  sections = sections_of pe;
}

abbrev pub front_of : Front → definition.Front
front_of front = record {
  signature = front.signature;
  count = front.count;
  table = front.table;
  directory = front.directory;
}
