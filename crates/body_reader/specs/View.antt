-- The code's values as those of the definitions.
use Rattle.body_reader.specs.declared.header.Header.{Header as CodeHeader}
use Rattle.body_reader.specs.declared.sections.Section.{Section as CodeSection}
use Rattle.body_reader.specs.declared.sections.Fields.{Fields as CodeFields}
use Rattle.body_reader.specs.Bodies.{Header}
use Rattle.body_reader.specs.Clauses.{Section, Fields}

abbrev pub header_of : CodeHeader → Header
header_of h = record {
  start = h.start;
  max_stack = h.max_stack;
  size = h.size;
  locals = h.locals;
  has_sections = h.has_sections;
}

abbrev pub section_of : CodeSection → Section
section_of s = record { is_fat = s.is_fat; is_last = s.is_last; size = s.size }

abbrev pub fields_of : CodeFields → Fields
fields_of f = record {
  flags = f.flags;
  try_at = f.try_at;
  try_size = f.try_size;
  at = f.at;
  size = f.size;
  token = f.token;
}
