use Rattle.std.proofs.Common.{◌≡◌, ◌+◌, ◌*◌, map, Ok}
use Rattle.byte_view.specs.Headers as definition
use Rattle.byte_view.specs.Reading.{listed}
use Rattle.pe_reader.specs.Pe.{section_of}
use Rattle.pe_reader.proofs.sections.section_headers.Given as goal

abbrev pub invariant-loop-k : goal.invariant-loop-k
invariant-loop-k l = listed (λ k. definition.section_at l.bytes (l.at + 40 * k)) l.k ≡ Ok (map section_of l.sections)
