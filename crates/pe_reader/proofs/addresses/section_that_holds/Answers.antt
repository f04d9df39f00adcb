use Rattle.std.proofs.Common.{option_map, ap, sym, ◌∙◌, rules, tests}
use Rattle.std.proofs.lemmas.Iterator.{YieldsList-from_slice}
use Rattle.std.proofs.lemmas.Iterator.Adapters.{option_map_id}
use Rattle.std.proofs.lemmas.Iterator.Consumers.{YieldsList-from_copied}
use Rattle.std.proofs.lemmas.Iterator.Search.{find_from_yields_List}
use Rattle.byte_view.specs.Headers as definition
use Rattle.pe_reader.specs.declared.sections.Section.{Section}
use Rattle.pe_reader.specs.Pe.{section_of}
use Rattle.pe_reader.proofs.FirstSection.{first_section}
use Rattle.pe_reader.proofs.addresses.section_that_holds.Goals as goal

pub returns-clause-first : goal.returns-clause-first
returns-clause-first c =
    let sections = c.args.sections.now in
    let found = find_from_yields_List (λ (section : Section). definition.holds_range c.args.size c.args.rva c.args.len (section_of section)) _ _ c.find.result c.find.ensures.ran (YieldsList-from_copied (YieldsList-from_slice sections cc)) (λ x b q k. search (rules, tests)) in
    ap (option_map section_of) (sym (option_map_id c.find.result) ∙ found) ∙ first_section c.args.size c.args.rva c.args.len sections
