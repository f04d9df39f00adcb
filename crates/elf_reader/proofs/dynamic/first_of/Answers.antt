use Rattle.std.proofs.Common.{◌≡◌, ℕ, List, map, find, option_map, ap, sym, ◌∙◌, rules, tests}
use Rattle.std.specs.Prelude.{◌==◌}
use Rattle.std.proofs.lemmas.Iterator.{YieldsList-from_slice}
use Rattle.std.proofs.lemmas.Iterator.Adapters.{option_map_id}
use Rattle.std.proofs.lemmas.Iterator.Consumers.{YieldsList-from_copied}
use Rattle.std.proofs.lemmas.Iterator.Search.{find_from_yields_List}
use Rattle.byte_view.specs.ElfDynamic as definition
use Rattle.elf_reader.specs.declared.entry.Entry.{Entry}
use Rattle.elf_reader.specs.Elf.{dynamic_entry}
use Rattle.elf_reader.proofs.Mapped.{find_mapped}
use Rattle.elf_reader.proofs.dynamic.first_of.Goals as goal

first_entry : (table : List Entry) (tag : ℕ) → option_map dynamic_entry (find (λ (entry : Entry). entry.tag == tag) table) ≡ definition.entry_of (map dynamic_entry table) tag
unfolding definition.entry_of
first_entry table tag = find_mapped (λ (entry : definition.Entry). entry.tag == tag) dynamic_entry table

pub returns : goal.returns
returns c =
    let table = c.args.table.now in
    let found = find_from_yields_List (λ (entry : Entry). entry.tag == c.args.tag) _ _ c.find.result c.find.ensures.ran (YieldsList-from_copied (YieldsList-from_slice table cc)) (λ x b q k. search (rules, tests)) in
    ap (option_map dynamic_entry) (sym (option_map_id c.find.result) ∙ found) ∙ first_entry table c.args.tag
