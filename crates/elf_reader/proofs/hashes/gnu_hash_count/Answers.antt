use Rattle.std.proofs.Common.{◌+◌, ◌*◌, map, ◌∙◌}
use Rattle.byte_view.specs.ElfSymbols.{words_at}
use Rattle.elf_reader.specs.Elf.{load_of}
use Rattle.elf_reader.specs.Elf.{dynamic_entry}
use Rattle.elf_reader.proofs.Buckets.{some_hashed, none_hashed, gnu_counted, by_chain, without_chain}
use Rattle.elf_reader.proofs.hashes.gnu_hash_count.Goals as goal

pub returns-in-Some : goal.returns-in-Some
returns-in-Some c =
    let bytes = c.args.bytes.now in
    let loads = map load_of c.args.loads.now in
    let entry = dynamic_entry c.args.entry in
    let first = c.number32-first.result in
    let count = c.from-bucket_count.result in
    let filters = c.from.result in
    let counted = gnu_counted bytes loads entry c.in_ok-at.at count first filters c.in_ok-buckets_at.buckets_at (c.from-bucket_count.ensures ∙ c.number32.ensures) c.number32-first.ensures (c.from.ensures ∙ c.number32-2.ensures) c.in_ok-at.ensures.place c.in_ok-buckets_at.ensures.place in
    let p = some_hashed _ _ _ c.in-Some.ensures.greatest in
    rw (counted, by_chain bytes loads entry (c.args.entry.value + (16 + 8 * filters + 4 * count)) first (words_at bytes c.in_ok-buckets_at.buckets_at count) c.in-Some.symbol p.0 p.1) c.behind_chain.ensures

pub returns-in-None : goal.returns-in-None
returns-in-None c =
    let bytes = c.args.bytes.now in
    let loads = map load_of c.args.loads.now in
    let entry = dynamic_entry c.args.entry in
    let first = c.number32-first.result in
    let count = c.from-bucket_count.result in
    let filters = c.from.result in
    let counted = gnu_counted bytes loads entry c.in_ok-at.at count first filters c.in_ok-buckets_at.buckets_at (c.from-bucket_count.ensures ∙ c.number32.ensures) c.number32-first.ensures (c.from.ensures ∙ c.number32-2.ensures) c.in_ok-at.ensures.place c.in_ok-buckets_at.ensures.place in
    let none = none_hashed _ _ c.in-None.ensures.greatest in
    rw c.from-in-None.ensures (counted ∙ without_chain bytes loads entry (c.args.entry.value + (16 + 8 * filters + 4 * count)) first (words_at bytes c.in_ok-buckets_at.buckets_at count) none)
