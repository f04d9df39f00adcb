use Rattle.std.proofs.Common.{◌+◌, ◌*◌, sym, arith}
use Rattle.std.proofs.lemmas.List.{map_push}
use Rattle.std.proofs.lemmas.List.FromFn.{map-range_with_len_more}
use Rattle.byte_view.specs.ElfRelocations.{relocation_at}
use Rattle.elf_reader.specs.Elf.{relocation_of}
use Rattle.elf_reader.proofs.relocations.listed_relocations.Goals as goal

pub loop-k-preserved : goal.loop-k-preserved
loop-k-preserved c =
    let more = map_push relocation_of c.loop-k.relocations c.relocation_at.result in
    let range = map-range_with_len_more (λ k. relocation_at c.args.bytes.now (c.args.at + 24 * k)) 0 c.loop-k.k c.loop-k.k (omega arith) in
    rw (c.in_ok-push.ensures.ok, more, c.loop-k.invariant, c.relocation_at.ensures) (sym range)
