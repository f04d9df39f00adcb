use Rattle.std.proofs.Common.{◌≡◌, ◌+◌, ◌*◌, not, Ok}
use Rattle.byte_view.specs.Reading.{Broken, each, must}
use Rattle.byte_view.specs.ElfLoads.{is_of_type, pt_tls}
use Rattle.byte_view.specs.ElfParts as parts
use Rattle.elf_reader.proofs.loads.without_tls.Given as goal

abbrev pub invariant-loop-k : goal.invariant-loop-k
invariant-loop-k l = each {R = Broken} (λ n. must (not (is_of_type pt_tls l.bytes (l.headers.start + 56 * n))) (parts.tls, l.headers.start + 56 * n)) l.k ≡ Ok 0
