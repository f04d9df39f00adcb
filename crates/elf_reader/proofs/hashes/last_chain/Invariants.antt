use Rattle.std.proofs.Common.{◌≡◌, ◌≤◌, true}
use Rattle.std.specs.Prelude.{max, nat_le}
use Rattle.std.specs.List.{fold, list_any}
use Rattle.byte_view.specs.ElfSymbols.{words_at}
use Rattle.elf_reader.proofs.hashes.last_chain.Given as goal

abbrev pub invariant-loop-k : goal.invariant-loop-k
invariant-loop-k l = record {
  greatest : l.greatest ≡ fold max 0 (words_at l.bytes l.at l.k);
  any : l.is_hashed ≡ list_any (λ start. nat_le l.first start) (words_at l.bytes l.at l.k);
  above : l.is_hashed ≡ true → l.first ≤ l.greatest;
}
