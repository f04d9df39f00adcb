use Rattle.std.proofs.Common.{ℕ}
use Rattle.std.specs.Ordering.{is_lt}
use Rattle.std.proofs.lemmas.List.Sorted.{IsPartitionPoint-from_clause}
use Rattle.elf_binder.specs.Index.{compared}
use Rattle.elf_binder.proofs.Indexing.{names_parted}
use Rattle.elf_binder.proofs.index.first_not_below.Goals as goal

pub returns : goal.returns
returns c =
    IsPartitionPoint-from_clause (λ (place : ℕ). is_lt (compared c.args.exports.now c.args.name.now place)) _ _
    c.partition_point.ensures.partitioned
    (names_parted c.args.exports.now c.args.indexes.now c.args.name.now c.requires)
    (λ a r q k. (k.met.1, λ i. (k.met.0.0 i, k.met.0.1 i)))
