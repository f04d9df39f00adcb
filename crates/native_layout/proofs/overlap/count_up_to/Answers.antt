use Rattle.std.proofs.Common.{rules, ℕ}
use Rattle.std.specs.Prelude.{nat_le}
use Rattle.std.proofs.lemmas.List.Sorted.{IsPartitionPoint-from_clause, IsPartitionedBy-leb}
use Rattle.native_layout.proofs.Counts.{count_by-partitioned}
use Rattle.native_layout.proofs.overlap.count_up_to.Goals as goal

pub returns : goal.returns
returns c =
    let parted = IsPartitionedBy-leb (λ (x : ℕ). x) c.args.numbers.now c.args.most c.requires in
    let point = IsPartitionPoint-from_clause (λ (x : ℕ). nat_le x c.args.most) _ _ c.partition_point.ensures.partitioned parted (λ a r q k. search rules) in
    count_by-partitioned (λ (x : ℕ). nat_le x c.args.most) _ _ c.partition_point.ensures.bound point
